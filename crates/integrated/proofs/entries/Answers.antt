-- `integrated::entries` meets its contract: each entry is its candidate's.
use Rattle.std.proofs.Common.{◌≡◌, ◌<◌, length, get_or, map, None, sym, ◌∙◌, arith, rules}
use Rattle.std.proofs.lemmas.List.{get_or-map, length-map}
use Rattle.std.proofs.Math.Seq.{ext_get_or}
use Rattle.integrated.specs.Integrated.{entry_of}
use Rattle.integrated.proofs.entries.Goals as goal

pub returns : goal.returns
returns c =
    let k = c.args.kept in let m = c.map.ensures.items in
    let l : length k ≡ 20 = omega (arith, c.well_formed.0) in
    ext_get_or None c.map.result (map entry_of k) (m.long ∙ sym (rw length-map l))
    (λ s p.
    let h : s < 20 = omega (arith, m.long) in
    let q = m.at s None None h in
    let e : get_or c.map.result s None ≡ entry_of (get_or k s None) = search (rules, m.at s None None h) in
    e ∙ sym (get_or-map entry_of k s None None (omega arith)))
