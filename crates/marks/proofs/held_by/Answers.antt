-- The marks are made one by one, each that of its byte.
use Rattle.std.proofs.Common.{rules, ℕ, Bool, List, false, ◌≡◌, ◌∙◌, sym, refl, length, get_or}
use lib.ListN.{replicate, length-replicate}
use Rattle.float.specs.Series.{fill}
use Rattle.float.proofs.Made.{made_new}
use Rattle.marks.specs.Marks.{is_marked, marks_by}
use Rattle.marks.proofs.Marks.{mapped}
use Rattle.marks.proofs.held_by.Goals as goal

pub returns : goal.returns
returns c =
    let bytes = c.args.marks.now in
    let n = c.told-marks in
    let g : ℕ → List Bool → Bool = λ j l. is_marked (get_or bytes j 0) in
    let l : List Bool = replicate 2048 false in
    let same : fill g l (length bytes) ≡ marks_by bytes = mapped is_marked 0 bytes g l (length-replicate 2048 false ∙ sym n) (λ j p. refl) in
    made_new _ _ (λ k. is_marked (get_or bytes k 0)) (search rules) c.from_fn.result 2048 false c.from_fn.ensures.items ∙ rw n at same
