use mathlib.Core.Path.{◌≡◌, refl, sym, ap, ◌∙◌, subst}
use Prim.Native.Nat.{ℕ, ◌*◌, ◌^◌}
use native.Mathlib.Omega.{arith}
use Rattle.whole_root.specs.Rounds.{one_round, rounds, whole_of, Whole}
use Rattle.whole_root.proofs.Rounds.{one_more, room, whole}
use Rattle.whole_root.proofs.whole_root.Goals as goal

pub loop-init : goal.loop-init
unfolding rounds
loop-init c = (omega arith, refl)

pub one_round-s-requires : goal.one_round-s-requires
one_round-s-requires c = let l = c.loop in rw l.invariant.1 (room l.counter c.args.n l.invariant.0 c.ranges.n.fits)

pub loop-preserved : goal.loop-preserved
loop-preserved c =
    let l = c.loop in
    (omega arith, c.one_round-s.ensures ∙ ap one_round l.invariant.1 ∙ one_more l.counter c.args.n)

pub returns : goal.returns
unfolding whole_of
returns c =
    let l = c.loop in
    let n = c.args.n in
    let e = ap whole_of (l.invariant.1 ∙ ap (λ (k : ℕ). rounds k n) (let r : l.counter ≡ 24 = omega arith in r)) in
    record { rounds = e; whole = subst (Whole (n * 2 ^ 16)) (sym e) (whole n c.ranges.n.fits) }
