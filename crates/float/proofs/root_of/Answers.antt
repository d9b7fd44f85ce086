-- `float::root_of` meets its contract: `Scaled` has what the code's k and n are, and its last test picks the nearer of the whole root and the next number.
use Rattle.std.proofs.Common.{ℕ, ◌*◌, ◌^◌, ◌<◌, ◌≤◌, false, sym, ap, ◌∙◌, subst, inr, lt_of_le_of_lt, zero-mul, arith}
use lib.Ieee.{binary32, units}
use Rattle.whole_root.specs.Rounds.{Whole}
use Rattle.whole_root.proofs.Squares.{square_lt}
use Rattle.float.proofs.WholeRoot.{Scaled, scaled, k_of, n_of, root_of_zero, root_ge, root_whole, whole_up, whole_down}
use Rattle.float.proofs.root_of.Goals as goal
use Rattle.float.proofs.root_of.Goals.{After-whole_root-whole, Else-m-eq0}

known : (c : Else-m-eq0) → Scaled c.args.m c.args.e
known c = scaled c.args.m c.args.e c.requires.0 c.requires.1 c.if-m-eq0.false

given : (c : After-whole_root-whole) → Whole (n_of c.args.m c.args.e) c.whole_root-whole.result
given c = let k = known c.before in subst (λ (n : ℕ). Whole n c.whole_root-whole.result) (ap (λ (n : ℕ). n * 2 ^ 16) k.whole ∙ k.word) c.whole_root-whole.ensures.whole

pub returns-then-m-eq0 : goal.returns-then-m-eq0
returns-then-m-eq0 c =
    let a = c.args in
    root_of_zero (a.m * 2 ^ a.e) (ap (λ (x : ℕ). x * 2 ^ a.e) c.if-m-eq0.true ∙ zero-mul (2 ^ a.e))

pub overflow_sub-n : goal.overflow_sub-n
overflow_sub-n c = omega (arith, (known (goal.at.overflow_sub-n c).Else-m-eq0).even)

pub overflow_sub-n-2 : goal.overflow_sub-n-2
overflow_sub-n-2 c = omega (arith, (known (goal.at.overflow_sub-n-2 c).Else-m-eq0).even)

pub overflow_cast-n : goal.overflow_cast-n
overflow_cast-n c = record { fits = subst (λ (n : ℕ). n < 2 ^ 32) (sym (known (goal.at.overflow_cast-n c).Else-m-eq0).whole) (known (goal.at.overflow_cast-n c).Else-m-eq0).small }

-- the root has 24 digits

digits_24 : (c : After-whole_root-whole) → (2 ^ 23 ≤ c.whole_root-whole.result.root) × (c.whole_root-whole.result.root < 2 ^ 24)
digits_24 c =
    let k = known c.before in
    let r = root_whole _ _ (given c) in
    (root_ge _ _ k.over r, square_lt c.whole_root-whole.result.root (2 ^ 24) (lt_of_le_of_lt r.0 k.under))

k_lt : (m e : ℕ) → e < 2 ^ 9 → k_of m e < 2 ^ 11
k_lt m e h = omega arith

pub packed-requires : goal.packed-requires
packed-requires c =
    let d = digits_24 (goal.at.packed-requires c).After-whole_root-whole in
    (omega (arith, d.1), k_lt c.args.m c.args.e c.requires.2, inr (omega (arith, d.0)))

pub returns-then-whole : goal.returns-then-whole
returns-then-whole c =
    let a = c.args in
    let k = known (goal.at.returns-then-whole c).Else-m-eq0 in
    c.packed.ensures
    ∙ ap (λ (q : ℕ). units binary32 false q (k_of a.m a.e)) (sym (whole_up (n_of a.m a.e) _ k.under (given (goal.at.returns-then-whole c).After-whole_root-whole) c.if-whole.true))
    ∙ sym k.is

pub packed-requires-2 : goal.packed-requires-2
packed-requires-2 c =
    let d = digits_24 (goal.at.packed-requires-2 c).After-whole_root-whole in
    (omega (arith, d.1), k_lt c.args.m c.args.e c.requires.2, inr d.0)

pub returns : goal.returns
returns c =
    let a = c.args in
    let k = known (goal.at.returns c).Else-m-eq0 in
    c.packed-2.ensures
    ∙ ap (λ (q : ℕ). units binary32 false q (k_of a.m a.e)) (sym (whole_down (n_of a.m a.e) _ k.under (given (goal.at.returns c).After-whole_root-whole) c.if-whole.false))
    ∙ sym k.is
