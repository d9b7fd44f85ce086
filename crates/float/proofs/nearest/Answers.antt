-- `float::nearest` meets its contract: the value does not change as m is moved up (`same`), and from there a fixed number of digits is cut off,
-- or, among the subnormals, as many as lie below the smallest value (`rounds`). Further down it is less than half of the smallest value.
use Rattle.std.proofs.Common.{ℕ, ◌+◌, ◌-◌, ◌*◌, ◌^◌, ◌<◌, ◌≤◌, sym, refl, ap, ◌∙◌, subst, inl, inr, lt_of_lt_of_le, arith, lit<, lit≤, pow_mono}
use lib.Ieee.{binary32, units}
use lib.Ieee.Nearest.{closest}
use Rattle.float.proofs.Closest.{closest_zero, closest_le, closest_ge}
use Rattle.float.proofs.Rounding.{rounds, zeros_of, moved_of, Moved, moved, same, nothing}
use Rattle.float.proofs.nearest.Goals as goal
use Rattle.float.proofs.nearest.Goals.{Else-m-eq0}

known : (c : Else-m-eq0) → Moved c.args.m
known c = moved c.args.m c.requires.0 c.if-m-eq0.false

pub returns-then-m-eq0 : goal.returns-then-m-eq0
returns-then-m-eq0 c =
    let a = c.args in
    c.packed.ensures ∙ sym (nothing a.negative a.m a.e c.if-m-eq0.true)

pub overflow_sub-n : goal.overflow_sub-n
overflow_sub-n c = (known (goal.at.overflow_sub-n c).Else-m-eq0).some

pub returns-then-w-lt924 : goal.returns-then-w-lt924
returns-then-w-lt924 c =
    let a = c.args in
    let s = a.negative in
    let m = a.m in
    let d = known (goal.at.returns-then-w-lt924 c).Else-m-eq0 in
    let t = c.if-w-lt924.true in
    let w = a.e + 63 - zeros_of m in
    c.packed-then-w-lt924.ensures
    ∙ sym (same s m a.e d
    ∙ rounds 1136 63 s (moved_of m) w (987 - w) 0 d.under (omega (arith, t)) (omega (arith, t)) (inl refl)
    ∙ ap (λ (q : ℕ). units binary32 s q 0)
    (closest_zero (moved_of m) (2 ^ (987 - w)) (lt_of_lt_of_le (let r : moved_of m * 2 < 2 ^ 64 = omega (arith, d.under) in r) (pow_mono (let r : 64 ≤ 987 - w = omega (arith, t) in r)))))

pub to_nearest-requires : goal.to_nearest-requires
to_nearest-requires c =
    let d = known (goal.at.to_nearest-requires c).Else-m-eq0 in
    (subst (λ (n : ℕ). n < 2 ^ 63) (sym d.whole) d.under, omega (arith, c.if-w-lt924.false))

pub packed-requires-then-w-lt949 : goal.packed-requires-then-w-lt949
packed-requires-then-w-lt949 c =
    let a = c.args in
    let w = a.e + 63 - zeros_of a.m in
    let d = known (goal.at.packed-requires-then-w-lt949 c).Else-m-eq0 in (
      subst (λ (q : ℕ). q ≤ 2 ^ 24) (sym (c.to_nearest.ensures ∙ ap (λ (n : ℕ). closest n (2 ^ (987 - w))) d.whole))
          (closest_le 63 (moved_of a.m) (987 - w) d.under (omega (arith, c.if-w-lt949.true))),
      lit< tt,
      inl refl,
    )

pub returns-then-w-lt949 : goal.returns-then-w-lt949
returns-then-w-lt949 c =
    let a = c.args in
    let s = a.negative in
    let m = a.m in
    let d = known (goal.at.returns-then-w-lt949 c).Else-m-eq0 in
    let t = c.if-w-lt949.true in
    let w = a.e + 63 - zeros_of m in
    c.packed-then-w-lt949.ensures
    ∙ ap (λ (q : ℕ). units binary32 s q 0) (c.to_nearest.ensures ∙ ap (λ (n : ℕ). closest n (2 ^ (987 - w))) d.whole)
    ∙ sym (same s m a.e d ∙ rounds 1136 63 s (moved_of m) w (987 - w) 0 d.under (omega (arith, t)) (omega (arith, t)) (inl refl))

pub to_nearest-requires-2 : goal.to_nearest-requires-2
to_nearest-requires-2 c =
    let d = known (goal.at.to_nearest-requires-2 c).Else-m-eq0 in
    (subst (λ (n : ℕ). n < 2 ^ 63) (sym d.whole) d.under, lit< tt)

pub packed-requires-2 : goal.packed-requires-2
packed-requires-2 c =
    let m = c.args.m in
    let d = known (goal.at.packed-requires-2 c).Else-m-eq0 in
    let e = sym (c.to_nearest-2.ensures ∙ ap (λ (n : ℕ). closest n (2 ^ 39)) d.whole) in (
      subst (λ (q : ℕ). q ≤ 2 ^ 24) e (closest_le 63 (moved_of m) 39 d.under (lit≤ tt)),
      omega (arith, d.some),
      inr (subst (λ (q : ℕ). 2 ^ 23 ≤ q) e (closest_ge (moved_of m) 39 d.over)),
    )

pub returns : goal.returns
returns c =
    let a = c.args in
    let s = a.negative in
    let m = a.m in
    let d = known (goal.at.returns c).Else-m-eq0 in
    let w = a.e + 63 - zeros_of m in
    c.packed-2.ensures
    ∙ ap (λ (q : ℕ). units binary32 s q (w - 948)) (c.to_nearest-2.ensures ∙ ap (λ (n : ℕ). closest n (2 ^ 39)) d.whole)
    ∙ sym (same s m a.e d
    ∙ rounds 1136 63 s (moved_of m) w 39 (w - 948) d.under (omega (arith, c.if-w-lt949.false)) (lit≤ tt) (inr (refl, omega (arith, d.over))))
