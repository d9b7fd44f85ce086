-- `float::root` meets its contract, a case for each of its returns: x is what its own bits say, and `RootFields` has the root for each exponent's field.
-- That it is the nearest is `nearest_root`.
use Rattle.std.proofs.Common.{◌≡◌, ◌/◌, ◌%◌, ◌^◌, true, false, not, T, sym, ap, ◌∙◌, subst}
use lib.Ieee.{Float, binary32, of_bits, to_bits, of_fields, fits, is_nan}
use lib.Ieee.Bits.{of_bits-to_bits}
use lib.Ieee.Positive.{positive}
use Rattle.float.specs.Root.{rooted, NearestRoot}
use Rattle.float.proofs.Nan.{only_nan}
use Rattle.float.proofs.Signs.{plain}
use Rattle.float.proofs.RootFields.{root_finite, root_infinite, rooted_nan, minus_zero, below_zero}
use Rattle.float.proofs.RootNear.{nearest_root}
use Rattle.float.proofs.root.Goals as goal
use Rattle.float.proofs.root.Goals.{Else-bits-gt2147483648}

-- what is `rooted x` is the nearest root too

near : (x : Float) → fits binary32 x ≡ true → {r : Float} → r ≡ rooted x → T (positive x) → NearestRoot x r
near x f e p = subst (NearestRoot x) (sym e) (nearest_root x (subst T (sym f) tt) p)

-- past the tests of the sign

own_bits : (c : Else-bits-gt2147483648) → let x = c.args.x in x ≡ of_fields binary32 false (to_bits binary32 x % 2 ^ 31 / 2 ^ 23) (to_bits binary32 x % 2 ^ 23)
own_bits c = plain c.args.x (subst T (sym c.well_formed.0.1) tt) c.if-bits-gt2147483648.false c.if-bits.false

pub returns-then-is_nan : goal.returns-then-is_nan
unfolding of_bits
returns-then-is_nan c =
    let e = sym (ap rooted (only_nan c.args.x (sym c.is_nan.ensures.value ∙ c.if-is_nan.true)) ∙ rooted_nan) in
    record { value = e; nearest = near c.args.x c.well_formed.0.1 e }

pub returns-then-bits : goal.returns-then-bits
returns-then-bits c =
    let x = c.args.x in
    let e = subst (λ (v : Float). v ≡ rooted v) (ap (of_bits binary32) (sym c.if-bits.true) ∙ of_bits-to_bits binary32 x (subst T (sym c.well_formed.0.1) tt)) minus_zero in
    record { value = e; nearest = near x c.well_formed.0.1 e }

pub returns-then-bits-gt2147483648 : goal.returns-then-bits-gt2147483648
unfolding of_bits
returns-then-bits-gt2147483648 c =
    let e = sym (below_zero c.args.x (subst T (sym c.well_formed.0.1) tt) c.if-bits-gt2147483648.true) in
    record { value = e; nearest = near c.args.x c.well_formed.0.1 e }

pub returns-then-exponent-eq255 : goal.returns-then-exponent-eq255
returns-then-exponent-eq255 c =
    let x = c.args.x in
    let b = to_bits binary32 x in
    let o = own_bits (goal.at.returns-then-exponent-eq255 c).Else-bits-gt2147483648 in
    let e =
    o
    ∙ root_infinite (b % 2 ^ 31 / 2 ^ 23) (b % 2 ^ 23) c.if-exponent-eq255.true (subst (λ (v : Float). T (not (is_nan v))) o c.if-is_nan.ensures.not_nan)
    ∙ ap rooted (sym o) in
    record { value = e; nearest = near x c.well_formed.0.1 e }

pub returns : goal.returns
returns c =
    let x = c.args.x in
    let b = to_bits binary32 x in
    let e =
    c.root_of.ensures
    ∙ sym (ap rooted (own_bits (goal.at.returns c).Else-bits-gt2147483648) ∙ root_finite (b % 2 ^ 31 / 2 ^ 23) (b % 2 ^ 23) c.min-hidden.result c.min-hidden.ensures c.if-exponent-eq255.false) in
    record { value = e; nearest = near x c.well_formed.0.1 e }
