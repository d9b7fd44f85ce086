-- `float::narrow` meets its contract, a case for each of its returns: x is what its own bits say, and `NarrowFields` has what each exponent's field narrows to.
use Rattle.std.proofs.Common.{◌≡◌, ◌/◌, ◌%◌, ◌^◌, not, T, leb, sym, ap, ◌∙◌, subst, lit≤}
use lib.Ieee.{Float, binary64, of_bits, to_bits, of_fields, is_nan}
use Rattle.float.specs.Narrow.{narrowed}
use Rattle.float.proofs.Nan.{only_nan}
use Rattle.float.proofs.Fields.{own}
use Rattle.float.proofs.Pattern.{units_inf}
use Rattle.float.proofs.NarrowFields.{narrowed_nan, narrow_subnormal, narrow_normal, narrow_infinite}
use Rattle.float.proofs.narrow.Goals as goal
use Rattle.float.proofs.narrow.Goals.{Start}

own_bits : (c : Start) → let b = to_bits binary64 c.args.x in c.args.x ≡ of_fields binary64 (leb (2 ^ 63) b) (b % 2 ^ 63 / 2 ^ 52) (b % 2 ^ 52)
own_bits c = own binary64 c.args.x (subst T (sym c.well_formed.0.1) tt)

pub returns-then-is_nan : goal.returns-then-is_nan
unfolding of_bits
returns-then-is_nan c = sym (ap narrowed (only_nan c.args.x (sym c.is_nan.ensures.value ∙ c.if-is_nan.true)) ∙ narrowed_nan)

pub returns-then-exponent-eq2047 : goal.returns-then-exponent-eq2047
returns-then-exponent-eq2047 c =
    let x = c.args.x in
    let b = to_bits binary64 x in
    let s = leb (2 ^ 63) b in
    let o = own_bits (goal.at.returns-then-exponent-eq2047 c).Start in
    c.packed.ensures
    ∙ units_inf s 0x80_0000 254 (lit≤ tt)
    ∙ sym (ap narrowed o
    ∙ narrow_infinite s (b % 2 ^ 63 / 2 ^ 52) (b % 2 ^ 52) c.if-exponent-eq2047.true (subst (λ (v : Float). T (not (is_nan v))) o c.if-is_nan.ensures.not_nan))

pub returns-then-exponent-eq0 : goal.returns-then-exponent-eq0
returns-then-exponent-eq0 c =
    let b = to_bits binary64 c.args.x in
    c.nearest.ensures
    ∙ sym (ap narrowed (own_bits (goal.at.returns-then-exponent-eq0 c).Start) ∙ narrow_subnormal (leb (2 ^ 63) b) (b % 2 ^ 63 / 2 ^ 52) (b % 2 ^ 52) c.if-exponent-eq0.true)

pub returns : goal.returns
returns c =
    let b = to_bits binary64 c.args.x in
    c.nearest-2.ensures
    ∙ sym (ap narrowed (own_bits (goal.at.returns c).Start) ∙ narrow_normal (leb (2 ^ 63) b) (b % 2 ^ 63 / 2 ^ 52) (b % 2 ^ 52) c.if-exponent-eq0.false c.if-exponent-eq2047.false)
