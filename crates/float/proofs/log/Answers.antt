-- `float::log` meets its contract, a case for each of its returns: x is what its own bits say, and `LogFields` has the logarithm for each exponent's field.
use Rattle.std.proofs.Common.{◌≡◌, ℕ, ◌/◌, ◌%◌, ◌^◌, ◌<◌, false, not, T, sym, ap, ◌∙◌, subst, ⊎_elim, arith}
use lib.Ieee.{Float, binary32, of_bits, to_bits, of_fields, fits, is_nan}
use lib.Ieee.Bits.{of_bits-to_bits, to_bits-lt}
use Rattle.float.specs.Log.{log_of}
use Rattle.std.proofs.lemmas.Bool.{cases_lt}
use Rattle.float.proofs.Nan.{only_nan}
use Rattle.float.proofs.Signs.{plain}
use Rattle.float.proofs.LogFields.{log_nan, log_zero, log_minus_zero, log_negative, log_infinite, log_subnormal, log_normal}
use Rattle.float.proofs.log.Goals as goal
use Rattle.float.proofs.log.Goals.{Else-bits-gt2147483648}

-- past the tests of the zeros and of the sign

own_bits : (c : Else-bits-gt2147483648) → let x = c.args.x in x ≡ of_fields binary32 false (to_bits binary32 x % 2 ^ 31 / 2 ^ 23) (to_bits binary32 x % 2 ^ 23)
own_bits c = plain c.args.x (subst T (sym c.well_formed.0.1) tt) c.if-bits-gt2147483648.false (λ e. c.if-bits-eq0.false (ap (λ (b : ℕ). b % 2 ^ 31) e))

-- the two patterns of a zero

zero_log : (x : Float) → T (fits binary32 x) → to_bits binary32 x % 2 ^ 31 ≡ 0 → of_bits binary32 0xff80_0000 ≡ log_of x
zero_log x f e =
    let h = to_bits-lt binary32 x f in
    let own = of_bits-to_bits binary32 x f in
    ⊎_elim
    (λ (l : to_bits binary32 x < 2 ^ 31). log_zero ∙ ap log_of (ap (of_bits binary32) (let r : 0 ≡ to_bits binary32 x = omega arith in r) ∙ own))
    (λ l. log_minus_zero ∙ ap log_of (ap (of_bits binary32) (let r : 2 ^ 31 ≡ to_bits binary32 x = omega arith in r) ∙ own))
    (cases_lt (to_bits binary32 x) (2 ^ 31))

pub returns-then-is_nan : goal.returns-then-is_nan
unfolding of_bits
returns-then-is_nan c = sym (ap log_of (only_nan c.args.x (sym c.is_nan.ensures.value ∙ c.if-is_nan.true)) ∙ log_nan)

pub returns-then-bits-eq0 : goal.returns-then-bits-eq0
returns-then-bits-eq0 c = zero_log c.args.x (subst T (sym c.well_formed.0.1) tt) c.if-bits-eq0.true

pub returns-then-bits-gt2147483648 : goal.returns-then-bits-gt2147483648
unfolding of_bits
returns-then-bits-gt2147483648 c = sym (log_negative c.args.x (subst T (sym c.well_formed.0.1) tt) c.if-bits-gt2147483648.true)

pub returns-then-exponent-eq255 : goal.returns-then-exponent-eq255
returns-then-exponent-eq255 c =
    let b = to_bits binary32 c.args.x in
    let o = own_bits (goal.at.returns-then-exponent-eq255 c).Else-bits-gt2147483648 in
    o
    ∙ log_infinite (b % 2 ^ 31 / 2 ^ 23) (b % 2 ^ 23) c.if-exponent-eq255.true (subst (λ (v : Float). T (not (is_nan v))) o c.if-is_nan.ensures.not_nan)
    ∙ ap log_of (sym o)

-- no digit of a subnormal value is 0 throughout

some_digit : (b : ℕ) → (b % 2 ^ 31 ≡ 0 → ⊥) → b % 2 ^ 31 / 2 ^ 23 ≡ 0 → 0 < b % 2 ^ 23
some_digit b n e = omega arith

pub returns-then-exponent-eq0 : goal.returns-then-exponent-eq0
returns-then-exponent-eq0 c =
    let b = to_bits binary32 c.args.x in
    c.log_of.ensures
    ∙ sym (ap log_of (own_bits (goal.at.returns-then-exponent-eq0 c).Else-bits-gt2147483648) ∙ log_subnormal (b % 2 ^ 31 / 2 ^ 23) (b % 2 ^ 23) c.if-exponent-eq0.true (some_digit b c.if-bits-eq0.false c.if-exponent-eq0.true))

pub returns : goal.returns
returns c =
    let b = to_bits binary32 c.args.x in
    c.log_of-2.ensures
    ∙ sym (ap log_of (own_bits (goal.at.returns c).Else-bits-gt2147483648) ∙ log_normal (b % 2 ^ 31 / 2 ^ 23) (b % 2 ^ 23) c.if-exponent-eq0.false c.if-exponent-eq255.false)
