-- `float::exp` meets its contract: widening is exact, and on either side of -104 the code is the definition's expression,
-- of which `exp_unit` is the bound.
use Rattle.std.proofs.Common.{◌≡◌, true, false, T, sym, ap, ◌∙◌, subst}
use lib.Ieee.{Float, binary32, binary64, fits, of_bits, neg, div, lt, le}
use Rattle.float.specs.Values.{zero32}
use Rattle.float.specs.Narrow.{narrowed}
use Rattle.float.specs.Exp.{horner, squared, exp_of, InUnit}
use Rattle.float.proofs.ExpSteps.{exp_below, exp_above}
use Rattle.float.proofs.ExpUnit.{exp_unit}
use Rattle.float.proofs.exp.Goals as goal

-- what is `exp_of x` lies in 0 to 1 too, for an x that is at most 0

unit : (x : Float) → fits binary32 x ≡ true → {r : Float} → r ≡ exp_of x → T (le x zero32) → InUnit r
unit x f e h = subst InUnit (sym e) (exp_unit x (subst T (sym f) tt) h)

pub returns-then-wide : goal.returns-then-wide
returns-then-wide c =
    let e = exp_below c.args.x (subst (λ (w : Float). lt w (neg (of_bits binary64 0x405a_0000_0000_0000)) ≡ true) c.from-wide.ensures c.if-wide.true) in
    record { value = e; unit = unit c.args.x c.well_formed.0.1 e }

pub returns : goal.returns
returns c =
    let wide = c.from-wide.ensures in
    let e =
    c.narrow.ensures
    ∙ ap narrowed (c.squared_ten_times.ensures ∙ ap (squared 10) (c.series.ensures ∙ ap (λ (w : Float). horner (div binary64 w (of_bits binary64 0x4090_0000_0000_0000)) 8) wide))
    ∙ exp_above c.args.x (subst (λ (w : Float). lt w (neg (of_bits binary64 0x405a_0000_0000_0000)) ≡ false) wide c.if-wide.false) in
    record { value = e; unit = unit c.args.x c.well_formed.0.1 e }
