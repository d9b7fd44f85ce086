-- The code's one test is the definition's; that a lag is proper is `proper_lag`.
use Rattle.std.proofs.Common.{rules, true, false, sym, subst}
use Rattle.std.proofs.lemmas.Float.{T_from_true}
use Rattle.units.specs.Units.{ProperLag}
use Rattle.units.proofs.ProperLag.{tested, proper_lag}
use Rattle.units.proofs.units_at.Goals as goal

pub returns-then-pole-is_nan-clause-units : goal.returns-then-pole-is_nan-clause-units
returns-then-pole-is_nan-clause-units c = tested _ _ _ _ true c.is_nan.ensures.value c.if-pole-is_nan.true

pub returns-clause-units : goal.returns-clause-units
returns-clause-units c =
    rw (c.lag.ensures, c.acceleration.ensures) (tested _ _ _ _ false c.is_nan.ensures.value c.if-pole-is_nan.false)

pub returns-clause-lag : goal.returns-clause-lag
returns-clause-lag c p =
    let a = c.args in
    let is = tested a.effect a.dt_s a.pole c.is_nan.result false c.is_nan.ensures.value c.if-pole-is_nan.false in
    rw c.lag.ensures (subst ProperLag (sym is) (proper_lag a.effect a.dt_s a.pole p (T_from_true _ (search rules))))
