-- A model of finite numbers: 02, four, "An integrated model then holds finite numbers only."
use Rattle.std.specs.Prelude.{◌≡◌, true, T, Float}
use Rattle.std.specs.Float.{binary32}
use Rattle.std.specs.Float.Ieee.{fits}
use Rattle.float.specs.Values.{finite}
use Rattle.delay.specs.declared.RateModel.{RateModel}

-- a finite f32
pub record FiniteF32 (x : Float) : Type 0 where
  pub real : finite x ≡ true
  pub held : T (fits binary32 x)

-- the six floats of a model are finite
pub record FiniteModel (m : RateModel) : Type 0 where
  pub r1 : FiniteF32 m.r1
  pub r2 : FiniteF32 m.r2
  pub m0 : FiniteF32 m.m0
  pub m1 : FiniteF32 m.m1
  pub m2 : FiniteF32 m.m2
  pub dt_s : FiniteF32 m.dt_s
