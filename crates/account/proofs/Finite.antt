-- The model of a probe that is done by the integrated fit holds finite numbers only; a done probe that made gain fits is such a one.
use Prim.Native.Nat.{ℕ, ◌≤◌}
use mathlib.Core.Path.{◌≡◌, refl}
use mathlib.Core.Bool.{Bool, true, false}
use native.Mathlib.Omega.{arith}
use Rattle.delay.specs.declared.RateModel.{RateModel}
use Rattle.recorded.specs.declared.Classified.{Classified}
use Rattle.recorded.specs.declared.Classified.TheVariants.{Recorded, Integrated, Unexcited, Saturated}
use Rattle.std.specs.Prelude.{Option, Some, None}
use Rattle.integrated.specs.Integrated.{fit_integrated}
use Rattle.finite_model.specs.FiniteModel.{FiniteModel}
use Rattle.finite_model.proofs.Multiples.{NonNegative}
use Rattle.finite_model.proofs.Model.{integrated_finite}
use Rattle.account.specs.declared.IdentifyStatus.TheVariants as status
use Rattle.account.specs.Probe.{finished, status_of, stands}
use Rattle.account.specs.Account.{Account, rates_of, moments_of, account_class}
use Rattle.account.proofs.Follow.{stands_of}

modelled : (f : Option RateModel) (m : RateModel) → status_of f ≡ status.Done m → f ≡ Some m
modelled (Some n) m e = cc
modelled None m e = absurd (let z : ◌≡◌ {A = ℕ} 0 1 = cc in omega arith)

module _ (a : Account) where
  fitted_by : (x : Classified) (m : RateModel) → (finished x (rates_of a) (moments_of a) a.duration).status ≡ status.Done m
      → 1 ≤ (finished x (rates_of a) (moments_of a) a.duration).fits → x ≡ Integrated
  unfolding finished
  fitted_by (Recorded n) m e h = absurd (omega arith)
  fitted_by Integrated m e h = refl
  fitted_by Unexcited m e h = absurd (omega arith)
  fitted_by Saturated m e h = absurd (omega arith)

  -- a done probe that made gain fits has an integrated window
  pub integrated_class : (r : Bool) (m : RateModel) → (stands_of r a).status ≡ status.Done m → 1 ≤ (stands_of r a).fits → account_class a ≡ Integrated
  unfolding stands
  integrated_class true m e h = absurd (omega arith)
  integrated_class false m e h = fitted_by (account_class a) m e h

  finite_of : (x : Classified) (m : RateModel) → NonNegative a.duration → (finished x (rates_of a) (moments_of a) a.duration).status ≡ status.Done m → x ≡ Integrated → FiniteModel m
  unfolding finished
  finite_of Integrated m d e h = integrated_finite (rates_of a) (moments_of a) a.duration m d (modelled (fit_integrated (rates_of a) (moments_of a) a.duration).model m e)
  finite_of (Recorded n) m d e h = absurd (let z : ◌≡◌ {A = ℕ} 0 1 = cc in omega arith)
  finite_of Unexcited m d e h = absurd (let z : ◌≡◌ {A = ℕ} 0 1 = cc in omega arith)
  finite_of Saturated m d e h = absurd (let z : ◌≡◌ {A = ℕ} 0 1 = cc in omega arith)

  pub finite_model : (r : Bool) (m : RateModel) → NonNegative a.duration → (stands_of r a).status ≡ status.Done m → account_class a ≡ Integrated → FiniteModel m
  unfolding stands
  finite_model true m d e h = absurd (let z : ◌≡◌ {A = ℕ} 0 1 = cc in omega arith)
  finite_model false m d e h = finite_of (account_class a) m d e h
