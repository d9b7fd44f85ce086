-- What is kept after a call is read as the band after it, for a dt that is above 0, as each is that no rule turns back. Of a plain probe nothing is kept.
use mathlib.Core.Path.{◌≡◌, refl, sym, ap}
use Rattle.std.specs.Prelude.{ℕ, zero, suc, Bool, true, false, Float}
use Rattle.std.specs.Float.Ieee.{lt}
use Rattle.float.specs.Values.{zero32}
use Rattle.rules.specs.declared.Rule.{Rule}
use Rattle.rules.specs.Numbers.{number_of}
use Rattle.rules.proofs.Numbers.{above_0}
use Rattle.steady.specs.declared.Band.TheVariants.{Plain}
use Rattle.steady.specs.declared.SteadyClock.{SteadyClock}
use Rattle.steady.specs.Band.{keeps}
use Rattle.steady.specs.Guarded.{band_after}
use Rattle.steady.specs.Kept.{around, band_in, first_after, clock_after}

pub plain_after : (n : ℕ) (r : Bool) (dt : Float) → band_after n r Plain dt ≡ Plain
unfolding band_after keeps
plain_after (suc n) r dt = refl
plain_after zero false dt = refl
plain_after zero true dt = refl

pub plain_first : (n : ℕ) (r : Bool) (first dt : Float) → first_after n r Plain first dt ≡ first
unfolding first_after
plain_first (suc n) r first dt = refl
plain_first zero false first dt = refl
plain_first zero true first dt = refl

steady_after : (b : Bool) (w n : ℕ) (r : Bool) (first dt : Float) → lt zero32 first ≡ b → (n ≡ 0 → lt zero32 dt ≡ true)
    → band_in (suc w) (first_after n r (around b first) first dt) ≡ band_after n r (around b first) dt
unfolding band_in first_after band_after keeps around
steady_after b w (suc n) r first dt e h = ap (λ (t : Bool). around t first) e
steady_after b w zero false first dt e h = ap (λ (t : Bool). around t first) e
steady_after true w zero true first dt e h = ap (λ (t : Bool). around t first) e
steady_after false w zero true first dt e h = ap (λ (t : Bool). around t dt) (h refl)

pub band_kept : (w n : ℕ) (r : Bool) (first dt : Float) → (n ≡ 0 → lt zero32 dt ≡ true)
    → band_in w (first_after n r (band_in w first) first dt) ≡ band_after n r (band_in w first) dt
unfolding band_in
band_kept zero n r first dt h = sym (plain_after n r dt)
band_kept (suc w) n r first dt h = steady_after (lt zero32 first) w n r first dt refl h

-- a refused call leaves the clock as it was
pub clock_stays : (r : Rule) (running : Bool) (dt : Float) (w : SteadyClock) → clock_after (number_of r) running dt w ≡ w
unfolding first_after
clock_stays r running dt w = rw (above_0 r) refl
