-- What is written is read back as the same probe.
use Prim.Native.Nat.{◌≤◌, min}
use mathlib.Core.Path.{◌≡◌, refl}
use mathlib.Core.Bool.{Bool, true, false, not}
use mathlib.Core.List.{◌∷◌}
use native.Mathlib.Omega.{arith}
use lib.Dec.{eqb}
use lib.Ieee.{Float}
use Rattle.window.specs.Samples.{capacity}
use Rattle.window.specs.Arrays.{stored_of}
use Rattle.account.specs.declared.IdentifyExtension.{IdentifyExtension}
use Rattle.std.specs.Prelude.{Option, Some, None}
use Rattle.account.specs.declared.IdentifyStatus.{IdentifyStatus}
use Rattle.account.specs.declared.IdentifyStatus.TheVariants.{Running, Done, Unexcited, Saturated}
use Rattle.account.specs.Probe.{delay_of}
use Rattle.report.specs.Report.{kind_of, floats_of}
use Rattle.identify.specs.declared.IdentifyProbe.{IdentifyProbe}
use Rattle.probe_words.specs.Layout.{Scalars, flag_of, extension_flag, extension_or_zeros, noisy_by, status_by, probe_in, words_of, floats_in, scalars_of}

flag_back : (b : Bool) → not (eqb (flag_of b) 0) ≡ b
flag_back true = refl
flag_back false = refl

noisy_back : (n : Option IdentifyExtension) → noisy_by (extension_flag n) (extension_or_zeros n).amplitude (extension_or_zeros n).duration_s ≡ n
unfolding noisy_by extension_flag extension_or_zeros
noisy_back None = refl
noisy_back (Some x) = refl

status_back : (s : IdentifyStatus) (a b c d e f g h : Float) → status_by (kind_of s) (delay_of s).half_ticks (a ∷ b ∷ c ∷ d ∷ e ∷ f ∷ g ∷ h ∷ floats_of s) ≡ s
unfolding status_by kind_of delay_of floats_of
status_back (Running x) a b c d e f g h = refl
status_back (Done m) a b c d e f g h = refl
status_back Unexcited a b c d e f g h = refl
status_back Saturated a b c d e f g h = refl

-- a probe whose window is within its arrays
pub back : (p : IdentifyProbe) → p.window.len ≤ capacity → probe_in (scalars_of p) ≡ p
unfolding probe_in words_of floats_in stored_of
back p h =
    let stored : min (min p.window.len capacity) capacity ≡ p.window.len = omega arith in
    λ i. record {
      duration_s = p.duration_s;
      noisy = noisy_back p.noisy i;
      status = status_back p.status p.duration_s (extension_or_zeros p.noisy).amplitude (extension_or_zeros p.noisy).duration_s p.sweep.amplitude p.sweep.washout_tc_s p.sweep.next_edge_s p.sweep.washout p.window.duration_s i;
      sweep = record {
        amplitude = p.sweep.amplitude;
        washout_tc_s = p.sweep.washout_tc_s;
        next_edge_s = p.sweep.next_edge_s;
        edge = p.sweep.edge;
        high = flag_back p.sweep.high i;
        washout = p.sweep.washout;
      };
      window = record { len = stored i; duration_s = p.window.duration_s };
      ticks = p.ticks;
      gain_fits = p.gain_fits;
    }

-- any content is read as such a one
pub inside : (s : Scalars) → (probe_in s).window.len ≤ capacity
unfolding probe_in
inside s = omega arith
