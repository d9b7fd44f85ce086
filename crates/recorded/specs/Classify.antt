-- The recorded fit of a window, and which fit the window takes: 01, "The recorded fit".
use Rattle.std.specs.Prelude.{ℕ, ◌+◌, ◌-◌, max, Bool, true, false, cond, List, [], ◌∷◌, length, replicate, Float}
use Rattle.std.specs.Float.{binary32}
use Rattle.std.specs.Float.Ieee.{of_bits, add, mul, div, neg, lt, le}
use Rattle.float.specs.Values.{zero32, one32, whole32, magnitude}
use Rattle.float.specs.Root.{rooted}
use Rattle.float.specs.Series.{at, fill}
use Rattle.window.specs.Walk.{many, is_row}
use Rattle.delay.specs.declared.RateModel.{RateModel}
use Rattle.delay.specs.declared.Entry.{Entry}
use Rattle.std.specs.Prelude.{Option, Some, None}
use Rattle.delay.specs.HalfTicks.{of_recorded}
use Rattle.delay.specs.Tie.{delay_to_fit, entry_count}
use Rattle.least_squares.specs.declared.Solution.{Solution}
use Rattle.recorded.specs.declared.RecordedFit.{RecordedFit}
use Rattle.recorded.specs.declared.Classified.{Classified}
use Rattle.recorded.specs.declared.Classified.TheVariants.{Recorded, Integrated, Unexcited, Saturated}
use Rattle.rows.specs.Rows.{sum_rows, window_sums, no_sums}
use Rattle.least_squares.specs.Solve.{solve}

-- 0.01, 0.017, 0.2 and 0.999
abbrev pub tie_share : Float
tie_share = of_bits binary32 0x3c23_d70a

abbrev pub noisy_residual : Float
noisy_residual = of_bits binary32 0x3c8b_4396

abbrev pub saturated_share : Float
saturated_share = of_bits binary32 0x3e4c_cccd

abbrev pub saturated_moment : Float
saturated_moment = of_bits binary32 0x3f7f_be77

-- "Delay d is 1 to 10"
abbrev pub max_delay : ℕ
max_delay = 10

-- max(n, 1), as f32
abbrev pub at_least_one : ℕ → Float
at_least_one n = whole32 (max n 1)

-- "effect is their sum": the moment weights c2, c3, c4
unfoldable pub effect_of : Solution → Float
effect_of s = add binary32 (add binary32 (at s.c 2) (at s.c 3)) (at s.c 4)

-- a delay's entry in the tie rule
unfoldable pub entry_of : Option Solution → Option Entry
entry_of None = None
entry_of (Some s) = Some (record { effect = effect_of s; residual = s.residual })

-- "Solution c0..c5 gives rate weights 1 + c0 + c1 and -c1, moment weights c2, c3, c4"
unfoldable pub model_of : Solution → ℕ → Float → RateModel
model_of s p dt = record {
  r1 = add binary32 (add binary32 one32 (at s.c 0)) (at s.c 1);
  r2 = neg (at s.c 1);
  m0 = at s.c 2;
  m1 = at s.c 3;
  m2 = at s.c 4;
  delay = of_recorded p;
  dt_s = dt;
}

-- the model of the position that won, with "root(residual/max(rows, 1))"
unfoldable pub fit_at : Option Solution → ℕ → Float → ℕ → Option RecordedFit
fit_at None p dt rows = None
fit_at (Some s) p dt rows = Some (record { model = model_of s p dt; rms = rooted (div binary32 s.residual (at_least_one rows)) })

unfoldable pub fit_of : Option ℕ → (ℕ → Option Solution) → Float → ℕ → Option RecordedFit
fit_of None solved_at dt rows = None
fit_of (Some p) solved_at dt rows = fit_at (solved_at (p - 1)) p dt rows

-- the entries of the tie rule: one for each delay, shortest first, and none after them
unfoldable pub entries : (ℕ → Option Solution) → List (Option Entry)
entries solved_at = fill (λ n l. entry_of (solved_at n)) (replicate entry_count None) max_delay

-- the fits of each delay, place n that of delay n + 1
unfoldable pub solved_at : List Float → List Float → List Bool → ℕ → Option Solution
solved_at rates moments marks n = solve (window_sums rates moments marks (length rates) (n + 1) no_sums)

-- "dt_s = summed dt_s of the rows over max(rows, 1), each row bringing window duration / max(stored, 1)"
unfoldable pub rows_dt : List Bool → ℕ → Float → Float
rows_dt marks stored duration =
    div binary32
    (sum_rows marks stored (λ k. div binary32 duration (at_least_one stored)) zero32)
    (at_least_one (many is_row marks))

-- "Share is 0.01 here, and the position is d"
unfoldable pub fit_recorded : List Float → List Float → List Bool → Float → Option RecordedFit
fit_recorded rates moments marks duration =
    fit_of (delay_to_fit tie_share (entries (solved_at rates moments marks))) (solved_at rates moments marks)
    (rows_dt marks (length rates) duration) (many is_row marks)

-- a moment at the rail: "|moment| >= 0.999"
unfoldable pub at_rail : Float → Bool
at_rail moment = le saturated_moment (magnitude moment)

unfoldable pub count_at_rail : List Float → ℕ
count_at_rail [] = 0
count_at_rail (x ∷ xs) = cond (at_rail x) 1 0 + count_at_rail xs

-- "Saturated if the count of |moment| >= 0.999, as f32, is strictly above 0.2·stored"
unfoldable pub saturated : List Float → Bool
saturated moments = lt (mul binary32 saturated_share (whole32 (length moments))) (whole32 (count_at_rail moments))

abbrev pub noisy_class : Bool → Classified
noisy_class true = Saturated
noisy_class false = Integrated

abbrev pub quiet_or : Bool → RateModel → List Float → Classified
quiet_or true model moments = Recorded model
quiet_or false model moments = noisy_class (saturated moments)

-- "No winner: Unexcited. root(residual/max(rows, 1)) <= 0.017: done. Otherwise Saturated if ..; else integrated."
unfoldable pub class_of : Option RecordedFit → List Float → Classified
class_of None moments = Unexcited
class_of (Some fit) moments = quiet_or (le fit.rms noisy_residual) fit.model moments

unfoldable pub classify : List Float → List Float → List Bool → Float → Classified
classify rates moments marks duration = class_of (fit_recorded rates moments marks duration) moments
