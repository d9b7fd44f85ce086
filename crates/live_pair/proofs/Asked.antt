-- A flight in which the second axis alone asks for the extension, evaluated: twelve ticks of 0.25 s, of which the second axis has readings in the last three.
-- At 3 s its window is integrated, and that of the first, all zeros, is not. Both then go on, until 4 s.
use Prim.Native.Nat.{ℕ}
use mathlib.Core.Path.{◌≡◌, refl, ap, fun_ext, ◌∙◌}
use mathlib.Core.Bool.{true, false}
use mathlib.Core.List.{List, [], ◌∷◌, ◌++◌}
use lib.ListN.{replicate}
use lib.Ieee.{Float, binary32, of_bits, of_int, add, sub, mul, div, neg, lt, le, eq, ne, is_nan}
use Rattle.float.specs.Values.{finite, max_zero, least, magnitude}
use Rattle.float.specs.Root.{isqrt, near_root, root_of, rooted}
use Rattle.float.specs.Series.{sum_to, fill}
use Rattle.window.specs.Samples.{last_of}
use Rattle.window.specs.Walk.{run, over, many}
use Rattle.cholesky.specs.Cholesky.{fill_down, less, reduced, factor_entry, factor, above, forward_entry, forward, backward_entry, backward}
use Rattle.least_squares.specs.Solve.{dot, difference_of, all_finite, kept, solve_if, solve_with, solve}
use Rattle.delay.specs.Tie.{considered, residuals, lesser, least_to, within, first_from, under_bar, shortest_tied, delay_to_fit}
use Rattle.rows.specs.Rows.{target, regressors, product, projection, each, sums_by, no_sums, sum_rows, window_sums}
use Rattle.recorded.specs.Classify.{effect_of, entry_of, model_of, fit_at, fit_of, entries, solved_at, rows_dt, fit_recorded, class_of, classify, saturated, count_at_rail, at_rail}
use Rattle.account.specs.declared.IdentifyConfig.{IdentifyConfig}
use Rattle.account.specs.declared.IdentifyExtension.{IdentifyExtension}
use Rattle.std.specs.Prelude.{Option, Some, None}
use Rattle.account.specs.Rules.{positive, overrun, refusal}
use Rattle.account.specs.Account.{Account, Entry, opened, entry, counted, is_integrated, judged, ended, accept, time, turned, continue, next}
use Rattle.two_axis.specs.Axes.{Axis, first, second, TwoCall, two_call, call_of}
use Rattle.two_axis.specs.Accounts.{Accounts, opened_two, wishes, next_two, calls_of, account_two}
use Rattle.two_axis.proofs.Theorem.{continued}

abbrev f : ℕ → Float
f w = of_bits binary32 w

-- amplitude 2, to 4 s
unfoldable pub louder : Option IdentifyExtension
louder = Some (record { amplitude = f 0x4000_0000; duration_s = f 0x4080_0000 })

-- amplitude 1, for 3 s, washout 0.5
unfoldable pub config : IdentifyConfig
config = record { amplitude = f 0x3f80_0000; duration_s = f 0x4040_0000; washout_tc_s = f 0x3f00_0000; noisy = louder }

-- a tick of 0.25 s, with readings of the second axis
unfoldable pub shaken : (rate moment : ℕ) → TwoCall
shaken rate moment = two_call (f 0x3e80_0000) (f 0) (f 0) (f rate) (f moment)

unfoldable pub read : (rate moment : ℕ) → Entry
read rate moment = record { rate = f rate; moment = f moment; held = false }

-- an account that runs, after n ticks in t seconds
unfoldable pub standing : (n t : ℕ) → List Entry → Account
standing n t entries = record { elapsed = f t; ticks = n; entries = entries; duration = f t; end = f 0x4040_0000; unused = louder; running = true }

-- three ticks at a time
unfoldable pub still : List TwoCall
still = shaken 0 0 ∷ shaken 0 0 ∷ shaken 0 0 ∷ []

unfoldable pub quiet : (n t : ℕ) → Accounts
quiet n t x = standing n t (replicate n (read 0 0))

-- then two with readings
unfoldable pub begin : List TwoCall
begin = shaken 0x9b3d_297c 0x1aad_0f34 ∷ shaken 0x9a90_525c 0x9a02_43e5 ∷ []

unfoldable pub eleven : Accounts
eleven first = standing 11 0x4030_0000 (replicate 11 (read 0 0))
eleven second = standing 11 0x4030_0000 (replicate 9 (read 0 0) ++ (read 0x9b3d_297c 0x1aad_0f34 ∷ read 0x9a90_525c 0x9a02_43e5 ∷ []))

-- and the one at which the duration is reached
unfoldable pub last : TwoCall
last = shaken 0x4380_0000 0x9b0d_e315

three : (x : Axis) → account_two (opened_two config) still x ≡ quiet 3 0x3f40_0000 x
unfolding louder config shaken read standing still quiet opened entry counted judged ended accept time turned continue next wishes calls_of positive finite overrun refusal last_of of_bits of_int add lt
three first = refl
three second = refl

six : (x : Axis) → account_two (quiet 3 0x3f40_0000) still x ≡ quiet 6 0x3fc0_0000 x
unfolding louder config shaken read standing still quiet opened entry counted judged ended accept time turned continue next wishes calls_of positive finite overrun refusal last_of of_bits of_int add lt
six first = refl
six second = refl

nine : (x : Axis) → account_two (quiet 6 0x3fc0_0000) still x ≡ quiet 9 0x4010_0000 x
unfolding louder config shaken read standing still quiet opened entry counted judged ended accept time turned continue next wishes calls_of positive finite overrun refusal last_of of_bits of_int add lt
nine first = refl
nine second = refl

then_two : (x : Axis) → account_two (quiet 9 0x4010_0000) begin x ≡ eleven x
unfolding louder config shaken read standing begin quiet eleven opened entry counted judged ended accept time turned continue next wishes calls_of positive finite overrun refusal last_of of_bits of_int add lt
then_two first = refl
then_two second = refl

goes_on : (a b : Accounts) (calls others : List TwoCall) → ((y : Axis) → account_two a calls y ≡ b y) → (x : Axis) → account_two a (calls ++ others) x ≡ account_two b others x
goes_on a b calls others h x = continued calls a others x ∙ ap (λ (d : Accounts). account_two d others x) (fun_ext h)

-- eleven ticks of the flight
pub flown : (x : Axis) → account_two (opened_two config) (still ++ (still ++ (still ++ begin))) x ≡ eleven x
flown x =
    goes_on (opened_two config) (quiet 3 0x3f40_0000) still (still ++ (still ++ begin)) three x
    ∙ goes_on (quiet 3 0x3f40_0000) (quiet 6 0x3fc0_0000) still (still ++ begin) six x
    ∙ goes_on (quiet 6 0x3fc0_0000) (quiet 9 0x4010_0000) still begin nine x
    ∙ then_two x

-- at the twelfth the second axis asks, and the first does not
pub second_alone_asks : (wishes (eleven first) (call_of last first false) ≡ false) × (wishes (eleven second) (call_of last second false) ≡ true)
unfolding louder shaken read standing eleven last wishes entry counted is_integrated judged ended accept time turned continue next positive finite overrun refusal last_of run over many fill_down less reduced factor_entry factor above forward_entry forward backward_entry backward dot difference_of all_finite kept solve_if solve_with solve considered residuals lesser least_to within first_from under_bar shortest_tied delay_to_fit target regressors product projection each sums_by no_sums sum_rows window_sums effect_of entry_of model_of fit_at fit_of entries solved_at rows_dt fit_recorded class_of classify max_zero least isqrt near_root root_of rooted sum_to fill of_bits of_int add sub mul div neg lt le eq ne is_nan saturated count_at_rail at_rail magnitude
second_alone_asks = (refl, refl)

-- and both go on
pub both_extended : (x : Axis) → ((next_two eleven last x).running ≡ true) × ((next_two eleven last x).end ≡ f 0x4080_0000) × ((next_two eleven last x).unused ≡ None)
unfolding louder shaken read standing eleven last wishes entry counted is_integrated judged ended accept time turned continue next positive finite overrun refusal last_of run over many fill_down less reduced factor_entry factor above forward_entry forward backward_entry backward dot difference_of all_finite kept solve_if solve_with solve considered residuals lesser least_to within first_from under_bar shortest_tied delay_to_fit target regressors product projection each sums_by no_sums sum_rows window_sums effect_of entry_of model_of fit_at fit_of entries solved_at rows_dt fit_recorded class_of classify max_zero least isqrt near_root root_of rooted sum_to fill of_bits of_int add sub mul div neg lt le eq ne is_nan saturated count_at_rail at_rail magnitude
both_extended first = (refl, refl, refl)
both_extended second = (refl, refl, refl)
