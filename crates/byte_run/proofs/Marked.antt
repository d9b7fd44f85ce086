-- The marked examples of 01, M1 to M12, together. Each is evaluated: M1 here, the others where their definitions stand.
use Prim.Native.Nat.{ℕ}
use mathlib.Core.Path.{◌≡◌, refl}
use mathlib.Core.Bool.{false}
use mathlib.Core.List.{List, [], ◌∷◌, ◌++◌}
use lib.ListN.{replicate, length}
use Rattle.byte_config.specs.ByteConfig.{config_of, extension_of}
use Rattle.batch.specs.Batch.{batch_run, run_if, ran, onto}
use Rattle.batch.specs.Sized.{sized}
use Rattle.batch.specs.Calls.{calls_of, calls_to}
use Rattle.byte_run.specs.ByteRun.{byte_run, written, reply_word, call_at}
use Rattle.wire.specs.Words.{float_at, word_at, word_bytes, bytes_of, Ran}
use Rattle.report.specs.Report.{report_bytes, packed, fields_of, floats_of, kind_of}
use Rattle.probe_report.specs.ProbeReport.{of_account}
use Rattle.account.specs.Account.{opened, entry, counted, is_integrated, judged, ended, accept, time, turned, continue, next}
use Rattle.account.specs.Probe.{clock, delay_of, fresh_at, finished, stands, takes, extend, close, tick, answer, step, replies}
use Rattle.account.specs.Rules.{positive, non_zero, too_long, broken_extension, broken, overrun, refusal}
use Rattle.recorded.specs.Classify.{effect_of, entry_of, model_of, fit_at, fit_of, entries, solved_at, rows_dt, fit_recorded, class_of, classify}
use Rattle.rows.specs.Rows.{target, regressors, product, projection, each, sums_by, no_sums, sum_rows, window_sums}
use Rattle.cholesky.specs.Cholesky.{fill_down, less, reduced, factor_entry, factor, above, forward_entry, forward, backward_entry, backward}
use Rattle.least_squares.specs.Solve.{dot, difference_of, all_finite, kept, solve_if, solve_with, solve}
use Rattle.delay.specs.Tie.{considered, residuals, lesser, least_to, within, first_from, under_bar, shortest_tied, delay_to_fit}
use Rattle.window.specs.Walk.{run, over, many}
use Rattle.window.specs.Runs.{good_runs, runs_from, held_of, rows_of, warm_of}
use Rattle.window.specs.Samples.{no_samples, last_of, push, hold, bad, store}
use Rattle.sweep.specs.Sweep.{half_period, started, pass_edge, due, pass_due, pass_edges, square, washed, with_washout, with_amplitude, swept, next_sweep}
use Rattle.float.specs.Values.{zero32, one32, finite, max_zero, least}
use Rattle.float.specs.Root.{isqrt, near_root, root_of, rooted}
use Rattle.float.specs.Series.{sum_to, fill}
use lib.Ieee.{inf, of_bits, to_bits, of_int, add, sub, mul, div, neg, lt, le, eq, ne}
use Rattle.sweep.proofs.Marked as sweep
use Rattle.delay.proofs.Marked as delay
use Rattle.window.proofs.Marked as window
use Rattle.std.specs.Prelude.{Some, None}

-- amplitude 1, duration 1, washout 0.5, flag 0
unfoldable pub m1_config : List ℕ
m1_config = 0x3f ∷ 0x80 ∷ 0 ∷ 0 ∷ 0x3f ∷ 0x80 ∷ 0 ∷ 0 ∷ 0x3f ∷ 0 ∷ 0 ∷ 0 ∷ replicate 12 0

-- dt 0.25, rate 0, moment 0
unfoldable pub m1_call : List ℕ
m1_call = 0x3e ∷ 0x80 ∷ replicate 10 0

-- the run's answer and all 52 bytes
unfoldable pub m1_ran : Ran
m1_ran = record {
  result = 0;
  output =
      0x80 ∷ 0 ∷ 0 ∷ 0x02 ∷ 0 ∷ 0x20 ∷ 0 ∷ 0 ∷ 0x20 ∷ 0 ∷ 0 ∷ 0 ∷
      (replicate 24 0 ++ (0x3f ∷ 0 ∷ 0 ∷ 0 ∷ 0x3e ∷ 0x80 ∷ 0 ∷ 0 ∷ 0x3e ∷ 0 ∷ 0 ∷ 0 ∷ 0xbe ∷ 0xe0 ∷ 0 ∷ 0 ∷ []));
}

pub record Marked : Type 0 where
  pub M1 : byte_run m1_config (m1_call ++ (m1_call ++ (m1_call ++ m1_call))) (replicate 52 0xee) ≡ m1_ran
  pub M2 : half_period 0 ≡ one32
  pub M3 : half_period 14 ≡ half_period 9
  pub M4 : delay_to_fit zero32 [] ≡ None
  pub M5 : delay_to_fit zero32 (delay.entry one32 delay.one_and_quarter ∷ delay.entry one32 one32 ∷ []) ≡ Some 2
  pub M6 : delay_to_fit delay.hundredth (delay.entry one32 delay.just_above_one ∷ delay.entry one32 one32 ∷ []) ≡ Some 1
  pub M7 : delay_to_fit zero32 (delay.entry delay.minus_one delay.half ∷ delay.entry one32 delay.two ∷ []) ≡ Some 2
  pub M8 : delay_to_fit zero32 (delay.entry one32 (inf false) ∷ []) ≡ None
  pub M9 : delay_to_fit zero32 (replicate 20 None ++ (delay.entry one32 one32 ∷ [])) ≡ None
  pub M10 : length (rows_of (good_runs (replicate 11 false))) ≡ 0
  pub M11 : length (rows_of (good_runs (replicate 12 false))) ≡ 1
  pub M12 : (held_of window.broken ≡ 1) × (warm_of (good_runs window.broken) ≡ 22) × (length (rows_of (good_runs window.broken)) ≡ 3)

pub marked : Marked
unfolding m1_config m1_call m1_ran byte_run batch_run run_if ran sized broken broken_extension non_zero positive too_long config_of extension_of float_at word_at finite of_bits of_int lt eq onto written calls_of calls_to call_at reply_word report_bytes word_bytes bytes_of packed fields_of floats_of delay_of kind_of of_account opened entry counted is_integrated judged ended accept time turned continue next clock fresh_at finished stands takes extend close tick answer step replies overrun refusal effect_of entry_of model_of fit_at fit_of entries solved_at rows_dt fit_recorded class_of classify target regressors product projection sums_by no_sums sum_rows window_sums fill_down less each reduced factor_entry factor above forward_entry forward backward_entry backward dot difference_of all_finite kept solve_if solve_with solve considered residuals lesser least_to within first_from under_bar shortest_tied delay_to_fit run over many runs_from held_of rows_of warm_of no_samples last_of push hold bad store half_period started pass_edge due pass_due pass_edges square washed with_washout with_amplitude swept next_sweep max_zero least isqrt near_root root_of rooted sum_to fill to_bits add sub mul div neg le ne
marked = record {
  M1 = refl;
  M2 = sweep.M2;
  M3 = sweep.M3;
  M4 = delay.M4;
  M5 = delay.M5;
  M6 = delay.M6;
  M7 = delay.M7;
  M8 = delay.M8;
  M9 = delay.M9;
  M10 = window.M10;
  M11 = window.M11;
  M12 = window.M12;
}
