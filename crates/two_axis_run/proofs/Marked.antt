-- M1 of 01 flown as a pair, evaluated: both axes end Unexcited after four ticks, and the second axis, whose sweep starts low, answers 0, 0, 0 and 0.5.
use Prim.Native.Nat.{ℕ}
use mathlib.Core.Path.{◌≡◌, refl}
use mathlib.Core.List.{List, [], ◌∷◌, ◌++◌}
use lib.ListN.{replicate}
use Rattle.byte_config.specs.ByteConfig.{config_of, extension_of}
use Rattle.batch.specs.Batch.{batch_run, run_if, ran, onto}
use Rattle.batch.specs.Sized.{sized}
use Rattle.batch.specs.Calls.{calls_of, calls_to}
use Rattle.byte_run.specs.ByteRun.{reply_word}
use Rattle.byte_run.proofs.Marked.{m1_config}
use Rattle.wire.specs.Words.{float_at, word_at, word_bytes, bytes_of, Ran}
use Rattle.report.specs.Report.{report_bytes, packed, fields_of, floats_of, kind_of}
use Rattle.probe_report.specs.ProbeReport.{of_account}
use Rattle.two_axis.specs.Probes.{replies_two}
use Rattle.two_axis.specs.Probes as probes
use Rattle.two_axis.specs.Accounts as accounts
use Rattle.two_axis_report.specs.TwoReport.{sums_of, report_two}
use Rattle.two_axis_calls.specs.Calls.{call_at}
use Rattle.two_axis_run.specs.TwoAxisRun.{in_turn, written, two_axis_run}
use Rattle.account.specs.Account.{opened, entry, counted, is_integrated, judged, ended, accept, time, turned, continue, next}
use Rattle.account.specs.Probe.{clock, delay_of, fresh_at, finished, stands, takes, extend, close, tick, answer, step}
use Rattle.account.specs.Rules.{positive, non_zero, too_long, broken_extension, broken, overrun, refusal}
use Rattle.recorded.specs.Classify.{effect_of, entry_of, model_of, fit_at, fit_of, entries, solved_at, rows_dt, fit_recorded, class_of, classify}
use Rattle.rows.specs.Rows.{target, regressors, product, projection, each, sums_by, no_sums, sum_rows, window_sums}
use Rattle.cholesky.specs.Cholesky.{fill_down, less, reduced, factor_entry, factor, above, forward_entry, forward, backward_entry, backward}
use Rattle.least_squares.specs.Solve.{dot, difference_of, all_finite, kept, solve_if, solve_with, solve}
use Rattle.delay.specs.Tie.{considered, residuals, lesser, least_to, within, first_from, under_bar, shortest_tied, delay_to_fit}
use Rattle.window.specs.Walk.{run, over, many}
use Rattle.window.specs.Runs.{runs_from, held_of, rows_of, warm_of}
use Rattle.window.specs.Samples.{no_samples, last_of, push, hold, bad, store}
use Rattle.sweep.specs.Sweep.{half_period, started, pass_edge, due, pass_due, pass_edges, square, washed, with_washout, with_amplitude, swept, next_sweep}
use Rattle.float.specs.Values.{finite, max_zero, least}
use Rattle.float.specs.Root.{isqrt, near_root, root_of, rooted}
use Rattle.float.specs.Series.{sum_to, fill}
use lib.Ieee.{of_bits, to_bits, of_int, add, sub, mul, div, neg, lt, le, eq, ne}

-- dt 0.25, and both rates and moments 0
unfoldable pub m1_call : List ℕ
m1_call = 0x3e ∷ 0x80 ∷ replicate 18 0

-- the report of each axis, as a single probe's
unfoldable pub m1_report : List ℕ
m1_report = 0x80 ∷ 0 ∷ 0 ∷ 0x02 ∷ 0 ∷ 0x20 ∷ 0 ∷ 0 ∷ 0x20 ∷ 0 ∷ 0 ∷ 0 ∷ replicate 24 0

-- ticks 8 in 26 bits, rows 0 in 13, a zero bit
unfoldable pub m1_sums : List ℕ
m1_sums = 0 ∷ 0 ∷ 0x02 ∷ 0 ∷ 0 ∷ []

-- 0.5 and 0, 0.25 and 0, 0.125 and 0, -0.4375 and 0.5
unfoldable pub m1_words : List ℕ
m1_words =
    0x3f ∷ 0 ∷ 0 ∷ 0 ∷ 0 ∷ 0 ∷ 0 ∷ 0 ∷
    0x3e ∷ 0x80 ∷ 0 ∷ 0 ∷ 0 ∷ 0 ∷ 0 ∷ 0 ∷
    0x3e ∷ 0 ∷ 0 ∷ 0 ∷ 0 ∷ 0 ∷ 0 ∷ 0 ∷
    0xbe ∷ 0xe0 ∷ 0 ∷ 0 ∷ 0x3f ∷ 0 ∷ 0 ∷ 0 ∷ []

-- the run's answer and all 109 bytes
unfoldable pub m1_ran : Ran
m1_ran = record { result = 0; output = m1_report ++ (m1_report ++ (m1_sums ++ m1_words)) }

pub M1 : two_axis_run m1_config (m1_call ++ (m1_call ++ (m1_call ++ m1_call))) (replicate 109 0xee) ≡ m1_ran
unfolding m1_call m1_words m1_ran m1_report m1_sums two_axis_run batch_run run_if ran sized written calls_of calls_to call_at in_turn report_two sums_of probes.wishes_at probes.wishes replies_two accounts.wishes accounts.calls_of m1_config broken broken_extension non_zero positive too_long config_of extension_of float_at word_at finite of_bits of_int lt eq onto reply_word report_bytes word_bytes bytes_of packed fields_of floats_of delay_of kind_of of_account opened entry counted is_integrated judged ended accept time turned continue next clock fresh_at finished stands takes extend close tick answer step overrun refusal effect_of entry_of model_of fit_at fit_of entries solved_at rows_dt fit_recorded class_of classify target regressors product projection sums_by no_sums sum_rows window_sums fill_down less each reduced factor_entry factor above forward_entry forward backward_entry backward dot difference_of all_finite kept solve_if solve_with solve considered residuals lesser least_to within first_from under_bar shortest_tied delay_to_fit run over many runs_from held_of rows_of warm_of no_samples last_of push hold bad store half_period started pass_edge due pass_due pass_edges square washed with_washout with_amplitude swept next_sweep max_zero least isqrt near_root root_of rooted sum_to fill to_bits add sub mul div neg le ne
M1 = refl
