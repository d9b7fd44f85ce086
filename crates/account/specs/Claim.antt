-- Demand 3, one claim about every list of calls from a fresh probe, high or low: 01, "The account of a list of steps".
-- p is the probe that the calls leave, and a the account of the same calls. `proofs/Theorem.antt` proves the claim for every configuration and every list.
use Rattle.std.specs.Prelude.{ℕ, ◌+◌, ◌-◌, ◌≤◌, ◌<◌, min, ◌≡◌, Bool, true, cond, List, ◌++◌, map, leb, length, Float}
use Rattle.std.specs.Float.{binary32}
use Rattle.std.specs.Float.Ieee.{add}
use Rattle.float.specs.Values.{zero32}
use Rattle.float.specs.Series.{at}
use Rattle.sweep.specs.Sweep.{pass_edges, last_edge, While}
use Rattle.window.specs.Samples.{capacity}
use Rattle.window.specs.Walk.{many, is_held, is_warm, is_row}
use Rattle.window.specs.Runs.{held_of, rows_of, warm_of, beyond}
use Rattle.delay.specs.declared.Delay.{Delay}
use Rattle.delay.specs.declared.RateModel.{RateModel}
use Rattle.std.specs.Prelude.{Option, Some, None}
use Rattle.delay.specs.HalfTicks.{of_recorded, of_integrated, no_delay}
use Rattle.delay.specs.Tie.{delay_to_fit}
use Rattle.rows.specs.Rows.{regressors, sums_by, sum_ticks, window_sums, no_sums}
use Rattle.recorded.specs.declared.Classified.{Classified}
use Rattle.recorded.specs.declared.Classified.TheVariants as class
use Rattle.recorded.specs.Classify.{tie_share, solved_at}
use Rattle.recorded.specs.Classify as recorded
use Rattle.lags.specs.Lags.{lagged}
use Rattle.gain.specs.Gain.{first_tick, step_count, whole_ticks_of, is_half, blend, regressor}
use Rattle.grid.specs.Grid.{kept_at}
use Rattle.integrated.specs.Integrated.{window_fit, mean_dt}
use Rattle.integrated.specs.Integrated as integrated
use Rattle.finite_model.specs.FiniteModel.{FiniteModel}
use Rattle.account.specs.declared.IdentifyConfig.{IdentifyConfig}
use Rattle.account.specs.declared.IdentifyStatus.TheVariants.{Done}
use Rattle.account.specs.Probe.{Call, Probe, clock, delay_of, stands, fresh_at, replies, number}
use Rattle.account.specs.Account.{Account, opened, account, turned, turned_back, accepted, time, rates_of, moments_of, marks_of, account_class, runs_of}

-- the position that the tie rule gives for the account's entries, in the recorded fit and in the integrated one
abbrev pub recorded_position : Account → Option ℕ
recorded_position a = delay_to_fit tie_share (recorded.entries (solved_at (rates_of a) (moments_of a) (marks_of a)))

abbrev pub integrated_position : Account → Option ℕ
integrated_position a =
    let n = length (rates_of a) in
    let dt = mean_dt a.duration n in
    delay_to_fit zero32 (integrated.entries (kept_at dt (window_fit (rates_of a) (moments_of a) dt n)))

-- "The delay, counted in half ticks as 2·p from the recorded fit and p + 1 from the integrated one"
pub data Delayed (a : Account) (m : RateModel) : Type 0 where
  by_recorded : (p : ℕ) → recorded_position a ≡ Some p → m.delay ≡ of_recorded p → Delayed a m
  by_integrated : (p : ℕ) → integrated_position a ≡ Some p → m.delay ≡ of_integrated p → Delayed a m

-- the delay at the position that won, if one did
unfoldable pub delay_at : (ℕ → Delay) → Option ℕ → Delay
delay_at from None = no_delay
delay_at from (Some p) = from p

-- by the class of the account's window: an abort has none, nor has an integrated fit with "stored <= 12"
unfoldable pub delay_by : Classified → Account → Delay
delay_by (class.Recorded m) a = delay_at of_recorded (recorded_position a)
delay_by class.Integrated a = cond (leb (length (rates_of a)) (first_tick + 1)) no_delay (delay_at of_integrated (integrated_position a))
delay_by class.Unexcited a = no_delay
delay_by class.Saturated a = no_delay

-- the account's delay: none while it runs
unfoldable pub account_delay : Account → Delay
account_delay a = cond a.running no_delay (delay_by (account_class a) a)

pub record Accounted (high : Bool) (c : IdentifyConfig) (calls : List Call) (p : Probe) (a : Account) : Type 0 where
  -- "the calls that answered a number are those the account turned back", with the same numbers
  pub refused : map number (replies (fresh_at high c) calls) ≡ turned_back (opened c) calls
  -- "Probe and account have both ended or neither"; while they run, at the same elapsed time
  pub ended : clock p.standing.status ≡ time a.running a
  -- "Reported ticks, stored and held, and the window's rates, moments and marks in their order, are the account's."
  pub ticks : p.ticks ≡ a.ticks
  pub rates : p.samples.rates ≡ rates_of a
  pub moments : p.samples.moments ≡ moments_of a
  pub marks : p.samples.marks ≡ marks_of a
  pub duration : p.samples.duration ≡ a.duration
  pub held : many is_held p.samples.marks ≡ held_of (marks_of a)
  -- the ticks are the calls accepted while running, and as many as fit are stored
  pub accepts : a.ticks ≡ accepted (opened c) calls
  pub stored : length p.samples.rates ≡ min a.ticks capacity
  -- "Once ended, so are warm and rows"; each stored tick is held, warm or a row, and the rows are those of the good runs
  pub warm : many is_warm p.samples.marks ≡ warm_of (runs_of a)
  pub rows : many is_row p.samples.marks ≡ length (rows_of (runs_of a))
  pub whole : length a.entries ≡ held_of (marks_of a) + warm_of (runs_of a) + length (rows_of (runs_of a))
  pub by_runs : length (rows_of (runs_of a)) ≡ beyond (runs_of a)
  -- "the recorded sums that the last classification made from the window, for each d, are those over exactly the account's rows, in tick order"
  pub sums : (d : ℕ)
      → window_sums p.samples.rates p.samples.moments p.samples.marks (length p.samples.rates) d no_sums
      ≡ sums_by (sum_ticks (rows_of (runs_of a))) (rates_of a) (moments_of a) d no_sums
  -- "The probe's status is then the one that the fits above give for the account's entries and window duration", and so are "the reported gain fits"
  pub standing : p.standing ≡ stands a.running a.elapsed (rates_of a) (moments_of a) (marks_of a) a.duration
  pub fits : p.standing.fits ≤ 2604
  -- "moment k+1-d is the first moment in the row of tick k"
  pub row_pairing : (d k : ℕ) → at (regressors (rates_of a) (moments_of a) d k) 2 ≡ at (moments_of a) (k + 1 - d)
  -- "in a gain fit the change at tick k meets lagged(k+1-d), at a half step lagged(k-d) too"; k is 11 + i
  pub gain_pairing : (s i : ℕ) (pole : Float) → s < step_count
      → regressor s pole (at (moments_of a)) i
      ≡ blend (is_half s)
      (lagged pole (at (moments_of a)) (first_tick + i + 1 - whole_ticks_of s))
      (lagged pole (at (moments_of a)) (first_tick + i - whole_ticks_of s))
  -- "The delay .. is kept in a done probe"
  pub delay : (m : RateModel) → p.standing.status ≡ Done m → Delayed a m
  -- 02, two, "1 for a half delay and 0 for all else": the delay that a report tells, its half tick too, is the account's; once done it is one tick to ten and a half
  pub half_ticks : delay_of p.standing.status ≡ account_delay a
  pub from_one : (m : RateModel) → p.standing.status ≡ Done m → 2 ≤ (account_delay a).half_ticks
  pub in_range : (account_delay a).half_ticks ≤ 21
  -- 02, four, "An integrated model then holds finite numbers only": a done probe that made gain fits is done by the integrated fit, and the six floats of such a one are finite
  pub integrated_class : (m : RateModel) → p.standing.status ≡ Done m → 1 ≤ p.standing.fits → account_class a ≡ class.Integrated
  pub finite_model : (m : RateModel) → p.standing.status ≡ Done m → account_class a ≡ class.Integrated → FiniteModel m
  -- the sweep's last edge is not reached, and its edges at the next accepted call are those of 01's loop
  pub inside : p.sweep.edge < last_edge
  pub edges : (x : Call) → a.running ≡ true → turned a x ≡ 0
      → While (add binary32 a.elapsed x.dt) p.sweep (pass_edges (add binary32 a.elapsed x.dt) p.sweep)
  -- the account of these calls and then others is that of the others, continued from this one
  pub continued : (others : List Call) → account (opened c) (calls ++ others) ≡ account a others
