-- What a probe says of itself, and what its account asks for: 01, "The report".
use Rattle.std.specs.Prelude.{ℕ, cond, length, Float}
use Rattle.std.specs.Prelude.{Option, Some, None}
use Rattle.window.specs.Walk.{many, is_held, is_warm, is_row}
use Rattle.window.specs.Runs.{held_of, warm_of, rows_of}
use Rattle.account.specs.Probe.{Probe, clock, stands}
use Rattle.account.specs.Account.{Account, rates_of, moments_of, marks_of, runs_of}
use Rattle.report.specs.declared.Report.{Report}

-- 0 for what still runs: "Warm, rows and fits are 0 until the end"
abbrev pub once_ended : Option Float → ℕ → ℕ
once_ended (Some e) n = 0
once_ended None n = n

-- the report of a probe, counted by a walk over its window
unfoldable pub of_probe : Probe → Report
of_probe p =
    let running = clock p.standing.status in
    let marks = p.samples.marks in
    record {
      ticks = p.ticks;
      stored = length p.samples.rates;
      held = many is_held marks;
      warm = once_ended running (many is_warm marks);
      rows = once_ended running (many is_row marks);
      status = p.standing.status;
      gain_fits = p.standing.fits;
    }

-- the report that an account asks for: "Held counts the marked samples; warm sums min(run, 11) over the good runs"
unfoldable pub of_account : Account → Report
of_account a =
    let standing = stands a.running a.elapsed (rates_of a) (moments_of a) (marks_of a) a.duration in
    record {
      ticks = a.ticks;
      stored = length a.entries;
      held = held_of (marks_of a);
      warm = cond a.running 0 (warm_of (runs_of a));
      rows = cond a.running 0 (length (rows_of (runs_of a)));
      status = standing.status;
      gain_fits = standing.fits;
    }
