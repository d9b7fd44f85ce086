-- A probe that its caller keeps and steps, opened plain or as steady: what each call answers, and what it leaves of all that it was lent.
use Rattle.std.specs.Prelude.{ℕ, ◌≡◌, Bool, true, Result, List, [], ◌∷◌, ◌++◌, Float}
use denote.Triple.Both.{Both}
use Rattle.window.specs.Lent.{Borrowed, Lent, Whole}
use Rattle.account.specs.declared.IdentifyConfig.{IdentifyConfig}
use Rattle.account.specs.Probe.{Call, Reply, clock}
use Rattle.rules.specs.declared.Rule.{Rule}
use Rattle.rules.specs.Numbers.{numbered}
use Rattle.identify.specs.declared.IdentifyProbe.{IdentifyProbe}
use Rattle.probe_words.specs.Layout.{Scalars, found_in, left_in, scalars_in}
use Rattle.probe_words.specs.declared.LentScalars.{LentScalars}
use Rattle.steady.specs.declared.SteadyClock.{SteadyClock}
use Rattle.steady.specs.Guarded.{without}
use Rattle.steady.specs.Kept as keeps
use Rattle.steady.specs.Steady.{dt_of, is_running, opened_in, turned_in, account_in, fresh_in, probe_in, replies_in, SteadyAccounted}
use Rattle.live_probe.specs.declared.LentProbe.{LentProbe}
use Rattle.live_probe.specs.Live.{Written, over, Live, live, live_probe, kept_in, live_open, live_step, value_or, readied}
use Rattle.live_probe.specs.Flown.{reply_by, Flown, Flies}
use Rattle.steady_probe.specs.Behind.{Kind, OpenedBehind, SteppedBehind, readied_behind}

abbrev pub runs_in : IdentifyProbe → Bool
runs_in p = is_running (clock p.status)

-- ---- the kind of a single probe
abbrev pub single : Kind
single = record {
  Scalars = Scalars;
  Arrays = Lent;
  Whole = Whole;
  Kept = Live;
  kept = live;
  runs = λ k. runs_in (live_probe k);
  Call = Call;
  dt_of = dt_of;
  Offset = Float;
  Answers = List Reply;
  none = [];
  more = λ answers n x. answers ++ (reply_by n x ∷ []);
  even = λ ns answers. without 10 ns answers;
  Same = λ answers others. answers ≡ others;
  opens = live_open;
  steps = live_step;
  Flown = Flown;
  Flies = Flies;
  Accounted = λ band c calls. SteadyAccounted band true c calls (probe_in (fresh_in band true c) calls) (account_in (opened_in band c) calls);
  turned = λ band c calls. turned_in (opened_in band c) calls;
  band = λ band c calls. (account_in (opened_in band c) calls).band;
  replies = λ band c calls. replies_in (fresh_in band true c) calls;
}

-- ---- as a contract names it, when the call starts and when it returns
-- the scalars, from the arrays that C passes one by one, and from the struct that lends them
abbrev pub scalars_over : Borrowed ℕ → Borrowed Float → Both Scalars Scalars
scalars_over words floats = over (found_in words floats) (left_in words floats)

abbrev pub scalars_lent : Written LentScalars → Both Scalars Scalars
scalars_lent lent = over (scalars_in lent.entry.now) (scalars_in lent.exit.now)

-- all that is kept of the probe
abbrev pub kept_lent : Written LentProbe → Both Live Live
kept_lent lent = over (kept_in lent.entry.now) (kept_in lent.exit.now)

-- the clock, and where an offset goes
abbrev pub clock_over : Written ℕ → Written Float → Both SteadyClock SteadyClock
clock_over steady first = over (keeps.clock steady.entry.now first.entry.now) (keeps.clock steady.exit.now first.exit.now)

abbrev pub clock_of : ℕ → Written Float → Both SteadyClock SteadyClock
clock_of steady first = over (keeps.clock steady first.entry.now) (keeps.clock steady first.exit.now)

abbrev pub value_over : {A : Type 0} → Written A → Both A A
value_over x = over x.entry.now x.exit.now

-- ---- an opening in these scalars, with this word and this first dt, answers n
abbrev pub SteadyOpened : ℕ → IdentifyConfig → Both Scalars Scalars → Written ℕ → Written Float → ℕ → Type 0
SteadyOpened options c s steady first n = OpenedBehind single options c s (clock_over steady first) n

-- ---- a call of what is kept here, with this first dt and its offset here, answers n
abbrev pub SteadyStepped : ℕ → Written Float → Both Live Live → Call → Written Float → ℕ → Type 0
SteadyStepped steady first k y x n = SteppedBehind single (clock_of steady first) k y (value_over x) n

-- as a function says it that answers the offset in r, whatever stood where it goes
abbrev pub SteadyAnswers : Both SteadyClock SteadyClock → Both Live Live → Call → Result Float Rule → Type 0
SteadyAnswers w k y r = (found : Float) → SteppedBehind single w k y (over found (value_or r found)) (numbered r)

-- ---- the marks before a call
abbrev pub steady_readied : ℕ → Float → IdentifyProbe → Float → List ℕ → List ℕ
steady_readied steady first p dt bytes = readied_behind (keeps.clock steady first) (runs_in p) dt (readied p dt bytes) bytes
