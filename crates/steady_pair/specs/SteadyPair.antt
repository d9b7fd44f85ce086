-- A pair of probes that its caller keeps and steps, opened plain or as steady: what each call answers, and what it leaves of all that it was lent. Beside the probes the
-- caller keeps one word, not 0 where the pair is steady, and one first accepted dt.
use Rattle.std.specs.Prelude.{ℕ, ◌≡◌, Bool, ◌&&◌, Result, List, [], ◌∷◌, ◌++◌, Float}
use denote.Triple.Both.{Both}
use Rattle.window.specs.Lent.{Lent, Whole}
use Rattle.account.specs.declared.IdentifyConfig.{IdentifyConfig}
use Rattle.account.specs.Probe.{Reply}
use Rattle.rules.specs.declared.Rule.{Rule}
use Rattle.rules.specs.Numbers.{numbered}
use Rattle.two_axis.specs.Axes.{Axis, first, second, TwoCall}
use Rattle.probe_words.specs.Layout.{Scalars, probe_in}
use Rattle.steady.specs.declared.SteadyClock.{SteadyClock}
use Rattle.steady.specs.Guarded.{without}
use Rattle.steady.specs.Kept.{clock}
use Rattle.steady.specs.TwoSteady.{two_dt, opened_two_in, turned_two_in, account_two_in, fresh_two_in, probes_in, replies_two_in, SteadyTwoAccounted}
use Rattle.live_probe.specs.Live.{Written, over, live, live_probe}
use Rattle.live_probe.specs.Flown.{reply_by}
use Rattle.live_pair.specs.declared.LentPair.{LentPair}
use Rattle.live_pair.specs.Pair.{Pair, pair_in, pair_open, pair_step, offsets_or, pair_readied}
use Rattle.live_pair.specs.Flown.{PairFlown, PairFlies}
use Rattle.steady_probe.specs.Behind.{Kind, OpenedBehind, SteppedBehind, readied_behind}
use Rattle.steady_probe.specs.SteadyLive.{runs_in, clock_over, clock_of}

-- both axes run
abbrev pub both_run : (Axis → Scalars) → Bool
both_run s = runs_in (probe_in (s first)) && runs_in (probe_in (s second))

abbrev pub pair_runs : Pair → Bool
pair_runs k = runs_in (live_probe (k first)) && runs_in (live_probe (k second))

-- ---- the kind of a pair
abbrev pub double : Kind
double = record {
  Scalars = Axis → Scalars;
  Arrays = Axis → Lent;
  Whole = λ l. (x : Axis) → Whole (l x);
  Kept = Pair;
  kept = λ s l x. live (s x) (l x);
  runs = pair_runs;
  Call = TwoCall;
  dt_of = two_dt;
  Offset = Axis → Float;
  Answers = Axis → List Reply;
  none = λ x. [];
  more = λ answers n offset x. answers x ++ (reply_by n (offset x) ∷ []);
  even = λ ns answers x. without 10 ns (answers x);
  Same = λ answers others. (x : Axis) → answers x ≡ others x;
  opens = pair_open;
  steps = pair_step;
  Flown = PairFlown;
  Flies = PairFlies;
  Accounted = λ band c calls. SteadyTwoAccounted band c calls (probes_in (fresh_two_in band c) calls) (account_two_in (opened_two_in band c) calls);
  turned = λ band c calls. turned_two_in (opened_two_in band c) calls;
  band = λ band c calls. (account_two_in (opened_two_in band c) calls).band;
  replies = λ band c calls. replies_two_in (fresh_two_in band c) calls;
}

-- all that is kept of both, in the struct that lends it
abbrev pub pair_lent : Written LentPair → Both Pair Pair
pair_lent lent = over (pair_in lent.entry.now) (pair_in lent.exit.now)

-- ---- an opening in these scalars, with this word and this first dt, answers n
abbrev pub SteadyPairOpened : ℕ → IdentifyConfig → Both (Axis → Scalars) (Axis → Scalars) → Written ℕ → Written Float → ℕ → Type 0
SteadyPairOpened options c s steady dt n = OpenedBehind double options c s (clock_over steady dt) n

-- ---- a call of what is kept here, with this first dt and its offsets here, answers n
abbrev pub SteadyPairStepped : ℕ → Written Float → Both Pair Pair → TwoCall → Both (Axis → Float) (Axis → Float) → ℕ → Type 0
SteadyPairStepped steady dt k y offset n = SteppedBehind double (clock_of steady dt) k y offset n

-- as a function says it that answers the offsets in r, whatever stood where they go
abbrev pub SteadyPairAnswers : Both SteadyClock SteadyClock → Both Pair Pair → TwoCall → Result (Float × Float) Rule → Type 0
SteadyPairAnswers w k y r = (found : Axis → Float) → SteppedBehind double w k y (over found (offsets_or r found)) (numbered r)

-- ---- the marks before a call
abbrev pub steady_pair_readied : ℕ → Float → (Axis → Scalars) → Axis → Float → List ℕ → List ℕ
steady_pair_readied steady kept s x dt bytes = readied_behind (clock steady kept) (both_run s) dt (pair_readied s x dt bytes) bytes
