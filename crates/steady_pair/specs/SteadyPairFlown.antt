-- A caller that opens a pair, plain or as steady, and steps it: what it then keeps and what it was answered are those of the plain pair over the calls that 10 did not turn back.
use Rattle.std.specs.Prelude.{ℕ, Result, List, Float}
use denote.Triple.Both.{Both}
use Rattle.account.specs.declared.IdentifyConfig.{IdentifyConfig}
use Rattle.account.specs.Probe.{Reply}
use Rattle.rules.specs.declared.Rule.{Rule}
use Rattle.rules.specs.Numbers.{numbered}
use Rattle.two_axis.specs.Axes.{Axis, TwoCall}
use Rattle.probe_words.specs.Layout.{Scalars}
use Rattle.steady.specs.declared.SteadyClock.{SteadyClock}
use Rattle.live_probe.specs.Live.{Written, over}
use Rattle.live_pair.specs.Pair.{Pair, offsets_or}
use Rattle.steady_probe.specs.Behind as behind
use Rattle.steady_probe.specs.SteadyLive.{clock_over, clock_of, value_over}
use Rattle.steady_pair.specs.SteadyPair.{double}

abbrev pub SteadyPairFlown : IdentifyConfig → ℕ → List TwoCall → (Axis → List Reply) → Pair → Float → Type 0
SteadyPairFlown c steady calls answers k dt = behind.FlownBehind double c steady calls answers k dt

abbrev pub SteadyPairFlies : IdentifyConfig → ℕ → List TwoCall → (Axis → List Reply) → Pair → Float → Type 0
SteadyPairFlies c steady calls answers k dt = behind.FliesBehind double c steady calls answers k dt

-- an opening of c in these scalars that answered n and left this word and this first dt, whatever the arrays hold
abbrev pub OpensSteadyPair : IdentifyConfig → Both (Axis → Scalars) (Axis → Scalars) → Written ℕ → Written Float → ℕ → Type 0
OpensSteadyPair c s steady dt n = behind.OpensBehind double c s (clock_over steady dt) n

-- a call y of what was flown and is kept here, with this first dt, which answered n and these offsets
abbrev pub SteadyPairFliesOn : ℕ → Written Float → Both Pair Pair → TwoCall → Both (Axis → Float) (Axis → Float) → ℕ → Type 0
SteadyPairFliesOn steady dt k y offset n = behind.FliesOnBehind double (clock_of steady dt) k y offset n

-- as a function says it that answers the offsets in r
abbrev pub PairFliesAnswering : Both SteadyClock SteadyClock → Both Pair Pair → TwoCall → Result (Float × Float) Rule → Type 0
PairFliesAnswering w k y r = (found : Axis → Float) → behind.FliesOnBehind double w k y (over found (offsets_or r found)) (numbered r)

-- ---- "A probe opened without the word behaves as before."
abbrev pub OpensPlainPair : ℕ → IdentifyConfig → Both (Axis → Scalars) (Axis → Scalars) → ℕ → Type 0
OpensPlainPair options c s n = behind.OpensPlain double options c s n

abbrev pub StepsPlainPair : Written Float → Both Pair Pair → TwoCall → Both (Axis → Float) (Axis → Float) → ℕ → Type 0
StepsPlainPair dt k y offset n = behind.StepsPlain double (value_over dt) k y offset n

abbrev pub PairAnswersPlain : Both SteadyClock SteadyClock → Both Pair Pair → TwoCall → Result (Float × Float) Rule → Type 0
PairAnswersPlain w k y r = (found : Axis → Float) → behind.StepsPlain double (over w.entry.first_dt_s w.exit.first_dt_s) k y (over found (offsets_or r found)) (numbered r)
