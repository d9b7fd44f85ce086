-- A caller that opens a probe, plain or as steady, and steps it: what it then keeps and what it was answered are those of the plain probe over the calls that 10 did not turn back.
use Rattle.std.specs.Prelude.{ℕ, Result, List, Float}
use denote.Triple.Both.{Both}
use Rattle.account.specs.declared.IdentifyConfig.{IdentifyConfig}
use Rattle.account.specs.Probe.{Call, Reply}
use Rattle.rules.specs.declared.Rule.{Rule}
use Rattle.rules.specs.Numbers.{numbered}
use Rattle.probe_words.specs.Layout.{Scalars}
use Rattle.steady.specs.declared.SteadyClock.{SteadyClock}
use Rattle.live_probe.specs.Live.{Written, over, Live, value_or}
use Rattle.steady_probe.specs.Behind as behind
use Rattle.steady_probe.specs.SteadyLive.{single, clock_over, clock_of, value_over}

abbrev pub SteadyFlown : IdentifyConfig → ℕ → List Call → List Reply → Live → Float → Type 0
SteadyFlown c steady calls answers k first = behind.FlownBehind single c steady calls answers k first

abbrev pub SteadyFlies : IdentifyConfig → ℕ → List Call → List Reply → Live → Float → Type 0
SteadyFlies c steady calls answers k first = behind.FliesBehind single c steady calls answers k first

-- an opening of c in these scalars that answered n and left this word and this first dt, whatever the arrays hold
abbrev pub OpensSteady : IdentifyConfig → Both Scalars Scalars → Written ℕ → Written Float → ℕ → Type 0
OpensSteady c s steady first n = behind.OpensBehind single c s (clock_over steady first) n

-- a call y of what was flown and is kept here, with this first dt, which answered n and this offset
abbrev pub SteadyFliesOn : ℕ → Written Float → Both Live Live → Call → Written Float → ℕ → Type 0
SteadyFliesOn steady first k y x n = behind.FliesOnBehind single (clock_of steady first) k y (value_over x) n

-- as a function says it that answers the offset in r
abbrev pub FliesAnswering : Both SteadyClock SteadyClock → Both Live Live → Call → Result Float Rule → Type 0
FliesAnswering w k y r = (found : Float) → behind.FliesOnBehind single w k y (over found (value_or r found)) (numbered r)

-- ---- "A probe opened without the word behaves as before."
abbrev pub OpensPlain : ℕ → IdentifyConfig → Both Scalars Scalars → ℕ → Type 0
OpensPlain options c s n = behind.OpensPlain single options c s n

abbrev pub StepsPlain : Written Float → Both Live Live → Call → Written Float → ℕ → Type 0
StepsPlain first k y x n = behind.StepsPlain single (value_over first) k y (value_over x) n

abbrev pub AnswersPlain : Both SteadyClock SteadyClock → Both Live Live → Call → Result Float Rule → Type 0
AnswersPlain w k y r = (found : Float) → behind.StepsPlain single (over w.entry.first_dt_s w.exit.first_dt_s) k y (over found (value_or r found)) (numbered r)
