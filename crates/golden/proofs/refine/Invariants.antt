-- `golden::refine` meets its contract. The loop's invariant: what is left of the search gives the answer. A round goes by the laws of proofs/Rounds.antt.
use Rattle.std.proofs.Common.{◌≡◌, ◌-◌}
use Rattle.gain.specs.Prepared.{fit_of}
use Rattle.golden.specs.Golden.{max_rounds, golden}
use Rattle.golden.proofs.refine.Given as goal

abbrev pub invariant-loop-made : goal.invariant-loop-made
invariant-loop-made l = (l.rounds ≡ l.made) × (golden (fit_of l.input l.step) (max_rounds - l.made) l.low l.high l.best l.made ≡ golden (fit_of l.input l.step) max_rounds l.initial.low l.initial.high l.initial.best 0)
