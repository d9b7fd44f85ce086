-- However the records from here on are replayed, that is how all of them are. Each record is taken off what is left, which is the measure.
use Rattle.std.proofs.Common.{length}
use Rattle.std.specs.Fn.{FnReturnsAt}
use Rattle.vectors.specs.declared.Records.{Records}
use Rattle.vectors.specs.Records.{Replays, started}
use Rattle.vectors.proofs.replayed.Given as goal

abbrev pub invariant-loop-records : goal.invariant-loop-records
invariant-loop-records g l =
    let Ends : Records → Records → Type 0 = Replays (FnReturnsAt g.S.Fn l.size) (FnReturnsAt g.A.Fn l.agrees) l.bytes in
    (last : Records) → Ends l.records last → Ends (started (length l.bytes)) last

abbrev pub decreases-loop-records : goal.decreases-loop-records
decreases-loop-records g l = l.records.left
