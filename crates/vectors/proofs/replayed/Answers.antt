-- The record that an iteration replays stands before those that are left; where nothing is left, there is no other.
use Rattle.std.proofs.Common.{arith}
use Rattle.vectors.specs.Records.{Replays}
use Rattle.vectors.proofs.replayed.Goals as goal

pub loop-records-preserved : goal.loop-records-preserved
loop-records-preserved g c =
    λ last later. c.loop-records.invariant last
    (Replays.next c.loop-records.records last c.size.result c.agrees.result
    (record { shown = c.rest-record.result; shows = c.rest-record.ensures; says = record { met = c.size.ensures } })
    (record { shown = c.rest-record.result; shows = c.rest-record.ensures; says = record { met = c.agrees.ensures } })
    (rw c.with-records.ensures.next at later))

pub returns : goal.returns
returns g c = c.loop-records.invariant _ (Replays.ended c.loop-records.records (omega arith))
