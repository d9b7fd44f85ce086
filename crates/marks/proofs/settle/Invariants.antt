-- The loop's invariant: the bytes passed are settled.
use Rattle.std.proofs.Common.{◌≡◌, ◌++◌, map, take, drop}
use Rattle.marks.specs.Marks.{settled_byte}
use Rattle.marks.proofs.settle.Given as goal

abbrev pub invariant-loop-byte : goal.invariant-loop-byte
invariant-loop-byte l = l.marks ≡ map settled_byte (take l.byte-index l.initial.marks) ++ drop l.byte-index l.initial.marks
