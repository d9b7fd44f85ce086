-- The loop's invariant: the words passed are written, each where it fits.
use Rattle.std.proofs.Common.{◌≡◌, map, take}
use Rattle.wire.specs.Words.{words_within}
use Rattle.wire.proofs.write_values.Given as goal

abbrev pub invariant-loop-k : goal.invariant-loop-k
invariant-loop-k g l = l.out ≡ words_within l.at (map g.V.Word.word (take l.k l.values)) l.initial.out
