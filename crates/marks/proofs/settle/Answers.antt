use Rattle.std.proofs.Common.{◌≡◌, rules, get_or, arith}
use Rattle.std.proofs.lemmas.List.Edits.{map_over_more}
use Rattle.std.proofs.lemmas.Grind.{common_steps}
use Rattle.marks.specs.Marks.{settled_byte}
use Rattle.marks.proofs.settle.Goals as goal

pub loop-byte-preserved : goal.loop-byte-preserved
loop-byte-preserved c =
    let byte = get_or c.loop-byte.marks c.loop-byte.byte-index 0 in
    let made : c.from.result ≡ settled_byte byte = search rules in
    rw made (map_over_more settled_byte c.args.marks.now c.loop-byte.marks c.loop-byte.byte-index byte (omega arith) c.loop-byte.invariant (grind (arith, common_steps)))
