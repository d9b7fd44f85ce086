-- A place past the largest number is past the end, as the largest is.
use Rattle.std.proofs.Common.{◌+◌, ◌*◌, ◌≡◌, min, arith}
use Rattle.wire.proofs.Read.{word_at_saturated}
use Rattle.vectors.proofs.is_word.Goals as goal

pub returns : goal.returns
returns c =
    let place : c.saturating_add.result ≡ min (c.args.at + c.args.k * 4) 18446744073709551615 = omega arith in
    rw (c.is_at.ensures, place, word_at_saturated c.args.s.now (c.args.at + c.args.k * 4) 18446744073709551615 (omega arith))
