-- One call of a byte run of two axes, from its bytes, and the words of its answer: 02, request five.
use Rattle.std.specs.Prelude.{ℕ, ◌+◌, List, [], ◌∷◌, Float, Option, Result}
use Rattle.wire.specs.Words.{bytes_of, float_at, written_within}
use Rattle.byte_run.specs.ByteRun.{reply_word}
use Rattle.two_axis.specs.Axes.{first, second, TwoCall, two_call}
use Rattle.two_axis_probe.specs.Stepped.{reply_two}

-- "Each call brings one dt and two pairs of readings": dt, rate 1, moment 1, rate 2, moment 2 at byte i
unfoldable pub call_at : List ℕ → ℕ → TwoCall
call_at bytes i = two_call (float_at bytes i) (float_at bytes (i + 4)) (float_at bytes (i + 8)) (float_at bytes (i + 12)) (float_at bytes (i + 16))

-- "and answers two offsets": both words of an answer
abbrev pub answer_words : Result (Option (Float × Float)) ℕ → List ℕ
answer_words s = reply_word (reply_two s first) ∷ reply_word (reply_two s second) ∷ []

-- written to the front of a slice, each where it fits
abbrev pub words_within : Result (Option (Float × Float)) ℕ → List ℕ → List ℕ
words_within s l = written_within 4 (bytes_of 4 (reply_word (reply_two s second))) (written_within 0 (bytes_of 4 (reply_word (reply_two s first))) l)
