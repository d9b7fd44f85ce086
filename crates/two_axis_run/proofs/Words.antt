-- A call's 20 bytes are a part of all calls, and its two words are its answer's 8 bytes.
use Prim.Native.Nat.{ℕ, ◌≤◌}
use mathlib.Core.Path.{◌≡◌, refl, ◌∙◌}
use mathlib.Core.List.{List, [], ◌∷◌}
use native.Mathlib.Nat.{add-zero}
use native.Mathlib.Omega.{arith}
use lib.ListN.{length, take, drop}
use Rattle.wire.specs.Words.{bytes_of, word_bytes, written_within}
use Rattle.wire.proofs.Bytes.{length_words, one_word}
use Rattle.wire.proofs.Written.{within, length_within, word_within, word_next, whole_written}
use Rattle.byte_run.proofs.Reading.{part_float}
use Rattle.std.specs.Prelude.{Option, Result}
use lib.Ieee.{Float}
use Rattle.two_axis_calls.specs.Calls.{call_at, answer_words, words_within}

-- a call that is a part of all calls is the one that stands there
pub call_in_part : (at : ℕ) (l : List ℕ) → call_at (take 20 (drop at l)) 0 ≡ call_at l at
unfolding call_at
call_in_part at l =
    rw (part_float l at 20 0 (omega arith), part_float l at 20 4 (omega arith), part_float l at 20 8 (omega arith), part_float l at 20 12 (omega arith), part_float l at 20 16 (omega arith), add-zero)

words_written : (a b : ℕ) (l : List ℕ) → 8 ≤ length l → written_within 4 (bytes_of 4 b) (written_within 0 (bytes_of 4 a) l) ≡ written_within 0 (word_bytes (a ∷ b ∷ [])) l
words_written a b l h =
    let one = written_within 0 (bytes_of 4 a) l in
    let long : length one ≡ length l = length_within 0 (bytes_of 4 a) l in
    rw (within 0 (word_bytes (a ∷ b ∷ [])) l (rw (length_words (a ∷ b ∷ [])) h), word_within 4 b one (omega arith), word_within 0 a l (omega arith), ← one_word a) (word_next 0 1 (a ∷ []) b l refl (omega arith))

-- an answer's two words alone
pub words_alone : (s : Result (Option (Float × Float)) ℕ) (l : List ℕ) → length l ≡ 8 → words_within s l ≡ word_bytes (answer_words s)
words_alone s l e =
    let words = word_bytes (answer_words s) in
    let eight : length words ≡ 8 = length_words (answer_words s) in
    words_written _ _ l (omega arith) ∙ within 0 words l (omega arith) ∙ whole_written words l (omega arith)
