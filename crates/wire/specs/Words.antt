-- 32-bit words and floats as bytes, big-endian: 01, "The report" and "The byte run".
use Rattle.std.specs.Prelude.{ℕ, zero, suc, ◌+◌, ◌*◌, ◌/◌, ◌%◌, ◌^◌, cond, List, [], ◌∷◌, ◌++◌, leb, length, get_or, take, drop, Float}
use Rattle.std.specs.Float.{binary32}
use Rattle.std.specs.Float.Ieee.{of_bits, to_bits}

-- the low k bytes of a number, the most significant first
unfoldable pub bytes_of : ℕ → ℕ → List ℕ
bytes_of zero n = []
bytes_of (suc k) n = n / 256 ^ k % 256 ∷ bytes_of k n

-- 32-bit words, big-endian
unfoldable pub word_bytes : List ℕ → List ℕ
word_bytes [] = []
word_bytes (w ∷ ws) = bytes_of 4 w ++ word_bytes ws

-- a float's word: "NaN 7FC00000 hexadecimal"
abbrev pub word_of : Float → ℕ
word_of x = to_bits binary32 x

-- the word at byte i, and the float that it stands for; every NaN pattern is NaN
unfoldable pub word_at : List ℕ → ℕ → ℕ
word_at bytes i = ((get_or bytes i 0 * 256 + get_or bytes (i + 1) 0) * 256 + get_or bytes (i + 2) 0) * 256 + get_or bytes (i + 3) 0

unfoldable pub float_at : List ℕ → ℕ → Float
float_at bytes i = of_bits binary32 (word_at bytes i)

-- a list with some of its elements, from place i on, written over
unfoldable pub written_at : ℕ → List ℕ → List ℕ → List ℕ
written_at i bytes l = take i l ++ (bytes ++ drop (i + length bytes) l)

-- the same where the elements fit; a list that they do not fit stays as it is
unfoldable pub written_within : ℕ → List ℕ → List ℕ → List ℕ
written_within i bytes l = cond (leb (i + length bytes) (length l)) (written_at i bytes l) l

-- words one after another from byte i on, each where it fits
unfoldable pub words_within : ℕ → List ℕ → List ℕ → List ℕ
words_within i [] l = l
words_within i (w ∷ ws) l = words_within (i + 4) ws (written_within i (bytes_of 4 w) l)

-- what a function over bytes answers, and its output as it leaves it
pub record Ran : Type 0 where
  pub result : ℕ
  pub output : List ℕ
