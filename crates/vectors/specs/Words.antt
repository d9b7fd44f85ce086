-- What a record's words stand for, beside the word and the float of `wire`.
use Rattle.std.specs.Prelude.{ℕ, ◌+◌, ◌*◌, ◌^◌, Bool, true, false, List}
use Rattle.wire.specs.Words.{word_at}

-- a bool as a word
abbrev pub flag_of : Bool → ℕ
flag_of true = 1
flag_of false = 0

-- the bits of the f64 at byte i: two words, the high one first
unfoldable pub double_bits_at : List ℕ → ℕ → ℕ
double_bits_at bytes i = word_at bytes i * 2 ^ 32 + word_at bytes (i + 4)
