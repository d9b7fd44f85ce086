-- The bytes of a number and of words.
use Prim.Native.Nat.{ℕ, zero, suc, ◌+◌, ◌*◌, ◌/◌, ◌%◌, ◌^◌}
use mathlib.Core.Path.{◌≡◌, refl, sym, ap, ◌∙◌}
use mathlib.Core.List.{List, [], ◌∷◌, ◌++◌, append_assoc, append-nil}
use native.Mathlib.Nat.{div-one, zero-add, suc-add, add_comm, mul_comm, mul_assoc, mul-suc, pow-suc, one-le-pow, div-add-mod', div-div-eq-div-mul, mul-add-div_right, mul-add-mod_self_right}
use native.Mathlib.Omega.{arith}
use Rattle.std.specs.Int.{w32, to_be_bytes, from_be_bytes}
use lib.Dec.{lit<}
use lib.ListN.{length, length-append}
use lib.Pow.{pow-add}
use Rattle.wire.specs.Words.{bytes_of, word_bytes}

pub length_bytes : (k n : ℕ) → length (bytes_of k n) ≡ k
unfolding bytes_of
length_bytes zero n = refl
length_bytes (suc k) n = ap suc (length_bytes k n)

pub length_words : (ws : List ℕ) → length (word_bytes ws) ≡ 4 * length ws
unfolding word_bytes
length_words [] = refl
length_words (w ∷ ws) = rw (length-append, length_bytes, length_words ws, mul-suc 4) (omega arith)

-- the library's bytes of a word, and its word of four bytes
pub four_bytes : (w : ℕ) → bytes_of 4 w ≡ to_be_bytes w32 w
unfolding bytes_of
four_bytes w = rw div-one

pub four_joined : (a b c d : ℕ) → from_be_bytes w32 (a ∷ b ∷ c ∷ d ∷ []) ≡ ((a * 256 + b) * 256 + c) * 256 + d
four_joined a b c d = omega arith

pub one_word : (w : ℕ) → word_bytes (w ∷ []) ≡ bytes_of 4 w
unfolding word_bytes
one_word w = rw append-nil

pub words_append : (vs ws : List ℕ) → word_bytes (vs ++ ws) ≡ word_bytes vs ++ word_bytes ws
unfolding word_bytes
words_append [] ws = refl
words_append (v ∷ vs) ws = rw (append_assoc, words_append vs ws)

-- the first j of j + k bytes are the bytes of the number without its last k
pub bytes_split : (j k n : ℕ) → bytes_of (j + k) n ≡ bytes_of j (n / 256 ^ k) ++ bytes_of k n
unfolding bytes_of
bytes_split zero k n = rw zero-add
bytes_split (suc j) k n = rw (suc-add, div-div-eq-div-mul, ← pow-add, add_comm k j, bytes_split j k n)

-- what stands above the last k bytes does not show in them
bytes_low : (k h n : ℕ) → bytes_of k (h * 256 ^ k + n) ≡ bytes_of k n
unfolding bytes_of
bytes_low zero h n = refl
bytes_low (suc k) h n =
    rw (pow-suc, mul_comm (256 ^ k) 256, ← mul_assoc, mul-add-div_right (one-le-pow k 256 (lit< tt)), mul-add-mod_self_right, bytes_low k (h * 256) n)

pub bytes_cut : (k n : ℕ) → bytes_of k (n % 256 ^ k) ≡ bytes_of k n
bytes_cut k n = sym (bytes_low k (n / 256 ^ k) (n % 256 ^ k)) ∙ ap (bytes_of k) (div-add-mod' n (256 ^ k))

-- twelve bytes are three words
pub three_words : (n : ℕ) → bytes_of 12 n ≡ word_bytes (n / 2 ^ 64 ∷ n / 2 ^ 32 % 2 ^ 32 ∷ n % 2 ^ 32 ∷ [])
unfolding word_bytes
three_words n =
    rw (bytes_cut 4 (n / 2 ^ 32), bytes_cut 4 n, append-nil) (bytes_split 4 8 n ∙ ap (λ (l : List ℕ). bytes_of 4 (n / 2 ^ 64) ++ l) (bytes_split 4 4 n))
