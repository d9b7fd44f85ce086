-- Words and floats read back from the bytes that they were written as.
use Prim.Native.Nat.{ℕ, zero, suc, min, ◌+◌, ◌*◌, ◌/◌, ◌%◌, ◌^◌, ◌≤◌, ◌<◌}
use mathlib.Core.Path.{◌≡◌, refl, sym, ap, ◌∙◌}
use mathlib.Core.Logic.{⊎_elim}
use mathlib.Core.List.{List, [], ◌∷◌, ◌++◌}
use native.Mathlib.Nat.{div-one, div-add-mod', div-div-eq-div-mul}
use native.Mathlib.Omega.{arith}
use lib.Dec.{T}
use lib.ListN.{length, get_or, get_or-append}
use lib.Seq.{get_or-append-add}
use lib.Ieee.{Float, binary32, of_bits, fits}
use lib.Ieee.Bits.{of_bits-to_bits, to_bits-lt}
use Rattle.std.proofs.lemmas.Bool.{cases_lt}
use Rattle.std.proofs.lemmas.List.{get_or_past}
use Rattle.wire.specs.Words.{bytes_of, word_bytes, word_of, word_at, float_at}
use Rattle.wire.proofs.Bytes.{length_bytes, length_words}

-- a place past the largest number is past the end of every list, and so is the largest: both read as 0
word_at_past : (bytes : List ℕ) (p : ℕ) → length bytes ≤ p → word_at bytes p ≡ 0
unfolding word_at
word_at_past bytes p h = rw (get_or_past bytes p 0 h, get_or_past bytes (p + 1) 0 (omega arith), get_or_past bytes (p + 2) 0 (omega arith), get_or_past bytes (p + 3) 0 (omega arith))

pub word_at_saturated : (bytes : List ℕ) (p n : ℕ) → length bytes ≤ n → word_at bytes (min p n) ≡ word_at bytes p
word_at_saturated bytes p n h =
    ⊎_elim (λ (e : p < n). let m : min p n ≡ p = omega arith in rw m) (λ (e : n ≤ p). let m : min p n ≡ n = omega arith in rw (m, word_at_past bytes n h, word_at_past bytes p (omega arith))) (cases_lt p n)

-- four bytes joined
abbrev joined : ℕ → ℕ
joined w = ((w / 256 ^ 3 % 256 * 256 + w / 256 ^ 2 % 256) * 256 + w / 256 ^ 1 % 256) * 256 + w / 256 ^ 0 % 256

whole : (w : ℕ) → w < 2 ^ 32 → joined w ≡ w
whole w h =
    let two : w / 256 ^ 2 ≡ w / 256 / 256 = sym (div-div-eq-div-mul w 256 256) in
    let three : w / 256 ^ 3 ≡ w / 256 ^ 2 / 256 = sym (div-div-eq-div-mul w (256 ^ 2) 256) in
    let top : w / 256 ^ 3 % 256 ≡ w / 256 ^ 2 / 256 = (let r : w / 256 ^ 3 % 256 ≡ w / 256 ^ 3 = omega arith in r) ∙ three in
    ap (λ (x : ℕ). ((x * 256 + w / 256 ^ 2 % 256) * 256 + w / 256 % 256) * 256 + w / 1 % 256) top
    ∙ ap (λ (x : ℕ). (x * 256 + w / 256 % 256) * 256 + w / 1 % 256) (div-add-mod' (w / 256 ^ 2) 256 ∙ two)
    ∙ ap (λ (x : ℕ). x * 256 + w / 1 % 256) (div-add-mod' (w / 256) 256)
    ∙ ap (λ (x : ℕ). w / 256 * 256 + x % 256) (div-one w)
    ∙ div-add-mod' w 256

first : (w : ℕ) (ws : List ℕ) → word_at (word_bytes (w ∷ ws)) 0 ≡ joined w
unfolding word_at word_bytes bytes_of
first w ws = refl

-- past the first word
past : (w : ℕ) (ws : List ℕ) (i : ℕ) → word_at (word_bytes (w ∷ ws)) (4 + i) ≡ word_at (word_bytes ws) i
unfolding word_at word_bytes
past w ws i =
    let front = bytes_of 4 w in
    let byte : (n j : ℕ) → n ≡ 4 + j → get_or (front ++ word_bytes ws) n 0 ≡ get_or (word_bytes ws) j 0 =
    λ n j e. ap (λ (k : ℕ). get_or (front ++ word_bytes ws) k 0) (e ∙ ap (λ (k : ℕ). k + j) (sym (length_bytes 4 w))) ∙ get_or-append-add front (word_bytes ws) j 0 in
    rw (byte (4 + i) i refl, byte (4 + i + 1) (i + 1) (omega arith), byte (4 + i + 2) (i + 2) (omega arith), byte (4 + i + 3) (i + 3) (omega arith))

pub word_read : (ws : List ℕ) (k : ℕ) → k < length ws → get_or ws k 0 < 2 ^ 32 → word_at (word_bytes ws) (4 * k) ≡ get_or ws k 0
word_read [] k h s = absurd (let r : ⊥ = omega arith in r)
word_read (w ∷ ws) zero h s = first w ws ∙ whole w s
word_read (w ∷ ws) (suc k) h s =
    ap (word_at (word_bytes (w ∷ ws))) (let r : 4 * suc k ≡ 4 + 4 * k = omega arith in r) ∙ past w ws (4 * k) ∙ word_read ws k (let r : k < length ws = omega arith in r) s

pub float_read : (ws : List ℕ) (k : ℕ) (x : Float) → T (fits binary32 x) → k < length ws → get_or ws k 0 ≡ word_of x → float_at (word_bytes ws) (4 * k) ≡ x
unfolding float_at
float_read ws k x f h e = ap (of_bits binary32) (word_read ws k h (rw e (to_bits-lt binary32 x f)) ∙ e) ∙ of_bits-to_bits binary32 x f

-- ---- whatever stands behind them
word_before : (bytes more : List ℕ) (i : ℕ) → i + 3 < length bytes → word_at (bytes ++ more) i ≡ word_at bytes i
unfolding word_at
word_before bytes more i h =
    rw (get_or-append bytes more 0 i (omega arith), get_or-append bytes more 0 (i + 1) (omega arith), get_or-append bytes more 0 (i + 2) (omega arith), get_or-append bytes more 0 (i + 3) (omega arith))

before : (ws more : List ℕ) (k : ℕ) → k < length ws → word_at (word_bytes ws ++ more) (4 * k) ≡ word_at (word_bytes ws) (4 * k)
before ws more k h = word_before (word_bytes ws) more (4 * k) (rw (length_words ws) (omega arith))

pub word_read_before : (ws more : List ℕ) (k : ℕ) → k < length ws → get_or ws k 0 < 2 ^ 32 → word_at (word_bytes ws ++ more) (4 * k) ≡ get_or ws k 0
word_read_before ws more k h s = before ws more k h ∙ word_read ws k h s

pub float_read_before : (ws more : List ℕ) (k : ℕ) (x : Float) → T (fits binary32 x) → k < length ws → get_or ws k 0 ≡ word_of x → float_at (word_bytes ws ++ more) (4 * k) ≡ x
unfolding float_at
float_read_before ws more k x f h e = ap (of_bits binary32) (before ws more k h) ∙ float_read ws k x f h e
