-- Bytes written over a list: how long it stays, when they fit, and how two writes beside each other are one.
use Prim.Native.Nat.{ℕ, suc, min, ◌+◌, ◌-◌, ◌*◌, ◌≤◌, ◌<◌}
use mathlib.Core.Path.{◌≡◌, sym, ◌∙◌}
use mathlib.Core.Logic.{⊎_elim}
use mathlib.Core.List.{List, [], ◌∷◌, ◌++◌, map, append_assoc, append-nil, map-append}
use native.Mathlib.Nat.{zero-add, add-zero, add_assoc}
use native.Mathlib.Omega.{arith}
use borrow.Author.Tests.{le-leb, lt-leb}
use borrow.Rule.Slice.PartMut.{put_mid}
use Rattle.std.specs.Int.{w32, to_be_bytes}
use lib.ListN.{length, get_or, take, drop, length-append, length-map, length-take, length-drop, take-append-drop}
use lib.Seq.{take-suc, take_all, take_at, drop_at, take-append-le, drop-append-add, drop-drop, drop-length, take-take}
use Rattle.std.proofs.Common.{add-one}
use Rattle.std.proofs.lemmas.Bool.{cases_lt}
use Rattle.wire.specs.Words.{bytes_of, word_bytes, written_at, written_within, words_within}
use Rattle.wire.proofs.Bytes.{four_bytes, length_bytes, length_words, one_word, words_append}

-- elements copied over a part that is as long
pub copied : (i k : ℕ) (xs l : List ℕ) → length xs ≡ k → put_mid i k l xs ≡ written_at i xs l
unfolding written_at
copied i k xs l e = rw (drop-drop, e)

-- the four bytes of a word
pub word_copied : (i w : ℕ) (l xs : List ℕ) → xs ≡ to_be_bytes w32 w → put_mid i (i + 4 - i) l xs ≡ written_at i (bytes_of 4 w) l
word_copied i w l xs e =
    let four : i + 4 - i ≡ 4 = omega arith in
    rw (four, e ∙ sym (four_bytes w)) (copied i 4 (bytes_of 4 w) l (length_bytes 4 w))

pub length_written : (i : ℕ) (xs l : List ℕ) → i + length xs ≤ length l → length (written_at i xs l) ≡ length l
unfolding written_at
length_written i xs l h = simp (length-append, length-take, length-drop) (omega arith)

-- what fits is written, what does not fit leaves the list, and its length stays in both cases
module _ (i : ℕ) (xs l : List ℕ) where
  pub within : i + length xs ≤ length l → written_within i xs l ≡ written_at i xs l
  unfolding written_within
  within h = rw (le-leb (i + length xs) (length l) h)

  pub past : length l < i + length xs → written_within i xs l ≡ l
  unfolding written_within
  past h = rw (lt-leb (i + length xs) (length l) h)

  pub length_within : length (written_within i xs l) ≡ length l
  length_within = ⊎_elim (λ (h : length l < i + length xs). rw (past h)) (λ (h : i + length xs ≤ length l). rw (within h) (length_written i xs l h)) (cases_lt (length l) (i + length xs))

-- the four bytes of a word
pub word_within : (i w : ℕ) (l : List ℕ) → i + 4 ≤ length l → written_within i (bytes_of 4 w) l ≡ written_at i (bytes_of 4 w) l
word_within i w l h = within i (bytes_of 4 w) l (rw length_bytes h)

pub word_past : (i w : ℕ) (l : List ℕ) → length l < i + 4 → written_within i (bytes_of 4 w) l ≡ l
word_past i w l h = past i (bytes_of 4 w) l (rw length_bytes h)

pub nothing_written : (i : ℕ) (l : List ℕ) → written_at i [] l ≡ l
unfolding written_at
nothing_written i l = rw (add-zero, take-append-drop)

-- from the front on: these bytes and then what stood behind them
pub front_written : (xs l : List ℕ) → written_at 0 xs l ≡ xs ++ drop (length xs) l
unfolding written_at
front_written xs l = rw zero-add

-- over a list that is as long: these bytes alone
pub whole_written : (xs l : List ℕ) → length l ≡ length xs → written_at 0 xs l ≡ xs
whole_written xs l e = rw (front_written, ← e, drop-length, append-nil)

-- what stands past the end of the first of two lists
drop_past : (p q : List ℕ) (n m : ℕ) → length p ≡ n → drop (n + m) (p ++ q) ≡ drop m q
drop_past p q n m e = rw (← e) (drop-append-add p q m)

-- what is written right behind what was written before
pub written_next : (i : ℕ) (xs ys l : List ℕ) → i + length xs ≤ length l → written_at (i + length xs) ys (written_at i xs l) ≡ written_at i (xs ++ ys) l
unfolding written_at
written_next i xs ys l h =
    let p = take i l ++ xs in
    let e : length p ≡ i + length xs = simp (length-append, length-take) (omega arith) in
    rw (← append_assoc (take i l) xs (drop (i + length xs) l), take_at p (drop (i + length xs) l) (i + length xs) e, drop_past p (drop (i + length xs) l) (i + length xs) (length ys) e, drop-drop, length-append, add_assoc) (simp append_assoc)

-- what is written right before what was written already
pub written_before : (i : ℕ) (xs ys l : List ℕ) → i + length xs ≤ length l → written_at i xs (written_at (i + length xs) ys l) ≡ written_at i (xs ++ ys) l
unfolding written_at
written_before i xs ys l h =
    let j = i + length xs in
    let e : length (take j l) ≡ j = simp length-take (omega arith) in
    let within : i ≤ length (take j l) = rw e (omega arith) in
    let front : i ≤ j = omega arith in
    rw (take-append-le i (take j l) (ys ++ drop (j + length ys) l), take-take i j l, drop_at (take j l) (ys ++ drop (j + length ys) l) j e, length-append, add_assoc, append_assoc)

-- k words keep the length too
pub length_words_written : (i k : ℕ) (ws l : List ℕ) → length ws ≡ k → i + 4 * k ≤ length l → length (written_at i (word_bytes ws) l) ≡ length l
length_words_written i k ws l e h = length_written i (word_bytes ws) l (rw (length_words, e) h)

-- one more word behind k of them
pub word_next : (i k : ℕ) (ws : List ℕ) (w : ℕ) (l : List ℕ) → length ws ≡ k → i + 4 * k ≤ length l → written_at (i + 4 * k) (bytes_of 4 w) (written_at i (word_bytes ws) l) ≡ written_at i (word_bytes (ws ++ (w ∷ []))) l
word_next i k ws w l e h =
    rw (words_append, one_word, ← e, ← length_words ws) (written_next i (word_bytes ws) (bytes_of 4 w) l (rw (length_words, e) h))

-- one more word behind those of a list, where each is written where it fits
pub words_next : (i : ℕ) (ws : List ℕ) (w : ℕ) (l : List ℕ) → words_within i (ws ++ (w ∷ [])) l ≡ written_within (i + 4 * length ws) (bytes_of 4 w) (words_within i ws l)
unfolding words_within
words_next i [] w l = rw add-zero
words_next i (v ∷ ws) w l =
    let e : i + 4 * suc (length ws) ≡ i + 4 + 4 * length ws = omega arith in
    rw e (words_next (i + 4) ws w (written_within i (bytes_of 4 v) l))

-- a place past the largest number is past the end of every list, and so is the largest
pub saturated : (p n w : ℕ) (l : List ℕ) → length l < n → written_within (min p n) (bytes_of 4 w) l ≡ written_within p (bytes_of 4 w) l
saturated p n w l h =
    ⊎_elim (λ (e : p < n). let m : min p n ≡ p = omega arith in rw m) (λ (e : n ≤ p). let m : min p n ≡ n = omega arith in rw (m, word_past n w l (omega arith), word_past p w l (omega arith))) (cases_lt p n)

-- words that fit are written as one
pub words_fit : (i : ℕ) (ws l : List ℕ) → i + 4 * length ws ≤ length l → words_within i ws l ≡ written_at i (word_bytes ws) l
unfolding words_within word_bytes
words_fit i [] l h = sym (nothing_written i l)
words_fit i (w ∷ ws) l h =
    let one = written_within i (bytes_of 4 w) l in
    let long : length one ≡ length l = length_within i (bytes_of 4 w) l in
    words_fit (i + 4) ws one (omega arith)
    ∙ rw (word_within i w l (omega arith)) (rw (length_bytes 4 w) at (written_next i (bytes_of 4 w) (word_bytes ws) l (rw length_bytes (omega arith))))

-- values written as words, one by one; the place is cut to n, which is past the end
module _ {V : Type 0} (word : V → ℕ) (values : List V) (i : ℕ) (l : List ℕ) where
  -- the next one
  pub value_next : (n k p : ℕ) (x : V) (out : List ℕ) → p ≡ min (i + 4 * k) n → length out < n → k < length values → get_or values k x ≡ x → out ≡ words_within i (map word (take k values)) l
      → written_within p (bytes_of 4 (word x)) out ≡ words_within i (map word (take (k + 1) values)) l
  value_next n k p x out cut past inside at before =
      let passed : length (map word (take k values)) ≡ k = simp (length-map, length-take) (omega arith) in
      rw (cut, saturated _ n _ out past, before, add-one, take-suc values k x inside, at, map-append, words_next, passed)

  -- all of them, and as one where they fit
  pub values_each : (k : ℕ) (out : List ℕ) → k ≡ length values → out ≡ words_within i (map word (take k values)) l → out ≡ words_within i (map word values) l
  values_each k out all before = rw (before, all, take_all (length values) values (omega arith))

  pub values_fit : i + 4 * length values ≤ length l → words_within i (map word values) l ≡ written_at i (word_bytes (map word values)) l
  values_fit fits = words_fit i (map word values) l (rw length-map fits)
