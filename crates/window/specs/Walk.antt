-- A walk over the stored ticks that counts the good ones in a row: 01, "The recorded fit" and "The report". A loop goes over the ticks in this way.
use Rattle.std.specs.Prelude.{ℕ, zero, suc, ◌≡◌, Bool, false, not, ◌&&◌, cond, List, leb, length, get_or}

-- the stored marks by tick
abbrev pub mark_at : List Bool → ℕ → Bool
mark_at marks k = get_or marks k false

-- how many good ticks stand in a row just before tick k: "A held tick empties the history"
unfoldable pub run : (ℕ → Bool) → ℕ → ℕ
run mark zero = 0
run mark (suc k) = cond (mark k) 0 (suc (run mark k))

-- what a tick is, by its mark and the run before it: held, one of the first 11 of its run, or "at least the 12th of its run"
abbrev pub is_held : Bool → ℕ → Bool
is_held mark n = mark

abbrev pub is_warm : Bool → ℕ → Bool
is_warm mark n = not mark && not (leb 11 n)

abbrev pub is_row : Bool → ℕ → Bool
is_row mark n = not mark && leb 11 n

-- f over the ticks below n that are such, in tick order from s
module _ {S : Type 0} (such : Bool → ℕ → Bool) (mark : ℕ → Bool) (f : S → ℕ → S) (s : S) where
  unfoldable pub over : ℕ → S
  over zero = s
  over (suc k) = let r = over k in cond (such (mark k) (run mark k)) (f r k) r

-- how many of the stored ticks are such
unfoldable pub many : (Bool → ℕ → Bool) → List Bool → ℕ
many such marks = over such (mark_at marks) (λ (n k : ℕ). suc n) 0 (length marks)

-- the j ticks just before tick k are there, and unmarked
abbrev pub Clear : (ℕ → Bool) → ℕ → ℕ → Type 0
Clear mark zero k = Unit {0}
Clear mark (suc j) zero = ⊥
Clear mark (suc j) (suc k) = (mark k ≡ false) × Clear mark j k
