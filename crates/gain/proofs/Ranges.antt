-- A part of a list: its length, and its entries.
use Rattle.std.proofs.Common.{◌≡◌, ℕ, ◌+◌, ◌-◌, ◌<◌, ◌≤◌, List, length, get_or, drop, slice_range, ◌∙◌, arith, length-drop, length-take-le, get_or-drop, get_or-take}

module _ {A : Type 0} (l : List A) (a b : ℕ) where
  pub long_range : b ≤ length l → length (slice_range l a b) ≡ b - a
  long_range h = length-take-le (b - a) (drop a l) (rw length-drop (omega arith))

  pub range_at : (j : ℕ) (z : A) → j < b - a → get_or (slice_range l a b) j z ≡ get_or l (a + j) z
  range_at j z h = get_or-take (b - a) (drop a l) j z h ∙ get_or-drop a l j z
