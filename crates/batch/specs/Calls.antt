-- The calls of a run over bytes, one behind the other.
use Rattle.std.specs.Prelude.{ℕ, zero, suc, ◌*◌, ◌/◌, List, [], ◌∷◌, ◌++◌, length}

-- the first n calls of some bytes each, read where they stand
unfoldable pub calls_to : {A : Type 0} → (size : ℕ) → (call_at : List ℕ → ℕ → A) → List ℕ → ℕ → List A
calls_to size call_at bytes zero = []
calls_to size call_at bytes (suc n) = calls_to size call_at bytes n ++ (call_at bytes (size * n) ∷ [])

unfoldable pub calls_of : {A : Type 0} → (size : ℕ) → (call_at : List ℕ → ℕ → A) → List ℕ → List A
calls_of size call_at bytes = calls_to size call_at bytes (length bytes / size)
