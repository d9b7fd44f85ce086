-- The sizes of a run over bytes: 01, "The byte run", and 02, request five, which has its form.
use Rattle.std.specs.Prelude.{ℕ, ◌+◌, ◌*◌, ◌/◌, ◌%◌, ◌<◌, ◌≤◌, Bool, ◌&&◌, List, leb, eqb, length}
use Rattle.batch.specs.declared.Sizes.{Sizes}

-- "9: configuration not 24 bytes, calls not a multiple of 12, or output below 36 + 4 bytes a call", of a kind's own sizes
unfoldable pub sized : Sizes → (config calls output : List ℕ) → Bool
sized s config calls output =
    eqb (length config) 24 && eqb (length calls % s.call) 0 && leb (s.report + s.answer * (length calls / s.call)) (length output)

-- sizes whose sums no slice is too long for: a call is of some bytes and no shorter than its answer, and the report is short
pub record Workable (s : Sizes) : Type 0 where
  pub some : 0 < s.call
  pub answer : s.answer ≤ s.call
  pub report : s.report ≤ 4096
