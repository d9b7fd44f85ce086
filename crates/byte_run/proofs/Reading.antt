-- What a byte run reads: its calls.
use Prim.Native.Nat.{ℕ, ◌+◌, ◌≤◌, ◌<◌}
use mathlib.Core.Path.{◌≡◌, ap, ◌∙◌}
use mathlib.Core.List.{List}
use native.Mathlib.Omega.{arith}
use lib.Dec.{lit<}
use lib.ListN.{get_or, take, drop}
use lib.Seq.{get_or-take, get_or-drop}
use Rattle.wire.specs.Words.{word_at, float_at}

-- a float of a part is that of the whole, as many bytes on
pub part_float : (l : List ℕ) (at n i : ℕ) → i + 4 ≤ n → float_at (take n (drop at l)) i ≡ float_at l (at + i)
unfolding float_at word_at
part_float l at n i h =
    let byte : (k : ℕ) → k < 4 → get_or (take n (drop at l)) (i + k) 0 ≡ get_or l (at + i + k) 0 =
    λ k q. get_or-take n (drop at l) (i + k) 0 (omega arith) ∙ get_or-drop at l (i + k) 0 ∙ ap (λ (j : ℕ). get_or l j 0) (omega arith) in
    let first : get_or (take n (drop at l)) i 0 ≡ get_or l (at + i) 0 = get_or-take n (drop at l) i 0 (omega arith) ∙ get_or-drop at l i 0 in
    rw (first, byte 1 (lit< tt), byte 2 (lit< tt), byte 3 (lit< tt))
