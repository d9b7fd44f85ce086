-- Counting by a run counter is counting over the good runs: the counter is the length of the run so far.
use Prim.Native.Nat.{ℕ, zero, suc, ◌+◌}
use mathlib.Core.Path.{◌≡◌, refl, sym, ap, ◌∙◌}
use mathlib.Core.Bool.{Bool, true, false, not, ◌&&◌, cond, true≢false}
use mathlib.Core.Logic.{◌↔◌}
use mathlib.Core.List.{List, [], ◌∷◌, ◌++◌, foldl, foldl-append, append-nil}
use native.Mathlib.Omega.{arith}
use native.Mathlib.Nat.{zero-add}
use lib.Dec.{T, leb, leb-zero, leb-suc-zero, leb-suc-suc}
use lib.ListN.{length, drop, length-append, length-take, length-drop}
use lib.Seq.{drop-nil, append_snoc, get_or-append_seam}
use Rattle.window.specs.Walk.{run, over, many, mark_at, Clear, is_held, is_warm, is_row}
use Rattle.window.specs.Runs.{runs_from, held_of, rows_of, warm_of, beyond}

one_more : {A : Type 0} (r : List A) (k : A) → length (r ++ (k ∷ [])) ≡ suc (length r)
one_more r k = simp length-append (omega arith)

-- the walk over the marks as a list, from tick k on and after n good ones
module _ {S : Type 0} (such : Bool → ℕ → Bool) (f : S → ℕ → S) where
  walk : S → ℕ → ℕ → List Bool → S
  walk s n k [] = s
  walk s n k (x ∷ ms) = walk (cond (such x n) (f s k) s) (cond x 0 (suc n)) (suc k) ms

  over_walk : (ms all before : List Bool) (s : S) → all ≡ before ++ ms
      → walk (over such (mark_at all) f s (length before)) (run (mark_at all) (length before)) (length before) ms ≡ over such (mark_at all) f s (length all)
  unfolding walk over run
  over_walk [] all before s h = rw (h, append-nil)
  over_walk (x ∷ ms) all before s h =
      let e : mark_at all (length before) ≡ x = rw h (get_or-append_seam before x ms false) in
      rw (one_more before x, e) at (over_walk ms all (before ++ (x ∷ [])) s (rw append_snoc h))

  over_is : (ms : List Bool) (s : S) → over such (mark_at ms) f s (length ms) ≡ walk s 0 0 ms
  unfolding over run
  over_is ms s = sym (over_walk ms ms [] s refl)

module _ {S : Type 0} (f : S → ℕ → S) where
  -- one more tick of a run is one more row where n stand before it
  row : (n : ℕ) (r : List ℕ) (k : ℕ) (s : S) → foldl f s (drop n (r ++ (k ∷ []))) ≡ cond (leb n (length r)) (f (foldl f s (drop n r)) k) (foldl f s (drop n r))
  row zero r k s = rw (leb-zero, foldl-append)
  row (suc n) [] k s = rw leb-suc-zero (ap (foldl f s) (drop-nil n))
  row (suc n) (x ∷ r) k s = rw (leb-suc-suc) (row n r k s)

  -- the walk from the run so far is the fold over that run's rows and those after it
  walks : (ms : List Bool) (r : List ℕ) (k : ℕ) (s : S) → walk is_row f (foldl f s (drop 11 r)) (length r) k ms ≡ foldl f s (rows_of (runs_from r k ms))
  unfolding walk runs_from rows_of
  walks [] r k s = rw append-nil
  walks (true ∷ ms) r k s = rw foldl-append (walks ms [] (suc k) (foldl f s (drop 11 r)))
  walks (false ∷ ms) r k s = rw (← row 11 r k s, ← one_more r k) (walks ms (r ++ (k ∷ [])) (suc k) s)

-- each tick is held, warm or a row
pub whole : (ms : List Bool) (r : List ℕ) (k : ℕ) → length r + length ms ≡ held_of ms + warm_of (runs_from r k ms) + length (rows_of (runs_from r k ms))
unfolding held_of runs_from warm_of rows_of
whole [] r k = simp (length-append, length-take, length-drop) (omega arith)
whole (true ∷ ms) r k = simp (length-append, length-take, length-drop) (omega (arith, whole ms [] (suc k)))
whole (false ∷ ms) r k = omega (arith, whole ms (r ++ (k ∷ [])) (suc k), one_more r k)

pub by_runs : (rs : List (List ℕ)) → length (rows_of rs) ≡ beyond rs
unfolding rows_of beyond
by_runs [] = refl
by_runs (r ∷ rs) = simp (length-append, length-drop, by_runs rs)

-- the counts by the counter
abbrev tally : ℕ → ℕ → ℕ
tally n k = suc n

counts : (l : List ℕ) (n : ℕ) → foldl tally n l ≡ n + length l
counts [] n = omega arith
counts (x ∷ l) n = omega (arith, counts l (suc n))

helds : (ms : List Bool) (s n k : ℕ) → walk is_held tally s n k ms ≡ s + held_of ms
unfolding walk held_of
helds [] s n k = omega arith
helds (true ∷ ms) s n k = omega (arith, helds ms (suc s) 0 (suc k))
helds (false ∷ ms) s n k = omega (arith, helds ms s (suc n) (suc k))

part : (x b : Bool) (h w r : ℕ) → cond x (suc h) h + cond (not x && not b) (suc w) w + cond (not x && b) (suc r) r ≡ suc (h + w + r)
part true b h w r = omega arith
part false true h w r = omega arith
part false false h w r = omega arith

each : (mark : ℕ → Bool) (n : ℕ) → over is_held mark tally 0 n + over is_warm mark tally 0 n + over is_row mark tally 0 n ≡ n
unfolding over
each mark zero = refl
each mark (suc n) = part (mark n) (leb 11 (run mark n)) _ _ _ ∙ ap suc (each mark n)

-- what the claim cites: any fold over the rows, and the three counts
module _ (ms : List Bool) where
  pub sums : {S : Type 0} (f : S → ℕ → S) (s : S) → over is_row (mark_at ms) f s (length ms) ≡ foldl f s (rows_of (runs_from [] 0 ms))
  sums f s = over_is is_row f ms s ∙ walks f ms [] 0 s

  pub held : many is_held ms ≡ held_of ms
  unfolding many
  held = over_is is_held tally ms 0 ∙ helds ms 0 0 0 ∙ zero-add (held_of ms)

  pub rows : many is_row ms ≡ length (rows_of (runs_from [] 0 ms))
  unfolding many
  rows = sums tally 0 ∙ counts (rows_of (runs_from [] 0 ms)) 0 ∙ zero-add (length (rows_of (runs_from [] 0 ms)))

  pub warm : many is_warm ms ≡ warm_of (runs_from [] 0 ms)
  unfolding many
  warm = omega (arith, held, rows, each (mark_at ms) (length ms), whole ms [] 0)

-- The counter is a maximal run: it is at least j where the j ticks before tick k are unmarked. So a row is the last of twelve unmarked ticks.
longer : (x : Bool) (j n : ℕ) → leb (suc j) (cond x 0 (suc n)) ≡ (not x && leb j n)
longer true j n = leb-suc-zero j
longer false j n = leb-suc-suc j n

good_and : (x b : Bool) {C : Type 0} → T b ↔ C → T (not x && b) ↔ ((x ≡ false) × C)
good_and true b h = (λ t. absurd t, λ c. absurd (true≢false c.0))
good_and false b h = (λ t. (refl, h.0 t), λ c. h.1 c.1)

pub run_is : (mark : ℕ → Bool) (j k : ℕ) → T (leb j (run mark k)) ↔ Clear mark j k
unfolding run
run_is mark zero k = (λ t. tt, λ c. rw leb-zero tt)
run_is mark (suc j) zero = (λ t. rw leb-suc-zero at t, λ c. absurd c)
run_is mark (suc j) (suc k) = rw longer (good_and (mark k) (leb j (run mark k)) (run_is mark j k))

pub row_is : (mark : ℕ → Bool) (k : ℕ) → T (is_row (mark k) (run mark k)) ↔ Clear mark 12 (suc k)
row_is mark k = good_and (mark k) (leb 11 (run mark k)) (run_is mark 11 k)
