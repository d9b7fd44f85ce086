-- A tally goes on tick by tick, and none of its counts is above the ticks.
use Prim.Native.Nat.{ℕ, suc, ◌+◌, ◌≤◌, ◌<◌}
use mathlib.Core.Path.{◌≡◌, refl}
use mathlib.Core.Bool.{Bool, true, false, cond}
use mathlib.Core.List.{List}
use native.Mathlib.Omega.{arith}
use native.Mathlib.Numerals.{add-one}
use lib.Dec.{leb}
use lib.ListN.{length, take, get_or, length-take}
use lib.Seq.{get_or-take}
use Rattle.counting.specs.declared.Tally.{Tally}
use Rattle.window.specs.Walk.{run, over, mark_at, is_held, is_warm, is_row}
use Rattle.window.specs.Arrays.{many_to}
use Rattle.window.proofs.Bounds.{many_at_most, run_at_most}
use Rattle.counting.specs.Tally.{counts_to, tally_to, tallied}

pub record Few (t : Tally) (n : ℕ) : Type 0 where
  pub held : t.counts.held ≤ n
  pub warm : t.counts.warm ≤ n
  pub rows : t.counts.rows ≤ n
  pub run : t.run ≤ n

pub few : (marks : List Bool) (n : ℕ) → Few (tally_to marks n) n
unfolding tally_to counts_to
few marks n = record {
  held = many_at_most is_held marks n;
  warm = many_at_most is_warm marks n;
  rows = many_at_most is_row marks n;
  run = run_at_most (mark_at marks) n;
}

pub no_ticks : (marks : List Bool) → record { counts = record { held = 0; warm = 0; rows = 0 }; run = 0 } ≡ tally_to marks 0
unfolding tally_to counts_to many_to over run
no_ticks marks = refl

-- one more tick
by_mark : (x b : Bool) (t : Tally) → leb 11 t.run ≡ b
    → tallied t x ≡ record {
      counts = record {
        held = cond (is_held x t.run) (suc t.counts.held) t.counts.held;
        warm = cond (is_warm x t.run) (suc t.counts.warm) t.counts.warm;
        rows = cond (is_row x t.run) (suc t.counts.rows) t.counts.rows;
      };
      run = cond x 0 (suc t.run);
    }
unfolding tallied
by_mark true b t e = refl
by_mark false true t e = rw e
by_mark false false t e = rw e

tally_next : (marks : List Bool) (n : ℕ) → tallied (tally_to marks n) (mark_at marks n) ≡ tally_to marks (suc n)
unfolding tally_to counts_to many_to over run
tally_next marks n = by_mark (mark_at marks n) (leb 11 (tally_to marks n).run) (tally_to marks n) refl

-- one more of the first n marks
pub tally_more : (marks : List Bool) (n k : ℕ) → k < length (take n marks) → tallied (tally_to marks k) (get_or (take n marks) k false) ≡ tally_to marks (k + 1)
tally_more marks n k h =
    let inside : k < n = omega (arith, length-take {A = Bool}) in
    rw (get_or-take n marks k false inside, add-one) (tally_next marks k)
