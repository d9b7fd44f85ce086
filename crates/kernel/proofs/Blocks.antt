-- A block of ticks more at every place: a place's sums go on from where they stand, over the ticks that the block brings to it, and come to those of the ticks so far.
use Rattle.std.proofs.Common.{◌≡◌, ℕ, zero, suc, ◌+◌, ◌-◌, ◌≤◌, ◌<◌, min, List, [], length, set, replicate, refl, ap, ◌∙◌, ⊎_elim, eq-or-lt_of_le, le_of_suc-le-suc, add-one, arith, length-set, get_or-set_same, get_or-set_other}
use Rattle.std.proofs.lemmas.List.{length-replicate, get_or-replicate}
use lib.Ieee.{Float, nan}
use Rattle.float.specs.Values.{zero64}
use Rattle.float.specs.Series.{at}
use Rattle.gain.specs.declared.FitInput.{FitInput}
use Rattle.gain.specs.Gain.{first_tick}
use Rattle.gain.specs.Prepared.{ticks_of}
use Rattle.gain.proofs.Ranges.{range_at}
use Rattle.lanes.specs.Lanes.{lane_count, block_ticks, lane_series}
use Rattle.kernel.specs.declared.LaneSums.{LaneSums}
use Rattle.kernel.specs.Kernel.{whole_ticks, Sums, one_on, sums_on, lane, lane_of, reached_of, block_on, no_lanes, lanes_at, tick_series, tick_sums, HasSums}

-- sums that go on after a ticks come to those of a + b ticks
sums_go_on : (carry : Float) (x c t y d e : ℕ → Float) (s : Sums) (a b : ℕ) → ((i : ℕ) → i < b → (y i ≡ x (a + i)) × (d i ≡ c (a + i)) × (e i ≡ t (a + i)))
    → sums_on carry y d e (sums_on carry x c t s a) b ≡ sums_on carry x c t s (a + b)
unfolding sums_on
sums_go_on carry x c t y d e s a zero h = let z : a ≡ a + 0 = omega arith in ap (sums_on carry x c t s) z
sums_go_on carry x c t y d e s a (suc b) h =
    let n : a + suc b ≡ suc (a + b) = omega arith in
    let v = h b (omega arith) in
    let z = sums_go_on carry x c t y d e s a b (λ i p. h i (omega arith)) in
    rw n (λ j. one_on carry (v.0 j) (v.1 j) (v.2 j) (z j))

woven_tick : (n e k i : ℕ) → e ≤ 11 → k - e + i < n → k - e + i < k + 128 - e → (e + (k - e) - k + i < min (n + 11 - k) 128) × (k + (e + (k - e) - k + i) ≡ e + (k - e + i))
woven_tick n e k i p q r = omega arith

-- where it brings a tick, that tick is woven in it, and is the next one
next_tick : (n e k i : ℕ) → e ≤ 11 → i < min (k + 128 - e) n - min (k - e) n
    → (e + min (k - e) n - k + i < min (n + 11 - k) 128) × (k + (e + min (k - e) n - k + i) ≡ e + (min (k - e) n + i))
next_tick n e k i p q =
    let f : min (k - e) n ≡ k - e = omega arith in
    let a : k - e + i < n = omega arith in
    let b : k - e + i < k + 128 - e = omega arith in
    rw f (woven_tick n e k i p a b)

-- six lanes of no tick
abbrev zeros : LaneSums
zeros = record { m = replicate lane_count zero64; mm = replicate lane_count zero64; mc = replicate lane_count zero64; mt = replicate lane_count zero64 }

module _ (i : FitInput) (poles : List Float) where
  abbrev n : ℕ
  n = ticks_of i.shared

  -- the lanes of the block from tick k on
  abbrev pub IsBlock : ℕ → List (List Float) → Type 0
  IsBlock k ticks = (h j : ℕ) → h < lane_count → j < min (n + 11 - k) block_ticks → lane_of ticks h j ≡ lane_series poles (at i.moments.now) h (k + j)

  block_goes_on : (k d h : ℕ) (ticks : List (List Float)) → d < whole_ticks → h < lane_count → IsBlock k ticks
      → block_on i ticks d k h (tick_sums i poles d h (reached_of n d k)) ≡ tick_sums i poles d h (reached_of n d (k + block_ticks))
  block_goes_on k d h ticks p q w =
      let a = reached_of n d k in
      let b = reached_of n d (k + block_ticks) in
      let first = first_tick - d + a - k in
      let e : a + (b - a) ≡ b = omega arith in
      sums_go_on i.shared.carry (tick_series poles (at i.moments.now) d h) (at i.constants.now) (at i.changes.now) _ _ _ _ a (b - a)
      (λ j r.
      let z = next_tick n (first_tick - d) k j (omega arith) r in (
        ap (λ (t : List Float). at t h) (range_at ticks first (first + (b - a)) j [] (omega arith)) ∙ w h (first + j) q z.0 ∙ ap (lane_series poles (at i.moments.now) h) z.1,
        range_at i.constants.now a b j nan r,
        range_at i.changes.now a b j nan r,
      ))
      ∙ ap (tick_sums i poles d h) e

  -- in the middle of the block from tick k on: the whole ticks below d have it in them, the others not yet
  pub record Places (k d : ℕ) (l : List LaneSums) : Type 0 where
    pub long : length l ≡ whole_ticks
    pub done : (e h : ℕ) → e < d → h < lane_count → lane (lanes_at l e) h ≡ tick_sums i poles e h (reached_of n e (k + block_ticks))
    pub left : (e h : ℕ) → d ≤ e → e < whole_ticks → h < lane_count → lane (lanes_at l e) h ≡ tick_sums i poles e h (reached_of n e k)

  pub begin : Places 0 0 (replicate whole_ticks zeros)
  unfolding sums_on
  begin = record {
    long = length-replicate whole_ticks zeros;
    done = λ e h p q. absurd (omega arith);
    left = λ e h o p q.
        let z : reached_of n e 0 ≡ 0 = omega arith in
        rw (get_or-replicate whole_ticks e zeros no_lanes p, get_or-replicate lane_count h zero64 nan q, z) refl;
  }

  -- a block is over
  pub over : (k : ℕ) (l : List LaneSums) → Places k whole_ticks l → Places (k + block_ticks) 0 l
  over k l p = record {
    long = p.long;
    done = λ e h q r. absurd (omega arith);
    left = λ e h o q r. p.done e h q r;
  }

  -- the lanes of a whole tick take the block in
  pub turn : (k d : ℕ) (l : List LaneSums) (v : LaneSums) (ticks : List (List Float)) → Places k d l → d < whole_ticks → IsBlock k ticks
      → ((h : ℕ) → h < lane_count → lane v h ≡ block_on i ticks d k h (lane (lanes_at l d) h)) → Places k (d + 1) (set l d v)
  turn k d l v ticks p q w f = record {
    long = rw length-set p.long;
    done = λ e h s r. ⊎_elim
        (λ (z : e ≡ d). rw (z, get_or-set_same l d v no_lanes (rw p.long q)) (f h r ∙ rw (p.left d h (omega arith) q r) (block_goes_on k d h ticks q r w)))
        (λ (z : e < d). rw (get_or-set_other l d e v no_lanes (λ (y : e ≡ d). omega arith)) (p.done e h z r))
        (eq-or-lt_of_le (le_of_suc-le-suc (rw add-one at s)));
    left = λ e h s o r. rw (get_or-set_other l d e v no_lanes (λ (y : e ≡ d). omega arith)) (p.left e h (omega arith) o r);
  }

  -- once all moments are in
  pub all : (k : ℕ) (l : List LaneSums) → Places k 0 l → n + 11 ≤ k → HasSums i poles l
  all k l p q d h r s = let e : reached_of n d k ≡ n = omega arith in p.left d h (omega arith) r s ∙ ap (tick_sums i poles d h) e
