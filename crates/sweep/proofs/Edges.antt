-- No call at an elapsed time up to 4,096 s reaches the last edge, so the bounded count of edges is 01's unbounded loop.
-- Each half period is at least an eighth of a second, and eighths are exact: after n edges the next one is at (n + 1)/8 s or later, however the sums are rounded.
use Prim.Native.Nat.{ℕ, zero, suc, ◌+◌, ◌-◌, ◌*◌, ◌%◌, ◌^◌, ◌≤◌, ◌<◌}
use mathlib.Core.Path.{◌≡◌, refl, sym, ◌∙◌}
use mathlib.Core.Bool.{Bool, true, false, ◌&&◌, cond, true≢false}
use native.Mathlib.Omega.{arith}
use native.Mathlib.Numerals.{add-one}
use borrow.Author.Tests.{lt-ltb}
use native.Mathlib.Nat.{lt_of_lt_of_le, mul-pos, mul-le-mul_right, mul_assoc, mul_comm, mul_left_comm, add-mul, one-mul, mod-lt}
use lib.Dec.{T, ltb, ltb→lt, nltb→le, lit<, lit≤}
use lib.Pow.{shl_lt}
use lib.Ieee.{Float, nan, inf, fin, binary32, up, down, of_bits, of_int, round, sum, add, sub, mul, lt, le}
use lib.Ieee.Fits.{and_l, and_r, down_pos}
use lib.Ieee.Exact.{HasValue, round_exact}
use lib.Ieee.Order.{round_mono}
use lib.Ieee.Positive.{num, den, den_pos, positive, positive_of_value, values_of_le, own_value, le_trans_positive, above, above_of_le}
use Rattle.float.specs.Values.{one32, whole32}
use Rattle.sweep.specs.declared.SquareSweep.{SquareSweep}
use Rattle.sweep.specs.Sweep.{half_period, tenth, six_tenths, started, pass_edge, due, pass_due, pass_edges, last_edge, While, stop, pass, with_washout, with_amplitude, swept, next_sweep}

-- k eighths of a second
eighths : ℕ → Float
eighths k = round binary32 false k 8

eighths_value : (k : ℕ) → k < 2 ^ 20 → HasValue (eighths k) false k 8
unfolding eighths
eighths_value k h =
    round_exact binary32 false k 8 k 146 (lit< tt) (lt_of_lt_of_le h (lit≤ tt)) (shl_lt 131 146 (lt_of_lt_of_le h (lit≤ tt)))
    (sym (mul_assoc k (2 ^ 146) 8))

positive_eighths : (k : ℕ) → 0 < k → k < 2 ^ 20 → T (positive (eighths k))
positive_eighths k p h = positive_of_value (eighths k) k 8 (eighths_value k h) p

-- ---- a sum that is rounded
add_is : (x y : Float) → T (positive x) → T (positive y) → add binary32 x y ≡ round binary32 false (num x * den y + num y * den x) (den x * den y)
unfolding add sum
add_is nan y p q = absurd p
add_is (inf s) y p q = absurd p
add_is (fin true m e) y p q = absurd p
add_is (fin false m e) nan p q = absurd q
add_is (fin false m e) (inf t) p q = absurd q
add_is (fin false m e) (fin true n d) p q = absurd q
add_is (fin false m e) (fin false n d) p q = refl

-- at least k eighths, in whole numbers
cross : (k : ℕ) (x : Float) → 0 < k → k < 2 ^ 20 → T (positive x) → T (le (eighths k) x) → k * den x ≤ num x * 8
cross k x p h q l =
    values_of_le (eighths k) x k 8 (num x) (den x) (positive_eighths k p h) q (eighths_value k h) (own_value x q) l

grow : (k dx nx dh nh : ℕ) → k * dx ≤ nx * 8 → 1 * dh ≤ nh * 8 → (k + 1) * (dx * dh) ≤ (nx * dh + nh * dx) * 8
grow k dx nx dh nh h g =
    let a : k * dx * dh ≤ nx * 8 * dh = mul-le-mul_right dh h in
    let b : 1 * dh * dx ≤ nh * 8 * dx = mul-le-mul_right dx g in
    let c : nx * 8 * dh ≡ nx * dh * 8 = simp (mul_assoc, mul_comm, mul_left_comm) in
    let d : nh * 8 * dx ≡ nh * dx * 8 = simp (mul_assoc, mul_comm, mul_left_comm) in
    let e : 1 * dh * dx ≡ dx * dh = simp (one-mul, mul_comm) in
    let f : (k + 1) * (dx * dh) ≡ k * dx * dh + dx * dh = simp (add-mul, one-mul, mul_assoc) in
    let g' : (nx * dh + nh * dx) * 8 ≡ nx * dh * 8 + nh * dx * 8 = add-mul (nx * dh) (nh * dx) 8 in
    omega arith

finite_under_inf : (x : Float) → T (positive x) → T (le x (inf false))
unfolding le lt
finite_under_inf nan p = absurd p
finite_under_inf (inf s) p = absurd p
finite_under_inf (fin true m e) p = absurd p
finite_under_inf (fin false m e) p = tt

inf_stays : (h : Float) → T (positive h) → add binary32 (inf false) h ≡ inf false
unfolding add
inf_stays nan q = absurd q
inf_stays (inf t) q = absurd q
inf_stays (fin t n d) q = refl

-- one more half period h is at least one eighth more
later : (k : ℕ) (x h : Float) → 0 < k → k + 1 < 2 ^ 20 → T (positive h) → T (le (eighths 1) h) → T (le (eighths k) x)
    → T (le (eighths (k + 1)) (add binary32 x h))
later k x h p s q g l = go x l (above_of_le (eighths k) x (positive_eighths k p (omega arith)) l)
  where
    more : (y : Float) → T (le (eighths k) y) → T (positive y) → T (le (eighths (k + 1)) (add binary32 y h))
    more y l' r =
        rw (add_is y h r q)
        (unfold eighths in
        round_mono binary32 (k + 1) 8 (num y * den h + num h * den y) (den y * den h) (lit< tt) (mul-pos (den_pos y) (den_pos h))
        (grow k (den y) (num y) (den h) (num h) (cross k y p (omega arith) r l') (cross 1 h (lit< tt) (lit< tt) q g)))

    go : (y : Float) → T (le (eighths k) y) → T (above y) → T (le (eighths (k + 1)) (add binary32 y h))
    go nan l' r = absurd r
    go (inf true) l' r = absurd r
    go (inf false) l' r = rw (inf_stays h q) (finite_under_inf (eighths (k + 1)) (positive_eighths (k + 1) (omega arith) s))
    go (fin true m e) l' r = absurd r
    go (fin false m e) l' r = more (fin false m e) l' r

-- ---- the half periods
-- a test that holds of each number below n
each : (ℕ → Bool) → ℕ → Bool
each p zero = true
each p (suc n) = each p n && p n

below : (p : ℕ → Bool) (n i : ℕ) → T (each p n) → i < n → T (p i)
unfolding each
below p zero i t h = absurd (omega arith)
below p (suc n) i t h = go (ltb i n) refl (below p n i (and_l (each p n) (p n) t))
  where
    go : (b : Bool) → ltb i n ≡ b → (i < n → T (p i)) → T (p i)
    go true e f = f (ltb→lt i n (rw e tt))
    go false e f = let same : i ≡ n = omega (arith, nltb→le i n (rw e tt)) in rw same (and_r (each p n) (p n) t)

-- an eighth or more
long : Float → Bool
long h = positive h && le (eighths 1) h

first : ℕ → Bool
first i = long (sub binary32 one32 (mul binary32 tenth (whole32 i)))

repeated : ℕ → Bool
repeated j = long (sub binary32 six_tenths (mul binary32 tenth (whole32 j)))

firsts : T (each first 9)
unfolding each first long eighths round of_bits of_int sub mul le
firsts = tt

repeats : T (each repeated 5)
unfolding each repeated long eighths round of_bits of_int sub mul le
repeats = tt

half_long : (i : ℕ) → T (long (half_period i))
unfolding half_period
half_long i = go (ltb i 9) refl
  where
    go : (b : Bool) → ltb i 9 ≡ b
        → T (long (cond b (sub binary32 one32 (mul binary32 tenth (whole32 i))) (sub binary32 six_tenths (mul binary32 tenth (whole32 ((i - 9) % 5))))))
    go true e = unfold first in below first 9 i firsts (ltb→lt i 9 (rw e tt))
    go false e = unfold repeated in below repeated 5 ((i - 9) % 5) repeats (mod-lt (i - 9) (lit< tt))

-- ---- past 4,096 s
beyond : (e : Float) → T (positive e) → T (le (eighths 32_769) e) → lt (whole32 4096) e ≡ true
unfolding lt of_int round
beyond nan p l = absurd p
beyond (inf s) p l = absurd p
beyond (fin true n d) p l = absurd p
beyond (fin false n d) p l =
    let c = cross 32_769 (fin false n d) (lit< tt) (lit< tt) p l in
    lt-ltb (1 * 4096 * down d) (n * up d * 1) (omega (arith, down_pos d))

infinite : lt (whole32 4096) (inf false) ≡ false → ⊥
unfolding lt of_int round
infinite h = true≢false h

no_finite : (e : Float) → lt (whole32 4096) e ≡ false → T (le (inf false) e) → ⊥
unfolding le lt
no_finite nan h k = k
no_finite (inf true) h k = k
no_finite (inf false) h k = infinite h
no_finite (fin t n d) h k = k

too_late : (x e : Float) → T (le (eighths 32_769) x) → lt (whole32 4096) e ≡ false → T (le x e) → ⊥
too_late x e l h k = go x (above_of_le last x last_positive l) l k
  where
    last : Float
    last = eighths 32_769

    last_positive : T (positive last)
    last_positive = positive_eighths 32_769 (lit< tt) (lit< tt)

    under : (y f : Float) → T (positive y) → T (above f) → T (le last y) → lt (whole32 4096) f ≡ false → T (le y f) → ⊥
    under y nan p a l' h' k' = a
    under y (inf true) p a l' h' k' = a
    under y (inf false) p a l' h' k' = infinite h'
    under y (fin true n d) p a l' h' k' = a
    under y (fin false n d) p a l' h' k' =
        true≢false (sym (beyond (fin false n d) a (le_trans_positive last y (fin false n d) last_positive p a l' k')) ∙ h')

    go : (y : Float) → T (above y) → T (le last y) → T (le y e) → ⊥
    go nan a l' k' = a
    go (inf true) a l' k' = a
    go (inf false) a l' k' = no_finite e h k'
    go (fin true m d) a l' k' = a
    go (fin false m d) a l' k' = under (fin false m d) e a (above_of_le (fin false m d) e a k') l' h k'

-- ---- the sweep
-- after so many edges, the next one is at (edges + 1)/8 s or later
pub Timed : SquareSweep → Type 0
Timed s = T (le (eighths (suc s.edge)) s.next_edge_s)

timed_start : (amplitude tc : Float) (high : Bool) → Timed (started amplitude tc high)
unfolding Timed started
timed_start amplitude tc high = unfold long in and_r (positive (half_period 0)) (le (eighths 1) (half_period 0)) (half_long 0)

timed_pass : (s : SquareSweep) → s.edge < last_edge → Timed s → Timed (pass_edge s)
unfolding Timed pass_edge long
timed_pass s h t =
    let f = half_period (suc s.edge) in
    let g = half_long (suc s.edge) in
    rw (← add-one (suc s.edge))
    (later (suc s.edge) s.next_edge_s f (omega arith) (omega arith) (and_l (positive f) (le (eighths 1) f) g)
    (and_r (positive f) (le (eighths 1) f) g) t)

-- the last edge is not due
not_due : (elapsed : Float) (s : SquareSweep) → lt (whole32 4096) elapsed ≡ false → suc s.edge ≡ last_edge → Timed s → due elapsed s ≡ false
unfolding Timed due
not_due elapsed s h e t = go (le s.next_edge_s elapsed) (too_late s.next_edge_s elapsed (rw e at t) h)
  where
    go : (b : Bool) → (T b → ⊥) → b ≡ false
    go true f = absurd (f tt)
    go false f = refl

-- a sweep before its last edge, with its next edge in time
pub record Safe (s : SquareSweep) : Type 0 where
  pub inside : s.edge < last_edge
  pub timed : Timed s

-- what the count leaves: the end of the loop, and a safe sweep
pub record Passed (elapsed : Float) (s t : SquareSweep) : Type 0 where
  pub loop : While elapsed s t
  pub safe : Safe t

-- an edge that is due is not the last one
due_inside : (elapsed : Float) (s : SquareSweep) → lt (whole32 4096) elapsed ≡ false → s.edge < last_edge → Timed s → due elapsed s ≡ true → suc s.edge < last_edge
due_inside elapsed s h i t d = go (ltb (suc s.edge) last_edge) refl
  where
    go : (b : Bool) → ltb (suc s.edge) last_edge ≡ b → suc s.edge < last_edge
    go true e = ltb→lt (suc s.edge) last_edge (rw e tt)
    go false e =
        let last : suc s.edge ≡ last_edge = omega (arith, nltb→le (suc s.edge) last_edge (rw e tt)) in
        absurd (true≢false (sym d ∙ not_due elapsed s h last t))

-- the count of at most n edges, where the last edge is n edges away
counts : (n : ℕ) (b : Bool) (elapsed : Float) (s : SquareSweep) → lt (whole32 4096) elapsed ≡ false → s.edge + n ≡ last_edge → s.edge < last_edge → Timed s
    → due elapsed s ≡ b → Passed elapsed s (pass_due n b elapsed s)
unfolding pass_due pass_edge
counts zero b elapsed s h e i t d = absurd (omega arith)
counts (suc n) false elapsed s h e i t d = record { loop = stop d; safe = record { inside = i; timed = t } }
counts (suc n) true elapsed s h e i t d =
    let j = due_inside elapsed s h i t d in
    let r = counts n (due elapsed (pass_edge s)) elapsed (pass_edge s) h (omega arith) j (timed_pass s i t) refl in
    record { loop = pass d r.loop; safe = r.safe }

pub passes : (elapsed : Float) (s : SquareSweep) → lt (whole32 4096) elapsed ≡ false → Safe s → Passed elapsed s (pass_edges elapsed s)
unfolding pass_edges
passes elapsed s h r = counts (last_edge - s.edge) (due elapsed s) elapsed s h (omega (arith, r.inside)) r.inside r.timed refl

-- ---- a sweep is safe from its start on, whatever its ticks and amplitudes
pub safe_start : (amplitude tc : Float) (high : Bool) → Safe (started amplitude tc high)
unfolding started
safe_start amplitude tc high = record { inside = lit< tt; timed = timed_start amplitude tc high }

pub safe_next : (s : SquareSweep) (dt elapsed : Float) → lt (whole32 4096) elapsed ≡ false → Safe s → Safe (next_sweep s dt elapsed).sweep
unfolding next_sweep swept with_washout Timed
safe_next s dt elapsed h r = let t = (passes elapsed s h r).safe in record { inside = t.inside; timed = t.timed }

pub safe_amplitude : (s : SquareSweep) (amplitude : Float) → Safe s → Safe (with_amplitude s amplitude)
unfolding with_amplitude Timed
safe_amplitude s amplitude r = record { inside = r.inside; timed = r.timed }
