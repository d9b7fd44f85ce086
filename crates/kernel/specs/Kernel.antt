-- What the kernel's functions are stated by: the running sums of a lane, how far a block of ticks brings them, and the fit of each step at a pole.
use Rattle.std.specs.Prelude.{◌≡◌, ℕ, zero, suc, ◌+◌, ◌-◌, ◌*◌, ◌/◌, ◌<◌, min, List, [], get_or, replicate, slice_range, Float, Option, None}
use Rattle.std.specs.Float.{binary64}
use Rattle.std.specs.Float.Ieee.{add, mul}
use Rattle.float.specs.Values.{zero64}
use Rattle.float.specs.Series.{at, fill}
use Rattle.gain.specs.declared.GainFit.{GainFit}
use Rattle.gain.specs.declared.FitInput.{FitInput}
use Rattle.gain.specs.Gain.{first_tick, step_count, is_half, solved}
use Rattle.gain.specs.Prepared.{ticks_of}
use Rattle.lanes.specs.Lanes.{lane_count, block_ticks, lane_series}
use Rattle.kernel.specs.declared.LaneSums.{LaneSums}
use Rattle.kernel.specs.declared.StepTable.{StepTable}

-- ten whole ticks of six lanes
abbrev pub whole_ticks : ℕ
whole_ticks = 10

-- a lane's running values: the leaky sum m, and the three sums that it is in
pub record Sums : Type 0 where
  pub m : Float
  pub mm : Float
  pub mc : Float
  pub mt : Float

-- with the values of one tick more
abbrev pub one_on : (carry x c t : Float) → Sums → Sums
one_on carry x c t s =
    let m = add binary64 (mul binary64 carry s.m) x in
    record { m = m; mm = add binary64 s.mm (mul binary64 m m); mc = add binary64 s.mc (mul binary64 m c); mt = add binary64 s.mt (mul binary64 m t) }

-- with the first n values of x, c and t more
unfoldable pub sums_on : Float → (x c t : ℕ → Float) → Sums → ℕ → Sums
sums_on carry x c t s zero = s
sums_on carry x c t s (suc n) = one_on carry (x n) (c n) (t n) (sums_on carry x c t s n)

-- of no tick
abbrev pub no_sums : Sums
no_sums = record { m = zero64; mm = zero64; mc = zero64; mt = zero64 }

-- the values at one place of four lists
abbrev pub sums_at : (m mm mc mt : List Float) → ℕ → Sums
sums_at m mm mc mt h = record { m = at m h; mm = at mm h; mc = at mc h; mt = at mt h }

abbrev pub lane : LaneSums → ℕ → Sums
lane r = sums_at r.m r.mm r.mc r.mt

-- lane h of tick i
abbrev pub lane_of : List (List Float) → ℕ → ℕ → Float
lane_of ticks h i = at (get_or ticks i []) h

-- lane h with the first n of some ticks more, beside the two leaky series
abbrev pub lanes_on : Float → List (List Float) → (cs ts : List Float) → ℕ → Sums → ℕ → Sums
lanes_on carry ticks cs ts h s n = sums_on carry (lane_of ticks h) (at cs) (at ts) s n

-- how many of n ticks the lanes of whole tick d + 1 have once the moments before tick k are in: their first regressor is that of tick 11 - d
abbrev pub reached_of : (n d k : ℕ) → ℕ
reached_of n d k = min (k - (first_tick - d)) n

-- lane h of whole tick d + 1, with a block of ticks more whose first tick is k
abbrev pub block_on : FitInput → List (List Float) → (d k h : ℕ) → Sums → Sums
block_on i ticks d k h s =
    let from = reached_of (ticks_of i.shared) d k in
    let to = reached_of (ticks_of i.shared) d (k + block_ticks) in
    let first = first_tick - d + from - k in
    lanes_on i.shared.carry (slice_range ticks first (first + (to - from))) (slice_range i.constants.now from to) (slice_range i.changes.now from to) h s (to - from)

-- what stands past the end of a list of lanes
abbrev pub no_lanes : LaneSums
no_lanes = record { m = []; mm = []; mc = []; mt = [] }

-- the lanes of whole tick d + 1 in a list
abbrev pub lanes_at : List LaneSums → ℕ → LaneSums
lanes_at l d = get_or l d no_lanes

-- the regressors of lane h at whole tick d + 1, one tick after another: the first is that of tick 11 - d
abbrev pub tick_series : List Float → (ℕ → Float) → (d h : ℕ) → ℕ → Float
tick_series poles u d h i = lane_series poles u h (first_tick - d + i)

-- that lane's sums of the first n ticks
abbrev pub tick_sums : FitInput → List Float → (d h n : ℕ) → Sums
tick_sums i poles d h n = sums_on i.shared.carry (tick_series poles (at i.moments.now) d h) (at i.constants.now) (at i.changes.now) no_sums n

-- every lane has the sums of all ticks that are fitted
abbrev pub HasSums : FitInput → List Float → List LaneSums → Type 0
HasSums i poles l = (d h : ℕ) → d < whole_ticks → h < lane_count → lane (lanes_at l d) h ≡ tick_sums i poles d h (ticks_of i.shared)

-- the fit that the sums of step s at pole q of three solve to: those of a lane of its whole ticks, s / 2 + 1
abbrev pub solved_step : StepTable → ℕ → ℕ → Option GainFit
solved_step t q s = let x = lane (lanes_at t.sums (s / 2)) (q * 2 + is_half s) in solved x.mm x.mc t.shared.cc x.mt t.shared.ct t.shared.tt

-- the fits that a table solves to at all steps, of pole q
abbrev pub table_fits : StepTable → ℕ → List (Option GainFit)
table_fits t q = fill (λ s l. solved_step t q s) (replicate step_count None) step_count

-- the fits of all steps at one pole, as a list
abbrev pub step_fits : (ℕ → Float → Option GainFit) → Float → List (Option GainFit)
step_fits fit pole = fill (λ s l. fit s pole) (replicate step_count None) step_count
