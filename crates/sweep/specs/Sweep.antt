-- The sweep: 01, "One tick, from dt to offset".
use Rattle.std.specs.Prelude.{ℕ, zero, suc, ◌-◌, ◌%◌, ◌≡◌, Bool, true, false, not, cond, ltb, Float}
use Rattle.std.specs.Float.{binary32}
use Rattle.std.specs.Float.Ieee.{of_bits, add, sub, mul, div, le}
use Rattle.float.specs.Values.{zero32, one32, whole32, least}
use Rattle.sweep.specs.declared.SquareSweep.{SquareSweep}
use Rattle.sweep.specs.declared.Swept.{Swept}

-- 0.1 and 0.6
abbrev pub tenth : Float
tenth = of_bits binary32 0x3dcc_cccd

abbrev pub six_tenths : Float
six_tenths = of_bits binary32 0x3f19_999a

-- "half(i) = 1.0 - 0.1·i for i below 9, else 0.6 - 0.1·((i - 9) mod 5), in f32"
unfoldable pub half_period : ℕ → Float
half_period i =
    cond (ltb i 9)
    (sub binary32 one32 (mul binary32 tenth (whole32 i)))
    (sub binary32 six_tenths (mul binary32 tenth (whole32 ((i - 9) % 5))))

-- "The sweep starts at edge 0, high, next edge half(0), washout 0": high or low, as its caller says
unfoldable pub started : Float → Float → Bool → SquareSweep
started amplitude tc high = record {
  amplitude = amplitude;
  washout_tc_s = tc;
  next_edge_s = half_period 0;
  edge = 0;
  high = high;
  washout = zero32;
}

-- "edge + 1, next edge + half(edge), level flipped"; the half period is that of the new edge
unfoldable pub pass_edge : SquareSweep → SquareSweep
pass_edge s = record {
  amplitude = s.amplitude;
  washout_tc_s = s.washout_tc_s;
  next_edge_s = add binary32 s.next_edge_s (half_period (suc s.edge));
  edge = suc s.edge;
  high = not s.high;
  washout = s.washout;
}

-- "elapsed >= next edge"
unfoldable pub due : Float → SquareSweep → Bool
due elapsed s = le s.next_edge_s elapsed

-- "While elapsed >= next edge", n edges at most. Whether the next edge is due is an argument to match on.
unfoldable pub pass_due : ℕ → Bool → Float → SquareSweep → SquareSweep
pass_due zero b elapsed s = s
pass_due (suc n) false elapsed s = s
pass_due (suc n) true elapsed s = pass_due n (due elapsed (pass_edge s)) elapsed (pass_edge s)

-- The edge at which the count stops. No half period is below an eighth of a second, so no call up to 4,096 s reaches it.
abbrev pub last_edge : ℕ
last_edge = 32_769

-- every edge up to the elapsed time passed
unfoldable pub pass_edges : Float → SquareSweep → SquareSweep
pass_edges elapsed s = pass_due (last_edge - s.edge) (due elapsed s) elapsed s

-- "square = amplitude if high, else 0"
unfoldable pub square : SquareSweep → Float
square s = cond s.high s.amplitude zero32

-- "washout = washout + (square - washout)·min(dt/washout_tc_s, 1)"
unfoldable pub washed : SquareSweep → Float → Float
washed s dt =
    add binary32 s.washout
    (mul binary32 (sub binary32 (square s) s.washout) (least (div binary32 dt s.washout_tc_s) one32))

unfoldable pub with_washout : SquareSweep → Float → SquareSweep
with_washout s w = record {
  amplitude = s.amplitude;
  washout_tc_s = s.washout_tc_s;
  next_edge_s = s.next_edge_s;
  edge = s.edge;
  high = s.high;
  washout = w;
}

-- an extension's amplitude: edge, level and washout go on
unfoldable pub with_amplitude : SquareSweep → Float → SquareSweep
with_amplitude s a = record {
  amplitude = a;
  washout_tc_s = s.washout_tc_s;
  next_edge_s = s.next_edge_s;
  edge = s.edge;
  high = s.high;
  washout = s.washout;
}

-- the wave at a tick, its edges passed: "offset = square - washout"
unfoldable pub swept : SquareSweep → Float → Swept
swept s dt = record { offset = sub binary32 (square s) (washed s dt); sweep = with_washout s (washed s dt) }

-- one tick of the sweep: dt later, at the elapsed time
unfoldable pub next_sweep : SquareSweep → Float → Float → Swept
next_sweep s dt elapsed = swept (pass_edges elapsed s) dt

-- 01's loop, with no bound on the edges: the sweep once no edge is due
pub data While (elapsed : Float) : SquareSweep → SquareSweep → Type 0 where
  stop : {s : SquareSweep} → due elapsed s ≡ false → While elapsed s s
  pass : {s t : SquareSweep} → due elapsed s ≡ true → While elapsed (pass_edge s) t → While elapsed s t
