-- Constants, and the small functions on single values: 01, "Stand-ins for libm and nalgebra".
-- One type holds the values of both widths, so widening, which is exact, is the identity and has no definition of its own.
use Rattle.std.specs.Prelude.{ℕ, Bool, true, false, cond, pos, from_bits, Float}
use Rattle.std.specs.Float.{Format, nan, inf, fin, binary32, binary64}
use Rattle.std.specs.Float.Ieee.{of_int, lt, ne}

-- +0 and 1 as f32
abbrev pub zero32 : Float
zero32 = from_bits binary32 0

abbrev pub one32 : Float
one32 = from_bits binary32 0x3f80_0000

-- +0, 1 and 0.5 as f64
abbrev pub zero64 : Float
zero64 = from_bits binary64 0

abbrev pub one64 : Float
one64 = from_bits binary64 0x3ff0_0000_0000_0000

abbrev pub half64 : Float
half64 = from_bits binary64 0x3fe0_0000_0000_0000

-- a whole number as f32
abbrev pub whole32 : ℕ → Float
whole32 n = of_int binary32 (pos n)

-- neither NaN nor an infinity
unfoldable pub finite : Float → Bool
finite nan = false
finite (inf s) = false
finite (fin s m e) = true

-- |x|
unfoldable pub magnitude : Float → Float
magnitude nan = nan
magnitude (inf s) = inf false
magnitude (fin s m e) = fin false m e

-- "max(v, 0): v if v > 0, else +0, a NaN too", in either format
unfoldable pub max_zero : Format → Float → Float
max_zero p v = cond (lt (from_bits p 0) v) v (from_bits p 0)

-- "min ignores a NaN"
unfoldable pub least : Float → Float → Float
least a b = cond (ne a a) b (cond (lt b a) b a)
