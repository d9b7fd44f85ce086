-- f64 to f32: 01, "Stand-ins for libm and nalgebra".
use Rattle.std.specs.Prelude.{◌*◌, Float}
use Rattle.std.specs.Float.{nan, inf, fin, binary32}
use Rattle.std.specs.Float.Ieee.{up, down, round}

-- "Narrowing f64 to f32 is nearest, ties to even, subnormals kept, beyond range infinite, NaN staying NaN":
-- IEEE 754's rounding of the value to binary32
unfoldable pub narrowed : Float → Float
unfolding round
narrowed nan = nan
narrowed (inf s) = inf s
narrowed (fin s m e) = round binary32 s (m * up e) (down e)
