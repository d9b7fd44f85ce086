-- expf for x <= 0, worked out in f64: 01, "Stand-ins for libm and nalgebra".
use Rattle.std.specs.Prelude.{ℕ, zero, suc, ◌-◌, cond, T, pos, negsuc, Float}
use Rattle.std.specs.Float.{binary64}
use Rattle.std.specs.Float.Ieee.{of_int, add, mul, div, lt, le}
use Rattle.float.specs.Values.{zero32, one32, one64}
use Rattle.float.specs.Narrow.{narrowed}

-- "start with 1, then for n = 8 down to 1 take 1 + (t/n)·(last)": after k of the terms, so that the next n is 8 - k
unfoldable pub horner : Float → ℕ → Float
horner t zero = one64
horner t (suc k) = add binary64 one64 (mul binary64 (div binary64 t (of_int binary64 (pos (8 - k)))) (horner t k))

-- x squared k times
unfoldable pub squared : ℕ → Float → Float
squared zero x = x
squared (suc k) x = squared k (mul binary64 x x)

-- "below -104 it is 0. Else t = x/1024; .. square ten times; narrow."
unfoldable pub exp_of : Float → Float
exp_of x =
    cond (lt x (of_int binary64 (negsuc 103))) zero32
    (narrowed (squared 10 (horner (div binary64 x (of_int binary64 (pos 1024))) 8)))

-- "Its answer lies in 0 to 1."
pub record InUnit (y : Float) : Type 0 where
  pub from_zero : T (le zero32 y)
  pub to_one : T (le y one32)
