-- The factors of a product commute exactly.
use mathlib.Core.Path.{◌≡◌, refl}
use mathlib.Core.Bool.{Bool, true, false}
use native.Mathlib.Nat.{mul_comm}
use Prim.Native.Nat.{◌*◌}
use lib.Ieee.{Float, Format, nan, inf, fin, mul, unlike, up, down}

unlike_comm : (s t : Bool) → unlike s t ≡ unlike t s
unlike_comm true true = refl
unlike_comm true false = refl
unlike_comm false true = refl
unlike_comm false false = refl

pub commutes : (f : Format) (x y : Float) → mul f x y ≡ mul f y x
unfolding mul
commutes f nan nan = refl
commutes f nan (inf t) = refl
commutes f nan (fin t n d) = refl
commutes f (inf s) nan = refl
commutes f (inf s) (inf t) = rw (unlike_comm s t)
commutes f (inf s) (fin t n d) = rw (unlike_comm s t)
commutes f (fin s m e) nan = refl
commutes f (fin s m e) (inf t) = rw (unlike_comm s t)
commutes f (fin s m e) (fin t n d) = rw (unlike_comm s t, mul_comm (m * up e) (n * up d), mul_comm (down e) (down d))
