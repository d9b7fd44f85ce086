-- What the order of the floats says, in the words of IEEE 754.
use Rattle.std.specs.Prelude.{◌≡◌, Bool, true, false, cond, refl, Some, None, Float}
use Rattle.std.specs.Float.Ieee.{lt, eq}
use Rattle.std.specs.Ordering.{partial_lt, float_partial_cmp, is_some_and, is_lt}
use Rattle.std.specs.declared.cmp.Ordering.TheVariants.{Less, Equal, Greater}

pub less_is_lt : (x y : Float) → partial_lt float_partial_cmp x y ≡ lt x y
less_is_lt x y = go (lt x y) (eq x y) (lt y x)
  where
    go : (a e b : Bool) → is_some_and is_lt (cond a (Some Less) (cond e (Some Equal) (cond b (Some Greater) None))) ≡ a
    go true e b = refl
    go false true b = refl
    go false false true = refl
    go false false false = refl
