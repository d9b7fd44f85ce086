-- What the window stores: 01, "One tick, from dt to offset".
use Rattle.std.specs.Prelude.{ℕ, Bool, true, false, not, ◌&&◌, cond, List, [], ◌∷◌, ◌++◌, ltb, length, Float}
use Rattle.std.specs.Float.{binary32}
use Rattle.std.specs.Float.Ieee.{add}
use Rattle.float.specs.Values.{zero32, finite}

-- "up to 2,048"
abbrev pub capacity : ℕ
capacity = 2048

-- the stored samples, oldest first: "rate, last moment, offset and a held mark"; and the window duration
pub record Samples : Type 0 where
  pub rates : List Float
  pub moments : List Float
  pub offsets : List Float
  pub marks : List Bool
  pub duration : Float

-- a window with nothing stored
unfoldable pub no_samples : Samples
no_samples = record { rates = []; moments = []; offsets = []; marks = []; duration = zero32 }

module _ {A : Type 0} where
  -- the last of a list, or d
  unfoldable pub last_of : A → List A → A
  last_of d [] = d
  last_of d (x ∷ xs) = last_of x xs

  -- one more at the end, where there is room
  unfoldable pub push : Bool → List A → A → List A
  push false l x = l
  push true l x = l ++ (x ∷ [])

-- whether a window of n samples has room
abbrev pub room : ℕ → Bool
room n = ltb n capacity

-- "A reading that is not finite takes the previous stored value of its own kind, or 0.0 at index 0"
unfoldable pub hold : List Float → Float → Float
hold stored x = cond (finite x) x (last_of zero32 stored)

-- "either one bad marks the sample held"
unfoldable pub bad : Float → Float → Bool
bad rate moment = not (finite rate && finite moment)

-- one tick stored; "a full one changes in nothing"; "Window duration adds dt per stored sample"
unfoldable pub store : Samples → (dt rate moment offset : Float) → Samples
store w dt rate moment offset =
    let b = room (length w.rates) in
    record {
      rates = push b w.rates (hold w.rates rate);
      moments = push b w.moments (hold w.moments moment);
      offsets = push b w.offsets offset;
      marks = push b w.marks (bad rate moment);
      duration = cond b (add binary32 w.duration dt) w.duration;
    }
