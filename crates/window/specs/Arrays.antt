-- The window as it stands in lent arrays: the samples are the first places of each, as many as are stored. What stands after them has no say.
use Rattle.std.specs.Prelude.{ℕ, zero, suc, min, Bool, true, false, cond, List, take, set, Float}
use Rattle.std.specs.Float.{binary32}
use Rattle.std.specs.Float.Ieee.{add}
use Rattle.float.specs.Values.{zero32, finite}
use Rattle.float.specs.Series.{at}
use Rattle.window.specs.declared.Window.{Window}
use Rattle.window.specs.Samples.{Samples, capacity, room}
use Rattle.window.specs.Walk.{mark_at, over}

-- how many samples are stored: never more than there is room for, whatever the struct says
unfoldable pub stored_of : Window → ℕ
stored_of w = min w.len capacity

-- the samples of a window
unfoldable pub samples_in : Window → (rates moments offsets : List Float) → List Bool → Samples
samples_in w rates moments offsets marks = record {
  rates = take (stored_of w) rates;
  moments = take (stored_of w) moments;
  offsets = take (stored_of w) offsets;
  marks = take (stored_of w) marks;
  duration = w.duration_s;
}

-- the value stored before place n, or 0.0 at place 0; and a reading that takes it where it is not finite
unfoldable pub previous_at : List Float → ℕ → Float
previous_at values zero = zero32
previous_at values (suc n) = at values n

unfoldable pub hold_at : List Float → ℕ → Float → Float
hold_at values n x = cond (finite x) x (previous_at values n)

-- an array with x at place n, where there is room
unfoldable pub put_at : {A : Type 0} → ℕ → List A → A → List A
put_at n l x = cond (room n) (set l n x) l

abbrev pub pick_window : Bool → Window → Window → Window
pick_window true a b = a
pick_window false a b = b

-- the window after a tick of length dt
unfoldable pub next_window : Window → Float → Window
next_window w dt = pick_window (room (stored_of w)) (record { len = suc (stored_of w); duration_s = add binary32 w.duration_s dt }) w

-- how many of the first n ticks are such
unfoldable pub many_to : (Bool → ℕ → Bool) → List Bool → ℕ → ℕ
many_to such marks n = over such (mark_at marks) (λ (m k : ℕ). suc m) 0 n
