-- The four arrays that a caller lends with a window, in one bundle: rates, moments, offsets and held marks.
use Rattle.std.specs.Prelude.{◌≡◌, Bool, List, length, Float}
use Rattle.std.specs.Borrow.{MutBor}
use denote.Triple.Both.{Both}
use Rattle.window.specs.declared.Window.{Window}
use Rattle.window.specs.declared.LentArrays.{LentArrays}
use Rattle.window.specs.Samples.{Samples, capacity, bad}
use Rattle.window.specs.Arrays.{stored_of, samples_in, hold_at, put_at}

pub record Lent : Type 0 where
  pub rates : List Float
  pub moments : List Float
  pub offsets : List Float
  pub marks : List Bool

abbrev pub lent : (rates moments offsets : List Float) → List Bool → Lent
lent rates moments offsets marks = record { rates = rates; moments = moments; offsets = offsets; marks = marks }

-- as long as their types say
pub record Whole (l : Lent) : Type 0 where
  pub rates : length l.rates ≡ capacity
  pub moments : length l.moments ≡ capacity
  pub offsets : length l.offsets ≡ capacity
  pub marks : length l.marks ≡ capacity

-- a lent array, as a contract names it: when the call starts, and when it returns
abbrev pub Borrowed : Type 0 → Type 0
Borrowed A = Both (MutBor (List A)) (MutBor (List A))

abbrev pub at_entry : (rates moments offsets : Borrowed Float) → Borrowed Bool → Lent
at_entry rates moments offsets held = lent rates.entry.now moments.entry.now offsets.entry.now held.entry.now

abbrev pub at_exit : (rates moments offsets : Borrowed Float) → Borrowed Bool → Lent
at_exit rates moments offsets held = lent rates.exit.now moments.exit.now offsets.exit.now held.exit.now

-- what stands in the struct of the lent arrays
abbrev pub arrays_in : LentArrays → Lent
arrays_in a = lent a.rates.now a.moments.now a.offsets.now a.held.now

-- what a call leaves in them is l, and they are the arrays that they were
pub record Leaves (before after : LentArrays) (l : Lent) : Type 0 where
  pub contents : arrays_in after ≡ l
  pub rates : after.rates.ghost_name ≡ before.rates.ghost_name
  pub moments : after.moments.ghost_name ≡ before.moments.ghost_name
  pub offsets : after.offsets.ghost_name ≡ before.offsets.ghost_name
  pub held : after.held.ghost_name ≡ before.held.ghost_name

-- the samples of a window that stand in them
abbrev pub samples_of : Window → Lent → Samples
samples_of w l = samples_in w l.rates l.moments l.offsets l.marks

-- the arrays with one more sample at its place, where there is room
unfoldable pub put_sample : Window → Lent → (rate moment offset : Float) → Lent
put_sample w l rate moment offset =
    let n = stored_of w in
    record {
      rates = put_at n l.rates (hold_at l.rates n rate);
      moments = put_at n l.moments (hold_at l.moments n moment);
      offsets = put_at n l.offsets offset;
      marks = put_at n l.marks (bad rate moment);
    }
