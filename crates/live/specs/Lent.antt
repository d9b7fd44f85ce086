-- All that a caller keeps of a probe, from the arrays that C passes one by one: when a call starts, and when it returns.
use Rattle.std.specs.Prelude.{ℕ, Bool, Float}
use denote.Triple.Both.{Both}
use Rattle.window.specs.Lent.{Borrowed, at_entry, at_exit}
use Rattle.probe_words.specs.Layout.{found_in, left_in}
use Rattle.live_probe.specs.Live.{Live, live}

abbrev pub live_over : Borrowed ℕ → (floats rates moments offsets : Borrowed Float) → Borrowed Bool → Both Live Live
live_over words floats rates moments offsets held = record {
  entry = live (found_in words floats) (at_entry rates moments offsets held);
  exit = live (left_in words floats) (at_exit rates moments offsets held);
}
