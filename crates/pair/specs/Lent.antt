-- All that a caller keeps of both axes, from the arrays that C passes one by one: when a call starts, and when it returns.
use Rattle.std.specs.Prelude.{ℕ, Bool, Float}
use denote.Triple.Both.{Both}
use Rattle.window.specs.Lent.{Borrowed, at_entry, at_exit}
use Rattle.probe_words.specs.Layout.{found_in, left_in}
use Rattle.live_probe.specs.Live.{live}
use Rattle.two_axis.specs.Axes.{axes}
use Rattle.live_pair.specs.Pair.{Pair}

abbrev pub pair_over :
    Borrowed ℕ → (floats1 rates1 moments1 offsets1 : Borrowed Float) → Borrowed Bool → Borrowed ℕ → (floats2 rates2 moments2 offsets2 : Borrowed Float) → Borrowed Bool
    → Both Pair Pair
pair_over words1 floats1 rates1 moments1 offsets1 held1 words2 floats2 rates2 moments2 offsets2 held2 = record {
  entry = axes (live (found_in words1 floats1) (at_entry rates1 moments1 offsets1 held1)) (live (found_in words2 floats2) (at_entry rates2 moments2 offsets2 held2));
  exit = axes (live (left_in words1 floats1) (at_exit rates1 moments1 offsets1 held1)) (live (left_in words2 floats2) (at_exit rates2 moments2 offsets2 held2));
}
