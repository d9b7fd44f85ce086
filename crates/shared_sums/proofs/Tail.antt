-- What stands in the part of a list behind its first o.
use Rattle.std.proofs.Common.{◌≡◌, ℕ, ◌+◌, ◌<◌, List, take, drop, ap, ◌∙◌, get_or-take, get_or-drop, add_comm}
use lib.Ieee.{Float, nan}
use Rattle.float.specs.Series.{at}

pub tail_at : (l : List Float) (o n j : ℕ) → j < n → at (take n (drop o l)) j ≡ at l (j + o)
tail_at l o n j h = get_or-take n (drop o l) j nan h ∙ get_or-drop o l j nan ∙ ap (at l) (add_comm o j)
