-- The tie rule, `delay_to_fit`: 01, "The recorded fit". Which of up to 20 entries wins, by its position, counted from one.
use Rattle.std.specs.Prelude.{ℕ, zero, suc, ◌+◌, Bool, true, false, ◌||◌, cond, List, get_or, Float, Option, Some, None}
use Rattle.std.specs.Float.{binary32}
use Rattle.std.specs.Float.Ieee.{add, mul, lt, le}
use Rattle.float.specs.Values.{zero32, least}
use Rattle.delay.specs.declared.Entry.{Entry}

-- "first 20 entries"
abbrev pub entry_count : ℕ
entry_count = 20

-- an entry's residual, where the pass considers it: the first pass those "with effect > 0", the second "all entries"
unfoldable pub considered : Bool → Option Entry → Option Float
considered all None = None
considered all (Some fit) = cond (all || lt zero32 fit.effect) (Some fit.residual) None

-- the residuals that a pass considers, by place
unfoldable pub residuals : Bool → List (Option Entry) → ℕ → Option Float
residuals all entries k = considered all (get_or entries k None)

-- the lesser of two residuals, of which either may be missing
unfoldable pub lesser : Option Float → Option Float → Option Float
lesser None r = r
lesser (Some a) None = Some a
lesser (Some a) (Some b) = Some (least a b)

-- "least residual r (min)" of the places 0 to n - 1
unfoldable pub least_to : (ℕ → Option Float) → ℕ → Option Float
least_to r zero = None
least_to r (suc n) = lesser (least_to r n) (r n)

-- whether a residual is there and at most the bar
unfoldable pub within : Float → Option Float → Bool
within bar None = false
within bar (Some r) = le r bar

-- whether a pass considers an entry whose residual is within the bar
abbrev pub passes : Bool → Float → Option Entry → Bool
passes all bar entry = within bar (considered all entry)

abbrev pub here : Bool → ℕ → Option ℕ → Option ℕ
here true i rest = Some (i + 1)
here false i rest = rest

-- "the first residual <= bar wins, position counted from one": of the n places from i on
unfoldable pub first_from : Float → (ℕ → Option Float) → ℕ → ℕ → Option ℕ
first_from bar r i zero = None
first_from bar r i (suc n) = here (within bar (r i)) i (first_from bar r (i + 1) n)

-- "bar = r + share·r"
unfoldable pub under_bar : Float → (ℕ → Option Float) → Option Float → Option ℕ
under_bar share r None = None
under_bar share r (Some m) = first_from (add binary32 m (mul binary32 share m)) r 0 entry_count

-- one pass
unfoldable pub shortest_tied : Float → Bool → List (Option Entry) → Option ℕ
shortest_tied share all entries = under_bar share (residuals all entries) (least_to (residuals all entries) entry_count)

abbrev pub or_else : Option ℕ → Option ℕ → Option ℕ
or_else None q = q
or_else (Some p) q = Some p

-- "among entries with effect > 0 .. If that finds none, the same over all entries"
unfoldable pub delay_to_fit : Float → List (Option Entry) → Option ℕ
delay_to_fit share entries = or_else (shortest_tied share false entries) (shortest_tied share true entries)
