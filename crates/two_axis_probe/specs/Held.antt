-- What two axes hold after a list of calls: 02, five, of the structs and of the arrays themselves.
use Rattle.std.specs.Prelude.{◌≤◌, ◌≡◌, List}
use Rattle.window.specs.Samples.{capacity}
use Rattle.window.specs.Lent.{Whole}
use Rattle.account.specs.declared.IdentifyConfig.{IdentifyConfig}
use Rattle.identify.specs.Made.{Holds}
use Rattle.two_axis.specs.Axes.{Axis, level, TwoCall}
use Rattle.two_axis.specs.Probes.{fresh_two, after_two}
use Rattle.two_axis.specs.Accounts.{Accounts, opened_two, calls_of}
use Rattle.two_axis.specs.Claim.{TwoAccounted}
use Rattle.two_axis_probe.specs.Stepped.{Structs, Lents, seen_two}

-- the probes that are seen are the definitions'; the arrays are whole, and the windows within them
pub record Stands (c : IdentifyConfig) (calls : List TwoCall) (p : Structs) (l : Lents) : Type 0 where
  pub seen : (x : Axis) → seen_two p l x ≡ after_two (fresh_two c) calls x
  pub whole : (x : Axis) → Whole (l x)
  pub within : (x : Axis) → (p x).window.len ≤ capacity

-- the claim of the probes that are seen, and what `Accounted` says of each axis's struct and arrays
pub record HoldsTwo (c : IdentifyConfig) (calls : List TwoCall) (p : Structs) (l : Lents) (a : Accounts) : Type 0 where
  pub accounted : TwoAccounted c calls (seen_two p l) a
  pub each : (x : Axis) → Holds (level x) c (calls_of (opened_two c) calls x) (p x) (l x) (a x)
