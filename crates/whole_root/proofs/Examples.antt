-- The rounds at both ends of their range, and one round too many, computed.
use mathlib.Core.Path.{◌≡◌, refl}
use Prim.Native.Nat.{◌^◌, ◌-◌}
use Rattle.whole_root.specs.Rounds.{one_round, rounds, whole_of}

-- the root of 2 ^ 46
smallest : whole_of (rounds 24 (2 ^ 30)) ≡ record { root = 2 ^ 23; rest = 0 }
unfolding whole_of rounds one_round
smallest = refl

-- the root of 2 ^ 48 - 2 ^ 16
largest : whole_of (rounds 24 (2 ^ 32 - 1)) ≡ record { root = 2 ^ 24 - 1; rest = 33_488_895 }
unfolding whole_of rounds one_round
largest = refl

-- a 25th round doubles the root
doubled : whole_of (rounds 25 (2 ^ 30)) ≡ record { root = 2 ^ 24; rest = 0 }
unfolding whole_of rounds one_round
doubled = refl
