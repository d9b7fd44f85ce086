-- M4 to M9 of 01. An entry is (effect, residual).
use mathlib.Core.Path.{◌≡◌, refl}
use mathlib.Core.Bool.{false}
use mathlib.Core.List.{[], ◌∷◌, ◌++◌}
use lib.ListN.{replicate}
use lib.Ieee.{Float, inf, binary32, of_bits, add, mul, lt, le, ne}
use Rattle.float.specs.Values.{zero32, one32, least}
use Rattle.delay.specs.declared.Entry.{Entry}
use Rattle.std.specs.Prelude.{Option, Some, None}
use Rattle.delay.specs.Tie.{considered, residuals, lesser, least_to, within, first_from, under_bar, shortest_tied, delay_to_fit}

abbrev pub entry : Float → Float → Option Entry
entry effect residual = Some (record { effect = effect; residual = residual })

-- 0.01, 0.5, -1, 2, 1.25 and 1.0078125
abbrev pub hundredth : Float
hundredth = of_bits binary32 0x3c23_d70a

abbrev pub half : Float
half = of_bits binary32 0x3f00_0000

abbrev pub minus_one : Float
minus_one = of_bits binary32 0xbf80_0000

abbrev pub two : Float
two = of_bits binary32 0x4000_0000

abbrev pub one_and_quarter : Float
one_and_quarter = of_bits binary32 0x3fa0_0000

abbrev pub just_above_one : Float
just_above_one = of_bits binary32 0x3f81_0000

pub M4 : delay_to_fit zero32 [] ≡ None
unfolding delay_to_fit shortest_tied residuals considered least_to lesser least under_bar first_from within of_bits add ne mul lt le
M4 = refl

pub M5 : delay_to_fit zero32 (entry one32 one_and_quarter ∷ entry one32 one32 ∷ []) ≡ Some 2
unfolding delay_to_fit shortest_tied residuals considered least_to lesser least under_bar first_from within of_bits add ne mul lt le
M5 = refl

pub M6 : delay_to_fit hundredth (entry one32 just_above_one ∷ entry one32 one32 ∷ []) ≡ Some 1
unfolding delay_to_fit shortest_tied residuals considered least_to lesser least under_bar first_from within of_bits add ne mul lt le
M6 = refl

pub M7 : delay_to_fit zero32 (entry minus_one half ∷ entry one32 two ∷ []) ≡ Some 2
unfolding delay_to_fit shortest_tied residuals considered least_to lesser least under_bar first_from within of_bits add ne mul lt le
M7 = refl

pub M8 : delay_to_fit zero32 (entry one32 (inf false) ∷ []) ≡ None
unfolding delay_to_fit shortest_tied residuals considered least_to lesser least under_bar first_from within of_bits add ne mul lt le
M8 = refl

pub M9 : delay_to_fit zero32 (replicate 20 None ++ (entry one32 one32 ∷ [])) ≡ None
unfolding delay_to_fit shortest_tied residuals considered least_to lesser least under_bar first_from within of_bits add ne mul lt le
M9 = refl
