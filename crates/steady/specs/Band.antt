-- The test of a dt against the first accepted one: 02, request six, "Uneven clocks tested".
use Rattle.std.specs.Prelude.{Bool, false, ◌&&◌, ◌||◌, Float}
use Rattle.std.specs.Float.{binary32}
use Rattle.std.specs.Float.Ieee.{of_bits, mul, lt}
use Rattle.account.specs.Rules.{positive}
use Rattle.steady.specs.declared.Band.{Band}
use Rattle.steady.specs.declared.Band.TheVariants.{Plain, Steady, Around}

-- 0.75 and 1.25
abbrev pub three_quarters : Float
three_quarters = of_bits binary32 0x3f40_0000

abbrev pub five_quarters : Float
five_quarters = of_bits binary32 0x3fa0_0000

-- "below three quarters or above five quarters of it, each product taken in f32"; the ends are inside
unfoldable pub outside : Float → Float → Bool
outside first dt = lt dt (mul binary32 three_quarters first) || lt (mul binary32 five_quarters first) dt

-- "A probe opened as steady now tests each running call against its first accepted dt"; "A probe opened without the word behaves as before."
unfoldable pub uneven : Band → Float → Bool
uneven Plain dt = false
uneven Steady dt = false
uneven (Around first) dt = outside first dt

-- "10, dt outside that band, tested after 6 and before 7, never on an ended probe": whether 10 turns a call back, by whether the probe runs
unfoldable pub turns_back : Band → Bool → Float → Bool
turns_back band running dt = running && (positive dt && uneven band dt)

-- the band after a call that is accepted while running: a steady one "keeps that first dt"
unfoldable pub keeps : Band → Float → Band
keeps Plain dt = Plain
keeps Steady dt = Around dt
keeps (Around first) dt = Around first
