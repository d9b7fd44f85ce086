-- The rules and their numbers: 01, "A call turned back", and 02, Six.
use Rattle.std.specs.Prelude.{ℕ, Result, Ok, Err}
use Rattle.rules.specs.declared.Rule.{Rule}
use Rattle.rules.specs.declared.Rule.TheVariants.{Amplitude, Duration, Washout, ExtensionAmplitude, ExtensionDuration, Dt, Elapsed, Ticks, Form, UnevenDt}

unfoldable pub number_of : Rule → ℕ
number_of Amplitude = 1
number_of Duration = 2
number_of Washout = 3
number_of ExtensionAmplitude = 4
number_of ExtensionDuration = 5
number_of Dt = 6
number_of Elapsed = 7
number_of Ticks = 8
number_of Form = 9
number_of UnevenDt = 10

-- what stands for an answer where only numbers do: 0 where no rule is broken
unfoldable pub numbered : {A : Type 0} → Result A Rule → ℕ
numbered (Ok x) = 0
numbered (Err r) = number_of r

-- an answer whose refusal is told by its number
unfoldable pub numbers : {A : Type 0} → Result A Rule → Result A ℕ
numbers (Ok x) = Ok x
numbers (Err r) = Err (number_of r)
