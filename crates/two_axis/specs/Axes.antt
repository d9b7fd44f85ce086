-- Two axes and a call of both: 02, request five, "Roll and pitch in one flight".
use Rattle.std.specs.Prelude.{Bool, true, false, List, map, Float}
use Rattle.account.specs.Probe.{Call}

pub data Axis : Type 0 where
  first : Axis
  second : Axis

abbrev pub other : Axis → Axis
other first = second
other second = first

-- one thing for each axis
abbrev pub axes : {A : Type 0} → A → A → Axis → A
axes a b first = a
axes a b second = b

-- "The second axis has the level opposite to the first", which is high, as that of a probe that flies alone
abbrev pub level : Axis → Bool
level x = axes true false x

-- "Each call brings one dt and two pairs of readings"
pub record Reading : Type 0 where
  pub rate : Float
  pub moment : Float

pub record TwoCall : Type 0 where
  pub dt : Float
  pub readings : Axis → Reading

abbrev pub two_call : (dt rate1 moment1 rate2 moment2 : Float) → TwoCall
two_call dt rate1 moment1 rate2 moment2 = record { dt = dt; readings = axes (record { rate = rate1; moment = moment1 }) (record { rate = rate2; moment = moment2 }) }

-- an axis's own call in it, and whether the other axis asks for the extension
abbrev pub call_of : TwoCall → Axis → Bool → Call
call_of c x asked = record { dt = c.dt; rate = (c.readings x).rate; moment = (c.readings x).moment; asked = asked }

-- an axis's own calls, as if it flew alone
abbrev pub own_calls : Axis → List TwoCall → List Call
own_calls x calls = map (λ (c : TwoCall). call_of c x false) calls

-- "the shared extension as the one tie between them": an axis is asked where the other one wishes for it
abbrev pub tied : {S : Type 0} → (S → Call → Bool) → (Axis → S) → TwoCall → Axis → Call
tied wishes s c x = call_of c x (wishes (s (other x)) (call_of c (other x) false))
