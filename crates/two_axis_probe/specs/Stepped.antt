-- The probe of two axes, as it stands in the struct and in the arrays that are lent with it; and what `fresh`, `new` and `step` make of them.
use Rattle.std.specs.Prelude.{ℕ, zero, suc, ◌≡◌, Bool, true, false, List, Float}
use Rattle.std.specs.Prelude.{Option, Some, None, Result, Ok, Err}
use Rattle.std.specs.Float.Ieee.{lt}
use Rattle.float.specs.Values.{zero32}
use Rattle.window.specs.declared.Window.{Window}
use Rattle.window.specs.declared.LentArrays.{LentArrays}
use Rattle.window.specs.Lent.{Lent, arrays_in, Leaves, samples_of}
use Rattle.account.specs.declared.IdentifyConfig.{IdentifyConfig}
use Rattle.account.specs.Rules.{refusal}
use Rattle.account.specs.Probe.{Call, Reply, offset, refused, clock}
use Rattle.recorded.specs.declared.Classified.{Classified}
use Rattle.closing.specs.Ending.{ahead_of, due_by, asks_of, closed_due}
use Rattle.identify.specs.declared.Begun.{Begun}
use Rattle.identify.specs.declared.IdentifyProbe.{IdentifyProbe}
use Rattle.identify.specs.Seen.{seen, fresh_probe_at, begun_by, stored_in, next_probe, ticked_probe}
use Rattle.two_axis.specs.Axes.{Axis, first, second, other, axes, TwoCall, two_call, call_of}
use Rattle.two_axis.specs.Probes.{Probes}
use Rattle.two_axis_probe.specs.declared.TwoAxisProbe.{TwoAxisProbe}
use Rattle.two_axis_probe.specs.declared.TwoCall as code

-- ---- each axis's probe and arrays
abbrev pub Structs : Type 0
Structs = Axis → IdentifyProbe

abbrev pub Lents : Type 0
Lents = Axis → Lent

abbrev pub probes_of : TwoAxisProbe → Structs
probes_of p = axes p.first p.second

abbrev pub lents_of : (lent1 lent2 : LentArrays) → Lents
lents_of lent1 lent2 = axes (arrays_in lent1) (arrays_in lent2)

-- a call as the accounts are fed it
abbrev pub two_call_of : code.TwoCall → TwoCall
two_call_of c = two_call c.dt c.first.rate c.first.moment c.second.rate c.second.moment

-- the probes of the definitions
abbrev pub seen_two : Structs → Lents → Probes
seen_two p l x = seen (p x) (l x)

-- ---- `fresh`
-- "The second axis has the level opposite to the first."
abbrev pub fresh_two_axis : IdentifyConfig → TwoAxisProbe
fresh_two_axis c = record { first = fresh_probe_at true c; second = fresh_probe_at false c }

-- ---- `new`
-- "1 to 5 make no probe"
unfoldable pub two_opened_by : ℕ → IdentifyConfig → Result TwoAxisProbe ℕ
two_opened_by zero c = Ok (fresh_two_axis c)
two_opened_by (suc n) c = Err (suc n)

-- ---- `step`
-- what a call answers, both offsets, none once an axis has ended, or the number of a rule; and each axis's probe and arrays as it leaves them
pub record TwoAnswer : Type 0 where
  pub answer : Result (Option (Float × Float)) ℕ
  pub first : IdentifyProbe
  pub second : IdentifyProbe
  pub lent1 : Lent
  pub lent2 : Lent

abbrev pub probes_left : TwoAnswer → Structs
probes_left a = axes a.first a.second

abbrev pub lents_left : TwoAnswer → Lents
lents_left a = axes a.lent1 a.lent2

-- one that leaves all as it was
abbrev pub unmoved : Result (Option (Float × Float)) ℕ → Structs → Lents → TwoAnswer
unmoved answer p l = record { answer = answer; first = p first; second = p second; lent1 = l first; lent2 = l second }

-- the second half of an axis's call, whose first half is b and whose window is w: with what its window is found to be and the other axis's wish; and with the end time still ahead
abbrev pub tick_ended : IdentifyProbe → Begun → Window → Option Classified → Bool → (rates moments : List Float) → IdentifyProbe
tick_ended p b w d asked rates moments =
    next_probe (suc p.ticks) w (closed_due d asked b.now_s w p.duration_s p.noisy b.sweep rates moments)

abbrev pub tick_ahead : IdentifyProbe → Begun → IdentifyProbe
tick_ahead p b = next_probe (suc p.ticks) b.window (ahead_of b.now_s p.duration_s p.noisy b.sweep)

-- "if either window is integrated when duration_s is reached": with this call stored, of an axis that has run for e
unfoldable pub wish_in : Float → IdentifyProbe → Lent → Call → Bool
wish_in e p l c =
    let b = begun_by e p c.dt in
    asks_of (due_by (lt b.now_s p.duration_s) (samples_of b.window (stored_in e p l c)))

module _ (e : Axis → Float) (p : Structs) (l : Lents) (c : TwoCall) where
  -- an axis's call, with the other's wish
  abbrev pub tied_in : Axis → Call
  tied_in x = call_of c x (wish_in (e (other x)) (p (other x)) (l (other x)) (call_of c (other x) false))

  abbrev pub ticked_axis : Axis → IdentifyProbe
  ticked_axis x = ticked_probe (e x) (p x) (l x) (tied_in x)

  -- an accepted call of axes that have run for e
  unfoldable pub two_ticked : TwoAnswer
  two_ticked = record {
    answer = Ok (Some ((begun_by (e first) (p first) c.dt).offset, (begun_by (e second) (p second) c.dt).offset));
    first = ticked_axis first;
    second = ticked_axis second;
    lent1 = stored_in (e first) (p first) (l first) (call_of c first false);
    lent2 = stored_in (e second) (p second) (l second) (call_of c second false);
  }

-- "A refused call is refused for both": the number of the first axis, or else of the second
unfoldable pub either_number : ℕ → ℕ → ℕ
either_number zero n = n
either_number (suc m) n = suc m

-- a rule turns the call back; an axis has ended; or both run
unfoldable pub two_answer_by : ℕ → (time1 time2 : Option Float) → Structs → Lents → TwoCall → TwoAnswer
two_answer_by (suc n) t u p l c = unmoved (Err (suc n)) p l
two_answer_by zero None u p l c = unmoved (Ok None) p l
two_answer_by zero (Some e) None p l c = unmoved (Ok None) p l
two_answer_by zero (Some e) (Some d) p l c = two_ticked (axes e d) p l c

abbrev pub number_in : Structs → Float → Axis → ℕ
number_in p dt x = refusal (clock (p x).status) (p x).ticks dt

unfoldable pub two_stepped_by : Structs → Lents → TwoCall → TwoAnswer
two_stepped_by p l c =
    two_answer_by (either_number (number_in p c.dt first) (number_in p c.dt second)) (clock (p first).status) (clock (p second).status) p l c

-- that answer of the struct and the lent arrays
abbrev pub answer_of : TwoAxisProbe → (lent1 lent2 : LentArrays) → TwoCall → TwoAnswer
answer_of p lent1 lent2 c = two_stepped_by (probes_of p) (lents_of lent1 lent2) c

-- a call that answers so leaves the struct and the arrays of both as the answer has them
pub record LeavesTwo (before after : TwoAxisProbe) (before1 after1 before2 after2 : LentArrays) (a : TwoAnswer) : Type 0 where
  pub first : after.first ≡ a.first
  pub second : after.second ≡ a.second
  pub lent1 : Leaves before1 after1 a.lent1
  pub lent2 : Leaves before2 after2 a.lent2

-- ---- an answer as the definitions say it, for each axis
unfoldable pub reply_two : Result (Option (Float × Float)) ℕ → Axis → Reply
reply_two (Ok (Some x)) a = offset (axes x.0 x.1 a)
reply_two (Ok None) a = offset zero32
reply_two (Err n) a = refused n
