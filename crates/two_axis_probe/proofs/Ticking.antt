-- An accepted call of both axes, put together from their halves: each axis's second half is the end of its tick, asked by the other's wish.
use mathlib.Core.Path.{◌≡◌}
use mathlib.Core.Bool.{Bool, true}
use lib.Ieee.{Float, lt}
use Rattle.window.specs.Lent.{Lent, samples_of}
use Rattle.account.specs.Probe.{alone}
use Rattle.std.specs.Prelude.{Option, None}
use Rattle.recorded.specs.declared.Classified.{Classified}
use Rattle.closing.specs.Ending.{due_by, asks_of, closed_due}
use Rattle.closing.proofs.Closing.{halves}
use Rattle.identify.specs.declared.Begun.{Begun}
use Rattle.identify.specs.declared.IdentifyProbe.{IdentifyProbe}
use Rattle.identify.specs.Seen.{begun_by, stored_in, ticked_probe}
use Rattle.two_axis_probe.specs.declared.AxisReading.{AxisReading}
use Rattle.two_axis_probe.specs.Stepped.{tick_ended, tick_ahead, wish_in}

-- one axis: its halves, with the sample stored in k, and what its window is found to be
module _ (e : Float) (p : IdentifyProbe) (l : Lent) (dt : Float) (r : AxisReading) (b : Begun) (k : Lent) (d : Option Classified)
    (hb : b ≡ begun_by e p dt) (hk : k ≡ stored_in e p l (alone dt r.rate r.moment)) (hd : d ≡ due_by (lt b.now_s p.duration_s) (samples_of b.window k)) where
  pub wished : asks_of d ≡ wish_in e p l (alone dt r.rate r.moment)
  unfolding wish_in
  wished = rw (hd, hk, hb)

  pub leaves : (asked : Bool)
      → tick_ended p b b.window d asked k.rates k.moments ≡ ticked_probe e p l (record { dt = dt; rate = r.rate; moment = r.moment; asked = asked })
  unfolding ticked_probe stored_in
  leaves asked =
      rw (hd, halves b.now_s p.duration_s p.noisy b.sweep b.window k.rates k.moments k.offsets k.marks asked, hb)
      (rw hk)

-- with its end time ahead an axis runs on, whatever the other asks
pub runs_on : (e : Float) (p : IdentifyProbe) (l : Lent) (dt : Float) (r : AxisReading) (b : Begun) (k : Lent)
    → b ≡ begun_by e p dt → k ≡ stored_in e p l (alone dt r.rate r.moment) → lt b.now_s p.duration_s ≡ true → (asked : Bool)
    → tick_ahead p b ≡ ticked_probe e p l (record { dt = dt; rate = r.rate; moment = r.moment; asked = asked })
unfolding due_by closed_due
runs_on e p l dt r b k hb hk below asked = leaves e p l dt r b k None hb hk (rw below) asked
