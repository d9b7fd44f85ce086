-- `record_tick` puts each value at the place after the stored ones, where there is room, and else leaves everything as it is.
use Prim.Native.Nat.{◌<◌, ◌≤◌}
use mathlib.Core.Path.{refl, sym}
use native.Mathlib.Omega.{arith}
use native.Mathlib.Numerals.{add-one}
use Rattle.window.specs.Samples.{capacity, bad}
use Rattle.window.specs.Arrays.{stored_of, hold_at}
use Rattle.window.specs.Lent.{put_sample}
use Rattle.window.proofs.Arrays.{next_roomy, next_full, put_roomy, put_full, arrays_same}
use Rattle.window.proofs.LentArrays.record_tick.Goals as goal

pub returns-then-index-lt-CAPACITY : goal.returns-then-index-lt-CAPACITY
unfolding put_sample
returns-then-index-lt-CAPACITY c =
    let a = c.args in
    let s = a.self.now in
    let n = stored_of a.window in
    let r : n < capacity = omega (arith, c.stored-index.ensures) in record {
      result = rw (c.stored-index.ensures, add-one) (sym (next_roomy a.window a.dt r));
      lent = record {
        contents = arrays_same
            (cc (put_roomy n s.rates.now (hold_at s.rates.now n a.rate) r))
            (cc (put_roomy n s.moments.now (hold_at s.moments.now n a.moment) r))
            (cc (put_roomy n s.offsets.now a.offset r))
            (cc (put_roomy n s.held.now (bad a.rate a.moment) r));
        rates = refl;
        moments = refl;
        offsets = refl;
        held = refl;
      };
    }

pub returns-else-index-lt-CAPACITY : goal.returns-else-index-lt-CAPACITY
unfolding put_sample
returns-else-index-lt-CAPACITY c =
    let a = c.args in
    let s = a.self.now in
    let n = stored_of a.window in
    let f : capacity ≤ n = omega (arith, c.stored-index.ensures) in record {
      result = sym (next_full a.window a.dt f);
      lent = record {
        contents = arrays_same
            (sym (put_full n s.rates.now (hold_at s.rates.now n a.rate) f))
            (sym (put_full n s.moments.now (hold_at s.moments.now n a.moment) f))
            (sym (put_full n s.offsets.now a.offset f))
            (sym (put_full n s.held.now (bad a.rate a.moment) f));
        rates = refl;
        moments = refl;
        offsets = refl;
        held = refl;
      };
    }
