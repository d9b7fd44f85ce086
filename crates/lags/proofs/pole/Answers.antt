-- `lags::pole` meets its contract, by cases on the place: pole 0 is 0, and pole i + 1 is that of lag i. The table ends where its rule ends it (proofs/Table.antt).
use Prim.Native.Nat.{suc, ◌-◌}
use mathlib.Core.Path.{◌≡◌, refl}
use native.Mathlib.Omega.{arith}
use Rattle.lags.specs.Lags.{pole_of}
use Rattle.lags.proofs.Table.{table_ends}
use Rattle.lags.proofs.pole.Goals as goal

pub returns-then-place-eq0 : goal.returns-then-place-eq0
unfolding pole_of
returns-then-place-eq0 c = (rw (← c.min-place.ensures, c.if-place-eq0.true) refl, table_ends)

pub returns : goal.returns
unfolding pole_of
returns c =
    let l = c.min-place in let e : l.result ≡ suc (l.result - 1) = omega arith in
    (rw (← l.ensures, e) (cc), table_ends)
