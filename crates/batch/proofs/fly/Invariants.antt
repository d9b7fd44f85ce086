-- The flight stands where the calls so far leave it, and the output holds their answers.
use Prim.Native.Nat.{◌*◌, ◌≤◌}
use mathlib.Core.Path.{◌≡◌}
use lib.ListN.{length}
use Rattle.account.specs.declared.IdentifyConfig.{IdentifyConfig}
use Rattle.wire.specs.Words.{written_at}
use Rattle.batch.proofs.fly.Given as goal

abbrev pub invariant-loop-k : goal.invariant-loop-k
invariant-loop-k g l =
    let f = g.F.Flight in
    (l.k ≤ l.n)
    × ((c : IdentifyConfig) → f.stands c l.calls 0 l.initial.flight
    → f.stands c l.calls l.k l.flight
    × (length (f.answers c l.calls l.k) ≡ l.sizes.answer * l.k)
    × (l.output ≡ written_at l.sizes.report (f.answers c l.calls l.k) l.initial.output))
