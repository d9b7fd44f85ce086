-- 02, five, on the definitions: the claim holds of every configuration and every list of two-axis calls.
use mathlib.Core.Path.{◌≡◌, refl, sym, ap, ◌∙◌}
use mathlib.Core.List.{List, [], ◌∷◌, ◌++◌, map}
use Rattle.sweep.specs.Sweep.{started}
use Rattle.account.specs.declared.IdentifyConfig.{IdentifyConfig}
use Rattle.account.specs.Probe.{Probe, fresh_at, number}
use Rattle.account.specs.Account.{opened, turned_back}
use Rattle.account.specs.Claim.{Accounted}
use Rattle.account.proofs.Follow.{follows, begins}
use Rattle.account.proofs.Theorem.{accounted}
use Rattle.two_axis.specs.Axes.{Axis, first, second, level, TwoCall}
use Rattle.two_axis.specs.Probes.{fresh_two, after_two, replies_two}
use Rattle.two_axis.specs.Accounts.{Accounts, opened_two, next_two, calls_of, account_two}
use Rattle.two_axis.specs.Claim.{TwoAccounted}
use Rattle.two_axis.proofs.Follow.{Follow, left, replied}
use Rattle.two_axis.proofs.Together.{Together, times_of, together, turned_together}
use Rattle.two_axis.proofs.Extension.{extended}
use Rattle.two_axis.proofs.Levels.{Wave, Opposed, levels}
use Rattle.two_axis.proofs.Alone.{alone_probe, alone_replies}

pub continued : (calls : List TwoCall) (a : Accounts) (others : List TwoCall) (x : Axis) → account_two a (calls ++ others) x ≡ account_two (account_two a calls) others x
unfolding calls_of
continued [] a others x = refl
continued (c ∷ cs) a others x = continued cs (next_two a c) others x

module _ (c : IdentifyConfig) (calls : List TwoCall) where
  begin : Follow (fresh_two c) (opened_two c)
  begin x = begins (level x) c

  each : (x : Axis) → Accounted (level x) c (calls_of (opened_two c) calls x) (after_two (fresh_two c) calls x) (account_two (opened_two c) calls x)
  each x = rw (left calls (fresh_two c) (opened_two c) begin x) (accounted (level x) c (calls_of (opened_two c) calls x))

  follow : Follow (after_two (fresh_two c) calls) (account_two (opened_two c) calls)
  follow x = rw (left calls (fresh_two c) (opened_two c) begin x) (follows (calls_of (opened_two c) calls x) (fresh_at (level x) c) (opened c) (begin x))

  pub two_accounted : TwoAccounted c calls (after_two (fresh_two c) calls) (account_two (opened_two c) calls)
  unfolding fresh_at started
  two_accounted =
      let start : Together (opened c) (opened c) = record { elapsed = refl; ticks = refl; end = refl; unused = refl; running = refl } in
      let begun : Opposed (fresh_two c first).sweep (fresh_two c second).sweep = refl in
      let t = together calls (opened_two c) start in
      let answers = replied calls (fresh_two c) (opened_two c) begin in
      let said : (x : Axis) → map number (replies_two (fresh_two c) calls x) ≡ turned_back (opened c) (calls_of (opened_two c) calls x) = λ x. ap (map number) (answers x) ∙ (each x).refused in
      record {
        each = each;
        answers = answers;
        refused = said first ∙ turned_together calls (opened_two c) start ∙ sym (said second);
        ended = (each first).ended ∙ times_of _ _ t ∙ sym (each second).ended;
        ticks = (each first).ticks ∙ t.ticks ∙ sym (each second).ticks;
        end = ap (λ (p : Probe). p.end) (follow first) ∙ t.end ∙ sym (ap (λ (p : Probe). p.end) (follow second));
        unused = ap (λ (p : Probe). p.unused) (follow first) ∙ t.unused ∙ sym (ap (λ (p : Probe). p.unused) (follow second));
        opposite = ap (λ (w : Wave). w.high) (levels calls (fresh_two c) (opened_two c) begin start begun);
        extended = λ k x y e. extended e (account_two (opened_two c) calls) t k x y;
        alone = λ h x. (alone_probe x calls (fresh_two c) h, alone_replies x calls (fresh_two c) h);
        continued = continued calls (opened_two c);
      }
