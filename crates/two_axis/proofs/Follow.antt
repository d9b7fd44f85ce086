-- Each axis is a single probe over its own calls: the wish of a probe is that of its account, so the two say the same bits.
use mathlib.Core.Path.{◌≡◌, refl, sym, ap, subst, ◌∙◌}
use mathlib.Core.Bool.{Bool, true, false, not, ◌&&◌}
use Rattle.std.specs.Prelude.{Some}
use mathlib.Core.List.{List, [], ◌∷◌}
use lib.Ieee.{Float, binary32, add, lt}
use Rattle.sweep.specs.declared.SquareSweep.{SquareSweep}
use Rattle.recorded.specs.Classify.{classify}
use Rattle.account.specs.Probe.{Call, Reply, Probe, tick, step, after, replies}
use Rattle.account.specs.Account.{Account, counted, accept, is_integrated, account_class, time}
use Rattle.account.proofs.Follow.{probe_of, clocks, Follows, ticks, one}
use Rattle.two_axis.specs.Axes.{Axis, first, second, TwoCall, call_of, tied}
use Rattle.two_axis.specs.Probes.{Probes, wishes_at, moved, after_two, replies_two}
use Rattle.two_axis.specs.Probes as probes
use Rattle.two_axis.specs.Accounts.{Accounts, next_two, calls_of}
use Rattle.two_axis.specs.Accounts as accounts
use Rattle.two_axis.proofs.Tied.{tied_first, tied_second}

-- what a running probe wishes
wish_on : (e : Float) (p : Probe) (c : Call) → wishes_at (Some e) p c
    ≡ (not (lt (add binary32 e c.dt) p.end) && (let w = (tick e p c).probe.samples in is_integrated (classify w.rates w.moments w.marks w.duration)))
unfolding wishes_at
wish_on e p c = refl

wish_at : (r : Bool) (a : Account) (s : SquareSweep) (o : List Float) (c : Call)
    → wishes_at (time r a) (probe_of a s o) c ≡ (r && not (lt (counted a c).elapsed (counted a c).end) && is_integrated (account_class (counted a c)))
unfolding wishes_at time counted accept
wish_at false a s o c = refl
wish_at true a s o c =
    wish_on a.elapsed (probe_of a s o) c
    ∙ ap (λ (q : Probe). not (lt (add binary32 a.elapsed c.dt) a.end) && is_integrated (classify q.samples.rates q.samples.moments q.samples.marks q.samples.duration))
    (ticks a s o c)

wished : (p : Probe) (a : Account) (c : Call) → Follows p a → probes.wishes p c ≡ accounts.wishes a c
unfolding probes.wishes accounts.wishes
wished p a c h = rw (h, clocks) (wish_at a.running a p.sweep p.samples.offsets c)

abbrev pub Follow : Probes → Accounts → Type 0
Follow p a = (x : Axis) → Follows (p x) (a x)

module _ (p : Probes) (a : Accounts) (h : Follow p a) (c : TwoCall) where
  same : (x : Axis) → tied probes.wishes p c x ≡ tied accounts.wishes a c x
  same first = tied_first probes.wishes p c ∙ ap (λ (b : Bool). call_of c first b) (wished (p second) (a second) (call_of c second false) (h second)) ∙ sym (tied_first accounts.wishes a c)
  same second = tied_second probes.wishes p c ∙ ap (λ (b : Bool). call_of c second b) (wished (p first) (a first) (call_of c first false) (h first)) ∙ sym (tied_second accounts.wishes a c)

  pub onward : Follow (moved p c) (next_two a c)
  onward x = subst (λ (k : Call). Follows (step (p x) k).probe (next_two a c x)) (sym (same x)) (one (p x) (a x) (tied accounts.wishes a c x) (h x))

pub left : (cs : List TwoCall) (p : Probes) (a : Accounts) → Follow p a → (x : Axis) → after_two p cs x ≡ after (p x) (calls_of a cs x)
unfolding calls_of
left [] p a h x = refl
left (c ∷ cs) p a h x = left cs (moved p c) (next_two a c) (onward p a h c) x ∙ ap (λ (k : Call). after (step (p x) k).probe (calls_of (next_two a c) cs x)) (same p a h c x)

pub replied : (cs : List TwoCall) (p : Probes) (a : Accounts) → Follow p a → (x : Axis) → replies_two p cs x ≡ replies (p x) (calls_of a cs x)
unfolding calls_of replies_two replies
replied [] p a h x = refl
replied (c ∷ cs) p a h x =
    ap (λ (rs : List Reply). (step (p x) (tied probes.wishes p c x)).reply ∷ rs) (replied cs (moved p c) (next_two a c) (onward p a h c) x)
    ∙ ap (λ (k : Call). (step (p x) k).reply ∷ replies (step (p x) k).probe (calls_of (next_two a c) cs x)) (same p a h c x)
