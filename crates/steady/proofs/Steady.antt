-- The claim holds of every configuration and every list of calls: probe and account follow one another behind the test too, and what is behind it is plain.
use mathlib.Core.Path.{◌≡◌, refl, sym, ap, ap₂, subst, ◌∙◌}
use Rattle.std.specs.Prelude.{ℕ, Bool, true, false, ◌&&◌, cond, List, [], ◌∷◌, map, eqb, leb, Float}
use Rattle.std.specs.Prelude.{Option, Some, None}
use mathlib.Core.List.{foldl-append}
use Rattle.std.specs.Float.{binary32}
use Rattle.std.specs.Float.Ieee.{add, lt}
use Rattle.float.specs.Values.{whole32}
use Rattle.account.specs.declared.IdentifyConfig.{IdentifyConfig}
use Rattle.account.specs.Rules.{positive, overrun, refusal}
use Rattle.account.specs.Probe.{Call, Probe, Reply, refused, number, clock, fresh_at, step, after, replies}
use Rattle.account.specs.Account.{Account, opened, turned, next, account, time}
use Rattle.account.specs.Claim.{Accounted}
use Rattle.account.proofs.Follow.{Follows, clocks, numbers, replied, one, begins}
use Rattle.account.proofs.Theorem.{accounted}
use Rattle.steady.specs.declared.Band.{Band}
use Rattle.steady.specs.Band.{turns_back, uneven}
use Rattle.steady.specs.Guarded.{Guarded, without, number_in, passed, next_in, numbers_in}
use Rattle.steady.specs.Steady.{dt_of, runs_of, opened_in, turned_in, account_in, even_calls, is_running, probe_runs, probe_number, probe_next, fresh_in, probe_in, reply_in, replies_in, SteadyAccounted}
use Rattle.steady.proofs.Guarded.{left, plain, band, even, follow}

-- ---- the rules 6, 7 and 8 are not 10
pub not_ten : (e : Option Float) (ticks : ℕ) (dt : Float) → eqb (refusal e ticks dt) 10 ≡ false
unfolding refusal overrun
not_ten e ticks dt = go (positive dt) e
  where
    late : (l m : Bool) → eqb (cond l 7 (cond m 8 0)) 10 ≡ false
    late true m = refl
    late false true = refl
    late false false = refl

    go : (p : Bool) (r : Option Float) → eqb (cond p (overrun r ticks dt) 6) 10 ≡ false
    go false r = refl
    go true None = refl
    go true (Some x) = late (lt (whole32 4096) (add binary32 x dt)) (leb 16_777_216 ticks)

pub account_not_ten : (a : Account) (c : Call) → eqb (turned a c) 10 ≡ false
unfolding turned
account_not_ten a c = not_ten (time a.running a) a.ticks c.dt

pub probe_not_ten : (p : Probe) (c : Call) → eqb (probe_number p c) 10 ≡ false
unfolding step
probe_not_ten p c = rw (numbers (refusal (clock p.standing.status) p.ticks c.dt) (clock p.standing.status) p c) (not_ten (clock p.standing.status) p.ticks c.dt)

-- ---- probe and account run alike
running : (r : Bool) (a : Account) → is_running (time r a) ≡ r
unfolding is_running time
running true a = refl
running false a = refl

pub alike : (p : Probe) (a : Account) → Follows p a → probe_runs p ≡ runs_of a
alike p a h = ap (λ (q : Probe). is_running (clock q.standing.status)) h ∙ ap is_running (clocks a.running a) ∙ running a.running a

-- ---- what is answered
pub reply_number : (t : Bool) (p : Probe) (c : Call) → number (cond t (refused 10) (step p c).reply) ≡ cond t 10 (probe_number p c)
unfolding number
reply_number true p c = refl
reply_number false p c = refl

abbrev N : Guarded Probe → List Call → List ℕ
N p cs = numbers_in probe_runs dt_of probe_number probe_next p cs

numbered : (cs : List Call) (p : Guarded Probe) → map number (replies_in p cs) ≡ N p cs
unfolding replies_in reply_in numbers_in number_in
numbered [] p = refl
numbered (c ∷ cs) p = ap₂ ◌∷◌ (reply_number (turns_back p.band (probe_runs p.inner) c.dt) p.inner c) (numbered cs (next_in probe_runs dt_of probe_number probe_next p c))

abbrev Answered : List Call → Guarded Probe → Type 0
Answered cs p = without 10 (N p cs) (replies_in p cs) ≡ replies p.inner (without 10 (N p cs) cs)

answered_one : (t : Bool) (p : Guarded Probe) (c : Call) (cs : List Call) → ((q : Guarded Probe) → Answered cs q)
    → let q = cond t p (passed probe_runs dt_of probe_number probe_next p c) in
    cond (eqb (cond t 10 (probe_number p.inner c)) 10) (without 10 (N q cs) (replies_in q cs)) (cond t (refused 10) (step p.inner c).reply ∷ without 10 (N q cs) (replies_in q cs))
    ≡ replies p.inner (cond (eqb (cond t 10 (probe_number p.inner c)) 10) (without 10 (N q cs) cs) (c ∷ without 10 (N q cs) cs))
unfolding replies
answered_one true p c cs h = h p
answered_one false p c cs h = rw (probe_not_ten p.inner c) (ap (λ (l : List Reply). (step p.inner c).reply ∷ l) (h (passed probe_runs dt_of probe_number probe_next p c)))

answered : (cs : List Call) (p : Guarded Probe) → Answered cs p
unfolding replies_in reply_in numbers_in number_in next_in without replies
answered [] p = refl
answered (c ∷ cs) p = answered_one (turns_back p.band (probe_runs p.inner) c.dt) p c cs (answered cs)

-- ---- the order of the rules
ordered : (r x u : Bool) (n : ℕ) → cond (r && (x && u)) 10 (cond x n 6) ≡ cond x (cond (r && (x && u)) 10 n) 6
ordered r true u n = refl
ordered true false u n = refl
ordered false false u n = refl

module _ (start : Band) (high : Bool) (c : IdentifyConfig) (calls : List Call) where
  -- the numbers of the probe are the account's, and so is the band
  pub both : (N (fresh_in start high c) calls ≡ turned_in (opened_in start c) calls) × ((probe_in (fresh_in start high c) calls).band ≡ (account_in (opened_in start c) calls).band)
  both = follow dt_of Follows probe_runs probe_number probe_next runs_of turned next alike replied one calls (fresh_in start high c) (opened_in start c) refl (begins high c)

  as_plain : (probe_in (fresh_in start high c) calls).inner ≡ after (fresh_at high c) (even_calls start c calls)
  as_plain =
      left probe_runs dt_of probe_number probe_next probe_not_ten calls (fresh_in start high c)
      ∙ ap (λ (ns : List ℕ). after (fresh_at high c) (without 10 ns calls)) both.0

  kept : (account_in (opened_in start c) calls).inner ≡ account (opened c) (even_calls start c calls)
  kept = left runs_of dt_of turned next account_not_ten calls (opened_in start c)

  pub steady_accounted : SteadyAccounted start high c calls (probe_in (fresh_in start high c) calls) (account_in (opened_in start c) calls)
  unfolding number_in turned turns_back refusal
  steady_accounted =
      let a = account_in (opened_in start c) calls in
      record {
        refused = numbered calls (fresh_in start high c) ∙ both.0;
        tested = both.1;
        first = band runs_of dt_of turned next calls (opened_in start c);
        probe = as_plain;
        account = kept;
        accounted = subst (λ (p : Probe). Accounted high c (even_calls start c calls) p a.inner) (sym as_plain)
            (subst (λ (k : Account). Accounted high c (even_calls start c calls) (after (fresh_at high c) (even_calls start c calls)) k) (sym kept) (accounted high c (even_calls start c calls)));
        answers = ap (λ (ns : List ℕ). without 10 ns (replies_in (fresh_in start high c) calls)) (sym both.0)
            ∙ answered calls (fresh_in start high c)
            ∙ ap (λ (ns : List ℕ). replies (fresh_at high c) (without 10 ns calls)) both.0;
        even = even runs_of dt_of turned next account_not_ten calls (opened_in start c);
        plain = plain runs_of dt_of turned next account_not_ten calls (opened_in start c);
        order = λ x. ordered a.inner.running (positive x.dt) (uneven a.band x.dt) (overrun (time a.inner.running a.inner) a.inner.ticks x.dt);
        continued = λ others. foldl-append (next_in runs_of dt_of turned next) (opened_in start c) calls others;
      }
