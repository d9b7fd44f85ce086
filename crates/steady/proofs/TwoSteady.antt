-- The claim holds of every configuration and every list of two-axis calls. What follows is that of one axis twice, with one clock: so one test serves both.
use mathlib.Core.Path.{◌≡◌, refl, sym, ap, ap₂, subst, fun_ext, ◌∙◌}
use Rattle.std.specs.Prelude.{ℕ, Bool, true, false, ◌&&◌, cond, List, [], ◌∷◌, map, eqb}
use mathlib.Core.List.{foldl, foldl-append}
use Rattle.account.specs.declared.IdentifyConfig.{IdentifyConfig}
use Rattle.account.specs.Probe.{Reply, refused, number}
use Rattle.account.specs.Account.{turned}
use Rattle.account.proofs.Follow.{replied, begins}
use Rattle.two_axis.specs.Axes.{Axis, first, second, level, TwoCall, tied}
use Rattle.two_axis.specs.Probes.{Probes, fresh_two, step_two, moved, after_two, replies_two}
use Rattle.two_axis.specs.Probes as probes
use Rattle.two_axis.specs.Accounts.{Accounts, opened_two, wishes, next_two, calls_of, account_two}
use Rattle.two_axis.specs.Claim.{TwoAccounted}
use Rattle.two_axis.proofs.Follow.{Follow, onward}
use Rattle.two_axis.proofs.Together.{Together, both, both_turn}
use Rattle.two_axis.proofs.Theorem.{two_accounted}
use Rattle.steady.specs.declared.Band.{Band}
use Rattle.steady.specs.Band.{turns_back}
use Rattle.steady.specs.Guarded.{Guarded, without, number_in, passed, next_in, numbers_in}
use Rattle.steady.specs.TwoSteady.{two_dt, accounts_run, accounts_number, opened_two_in, turned_two_in, account_two_in, even_two_calls, probes_run, probes_number, fresh_two_in, probes_in, reply_two_in, replies_two_in, SteadyTwoAccounted}
use Rattle.steady.proofs.Guarded.{left, plain, band, even, follow}
use Rattle.steady.proofs.Steady.{account_not_ten, probe_not_ten, alike}

-- each axis follows its account, and the accounts have one clock
pub record Both (p : Probes) (a : Accounts) : Type 0 where
  pub each : Follow p a
  pub clock : Together (a first) (a second)

both_run : (p : Probes) (a : Accounts) → Both p a → probes_run p ≡ accounts_run a
both_run p a h = ap₂ (λ (r s : Bool). r && s) (alike (p first) (a first) (h.each first)) (alike (p second) (a second) (h.each second))

-- the number of either axis is that of the first one's account
own_number : (p : Probes) (a : Accounts) (c : TwoCall) → Follow p a → (x : Axis) → number (step_two p c x).reply ≡ turned (a x) (tied wishes a c x)
unfolding turned
own_number p a c h x = replied (p x) (a x) (tied probes.wishes p c x) (h x)

one_number : (p : Probes) (a : Accounts) (c : TwoCall) → Both p a → (x : Axis) → number (step_two p c x).reply ≡ accounts_number a c
one_number p a c h first = own_number p a c h.each first
one_number p a c h second = own_number p a c h.each second ∙ sym (both_turn a h.clock c)

goes : (p : Probes) (a : Accounts) (c : TwoCall) → Both p a → Both (moved p c) (next_two a c)
goes p a c h = record { each = onward p a h.each c; clock = both a h.clock c }

starts : (c : IdentifyConfig) → Both (fresh_two c) (opened_two c)
starts c = record { each = λ x. begins (level x) c; clock = record { elapsed = refl; ticks = refl; end = refl; unused = refl; running = refl } }

-- ---- what is answered
abbrev N : Guarded Probes → List TwoCall → List ℕ
N p cs = numbers_in probes_run two_dt probes_number moved p cs

abbrev Numbered : List TwoCall → Guarded Probes → Axis → Type 0
Numbered cs p x = map number (replies_two_in p cs x) ≡ N p cs

numbered_one : (t : Bool) (x : Axis) (p : Guarded Probes) (a : Accounts) (c : TwoCall) (cs : List TwoCall) → Both p.inner a
    → ((q : Guarded Probes) (b : Accounts) → Both q.inner b → Numbered cs q x)
    → let q = cond t p (passed probes_run two_dt probes_number moved p c) in
    number (cond t (refused 10) (step_two p.inner c x).reply) ∷ map number (replies_two_in q cs x) ≡ cond t 10 (probes_number p.inner c) ∷ N q cs
unfolding number
numbered_one true x p a c cs h ih = ap (λ (l : List ℕ). 10 ∷ l) (ih p a h)
numbered_one false x p a c cs h ih =
    ap₂ ◌∷◌ (one_number p.inner a c h x ∙ sym (one_number p.inner a c h first)) (ih (passed probes_run two_dt probes_number moved p c) (next_two a c) (goes p.inner a c h))

numbered : (cs : List TwoCall) (x : Axis) (p : Guarded Probes) (a : Accounts) → Both p.inner a → Numbered cs p x
unfolding replies_two_in reply_two_in numbers_in number_in next_in
numbered [] x p a h = refl
numbered (c ∷ cs) x p a h = numbered_one (turns_back p.band (probes_run p.inner) c.dt) x p a c cs h (numbered cs x)

abbrev Answered : List TwoCall → Axis → Guarded Probes → Type 0
Answered cs x p = without 10 (N p cs) (replies_two_in p cs x) ≡ replies_two p.inner (without 10 (N p cs) cs) x

pub probes_not_ten : (p : Probes) (c : TwoCall) → eqb (probes_number p c) 10 ≡ false
probes_not_ten p c = probe_not_ten (p first) (tied probes.wishes p c first)

answered_one : (t : Bool) (x : Axis) (p : Guarded Probes) (c : TwoCall) (cs : List TwoCall) → ((q : Guarded Probes) → Answered cs x q)
    → let q = cond t p (passed probes_run two_dt probes_number moved p c) in
    cond (eqb (cond t 10 (probes_number p.inner c)) 10) (without 10 (N q cs) (replies_two_in q cs x)) (cond t (refused 10) (step_two p.inner c x).reply ∷ without 10 (N q cs) (replies_two_in q cs x))
    ≡ replies_two p.inner (cond (eqb (cond t 10 (probes_number p.inner c)) 10) (without 10 (N q cs) cs) (c ∷ without 10 (N q cs) cs)) x
unfolding replies_two
answered_one true x p c cs h = h p
answered_one false x p c cs h = rw (probes_not_ten p.inner c) (ap (λ (l : List Reply). (step_two p.inner c x).reply ∷ l) (h (passed probes_run two_dt probes_number moved p c)))

answered : (cs : List TwoCall) (x : Axis) (p : Guarded Probes) → Answered cs x p
unfolding replies_two_in reply_two_in numbers_in number_in next_in without replies_two
answered [] x p = refl
answered (c ∷ cs) x p = answered_one (turns_back p.band (probes_run p.inner) c.dt) x p c cs (answered cs x)

-- ---- the accounts step by step are each axis's own over its calls
folded : (cs : List TwoCall) (a : Accounts) (x : Axis) → foldl next_two a cs x ≡ account_two a cs x
unfolding calls_of
folded [] a x = refl
folded (c ∷ cs) a x = folded cs (next_two a c) x

accounts_not_ten : (a : Accounts) (c : TwoCall) → eqb (accounts_number a c) 10 ≡ false
accounts_not_ten a c = account_not_ten (a first) (tied wishes a c first)

module _ (start : Band) (c : IdentifyConfig) (calls : List TwoCall) where
  -- the numbers of the probes are those of the accounts, and so is the band
  pub alikes : (N (fresh_two_in start c) calls ≡ turned_two_in (opened_two_in start c) calls) × ((probes_in (fresh_two_in start c) calls).band ≡ (account_two_in (opened_two_in start c) calls).band)
  alikes =
      follow two_dt Both probes_run probes_number moved accounts_run accounts_number next_two both_run (λ p a k h. one_number p a k h first) goes calls (fresh_two_in start c) (opened_two_in start c) refl (starts c)

  as_plain : (probes_in (fresh_two_in start c) calls).inner ≡ after_two (fresh_two c) (even_two_calls start c calls)
  as_plain =
      left probes_run two_dt probes_number moved probes_not_ten calls (fresh_two_in start c)
      ∙ ap (λ (ns : List ℕ). after_two (fresh_two c) (without 10 ns calls)) alikes.0

  kept : (account_two_in (opened_two_in start c) calls).inner ≡ account_two (opened_two c) (even_two_calls start c calls)
  kept =
      left accounts_run two_dt accounts_number next_two accounts_not_ten calls (opened_two_in start c)
      ∙ fun_ext (folded (even_two_calls start c calls) (opened_two c))

  pub steady_two_accounted : SteadyTwoAccounted start c calls (probes_in (fresh_two_in start c) calls) (account_two_in (opened_two_in start c) calls)
  steady_two_accounted =
      let evens = even_two_calls start c calls in
      record {
        refused = λ x. numbered calls x (fresh_two_in start c) (opened_two c) (starts c) ∙ alikes.0;
        tested = alikes.1;
        first = band accounts_run two_dt accounts_number next_two calls (opened_two_in start c);
        probes = as_plain;
        accounts = kept;
        accounted = subst (λ (p : Probes). TwoAccounted c evens p (account_two_in (opened_two_in start c) calls).inner) (sym as_plain)
            (subst (λ (a : Accounts). TwoAccounted c evens (after_two (fresh_two c) evens) a) (sym kept) (two_accounted c evens));
        answers = λ x.
            ap (λ (ns : List ℕ). without 10 ns (replies_two_in (fresh_two_in start c) calls x)) (sym alikes.0)
            ∙ answered calls x (fresh_two_in start c)
            ∙ ap (λ (ns : List ℕ). replies_two (fresh_two c) (without 10 ns calls) x) alikes.0;
        even = even accounts_run two_dt accounts_number next_two accounts_not_ten calls (opened_two_in start c);
        plain = plain accounts_run two_dt accounts_number next_two accounts_not_ten calls (opened_two_in start c);
        continued = λ others. foldl-append (next_in accounts_run two_dt accounts_number next_two) (opened_two_in start c) calls others;
      }
