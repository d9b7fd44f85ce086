-- A single probe behind the test follows the plain probe of the definitions.
use mathlib.Core.Path.{◌≡◌, refl, sym, ap, ◌∙◌}
use Rattle.std.specs.Prelude.{ℕ, zero, suc, Bool, true, false, ◌&&◌, cond, eqb, List, [], ◌∷◌, ◌++◌, length, Float}
use native.Mathlib.Omega.{arith}
use Rattle.std.specs.Float.Ieee.{lt}
use Rattle.float.specs.Values.{zero32, finite}
use Rattle.account.specs.declared.IdentifyConfig.{IdentifyConfig}
use Rattle.account.specs.Rules.{refusal, positive, overrun}
use Rattle.account.specs.Probe.{Call, Probe, Reply, number, clock, fresh, after, step}
use Rattle.account.proofs.Follow.{numbers}
use Rattle.identify.specs.Seen.{seen}
use Rattle.identify.proofs.Making.{makes}
use Rattle.steady.specs.declared.Band.{Band}
use Rattle.steady.specs.Guarded.{Guarded, next_in, without}
use Rattle.steady.specs.Steady.{dt_of, is_running, probe_runs, probe_number, probe_next, fresh_in, probe_in, reply_in, replies_in}
use Rattle.steady.proofs.Ends.{length_numbers, kept_end}
use Rattle.steady.proofs.Steady.{probe_not_ten, both, steady_accounted}
use Rattle.live_probe.specs.Live.{Live, live_probe, live_open}
use Rattle.live_probe.specs.Flown.{reply_by, Flown, by_open, by_step}
use Rattle.live_probe.proofs.Flying.{made, flies, replies_so}
use Rattle.steady_probe.specs.SteadyLive.{runs_in, single}
use Rattle.steady_probe.specs.SteadyFlown.{SteadyFlown, SteadyFlies}
use Rattle.steady_probe.proofs.Flying.{Model, Follows, N, Turned, end_by, flies_behind}

-- an accepted dt is above 0
above : (e : Bool) (l : Bool) (n : ℕ) → cond (e && l) n 6 ≡ 0 → l ≡ true
above true true n h = refl
above true false n h = absurd (omega (arith, h))
above false l n h = absurd (omega (arith, h))

pub accepted_above : (p : Probe) (y : Call) → probe_number p y ≡ 0 → lt zero32 y.dt ≡ true
unfolding step refusal positive
accepted_above p y h =
    above (finite y.dt) (lt zero32 y.dt) (overrun (clock p.standing.status) p.ticks y.dt)
    (sym (numbers (refusal (clock p.standing.status) p.ticks y.dt) (clock p.standing.status) p y) ∙ h)

pub number_by : (n : ℕ) (x : Float) → number (reply_by n x) ≡ n
unfolding number reply_by
number_by zero x = refl
number_by (suc n) x = refl

-- one call more at the end of a list: its reply comes last
replies_more : (y : Call) (cs : List Call) (p : Guarded Probe) → replies_in p (cs ++ (y ∷ [])) ≡ replies_in p cs ++ (reply_in (probe_in p cs) y ∷ [])
unfolding replies_in
replies_more y [] p = refl
replies_more y (c ∷ cs) p = ap (λ (l : List Reply). reply_in p c ∷ l) (replies_more y cs (next_in probe_runs dt_of probe_number probe_next p c))

length_replies : (cs : List Call) (p : Guarded Probe) → length (replies_in p cs) ≡ length cs
unfolding replies_in
length_replies [] p = refl
length_replies (c ∷ cs) p = ap suc (length_replies cs (next_in probe_runs dt_of probe_number probe_next p c))

abbrev pub probe : Model single
probe = record { State = Probe; fresh = fresh; runs = probe_runs; number = probe_number; next = probe_next; Replies = λ n x p y. reply_by n x ≡ (step p y).reply }

runs_alike : (c : IdentifyConfig) (calls : List Call) (answers : List Reply) (k : Live) → Flown c calls answers k → runs_in (live_probe k) ≡ probe_runs (after (fresh c) calls)
unfolding seen
runs_alike c calls answers k f = ap (λ (q : Probe). is_running (clock q.standing.status)) (makes (made f).0).0

even_more : (b : Band) (c : IdentifyConfig) (calls : List Call) (answers : List Reply) (j n : ℕ) (x : Float) → answers ≡ replies_in (fresh_in b true c) calls
    → without 10 (N probe b c calls ++ (j ∷ [])) (answers ++ (reply_by n x ∷ [])) ≡ cond (eqb j 10) (without 10 (N probe b c calls) answers) (without 10 (N probe b c calls) answers ++ (reply_by n x ∷ []))
even_more b c calls answers j n x h =
    kept_end 10 j (reply_by n x) (N probe b c calls) answers (length_numbers probe_runs dt_of probe_number probe_next calls (fresh_in b true c) ∙ sym (length_replies calls (fresh_in b true c)) ∙ ap length (sym h))
    ∙ end_by (eqb j 10) (without 10 (N probe b c calls) answers) (reply_by n x)

same_turned : (b : Band) (c : IdentifyConfig) (calls : List Call) (answers : List Reply) (x : Float) (y : Call) → answers ≡ replies_in (fresh_in b true c) calls
    → Turned probe b c calls y ≡ true → answers ++ (reply_by 10 x ∷ []) ≡ replies_in (fresh_in b true c) (calls ++ (y ∷ []))
unfolding reply_in reply_by
same_turned b c calls answers x y is h = rw (replies_more y calls (fresh_in b true c), h, is) refl

same_taken : (b : Band) (c : IdentifyConfig) (calls : List Call) (answers : List Reply) (n : ℕ) (x : Float) (y : Call) → answers ≡ replies_in (fresh_in b true c) calls
    → Turned probe b c calls y ≡ false → reply_by n x ≡ (step (probe_in (fresh_in b true c) calls).inner y).reply → answers ++ (reply_by n x ∷ []) ≡ replies_in (fresh_in b true c) (calls ++ (y ∷ []))
unfolding reply_in
same_taken b c calls answers n x y is h r = rw (replies_more y calls (fresh_in b true c), h, r, is) refl

pub follows : Follows probe
follows = record {
  not_ten = probe_not_ten;
  above = accepted_above;
  numbered = λ n x m y r. sym (number_by n x) ∙ ap number r;
  nine = λ options c s. (unfold live_open in refl);
  opens = λ c s t l e w. by_open s e w;
  steps = λ c calls answers k next n found x y f e. by_step found y f e;
  runs = runs_alike;
  replies = λ c calls answers k next n found x y f e. replies_so c calls k next n found x y (makes (made f).0).0 (makes (made f).0).1 e;
  flies = λ c calls answers k f. flies f;
  even_none = (unfold without in refl);
  even_more = even_more;
  same_none = λ b c. (unfold replies_in in refl);
  same_turned = same_turned;
  same_taken = same_taken;
  accounted = λ b c calls. steady_accounted b true c calls;
  alike = λ b c calls. both b true c calls;
}

-- what is flown behind the test flies
pub steady_flies : {c : IdentifyConfig} {steady : ℕ} {calls : List Call} {answers : List Reply} {k : Live} {first : Float} → SteadyFlown c steady calls answers k first
    → SteadyFlies c steady calls answers k first
steady_flies {c} {steady} {calls} {answers} {k} {first} f = flies_behind probe follows c steady calls answers k first f
