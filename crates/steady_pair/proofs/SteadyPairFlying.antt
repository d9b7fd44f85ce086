-- A pair behind the test follows the plain pair of the definitions.
use mathlib.Core.Path.{◌≡◌, refl, sym, ap, ap₂, fun_ext, ◌∙◌}
use Rattle.std.specs.Prelude.{ℕ, suc, Bool, true, false, ◌&&◌, cond, eqb, List, [], ◌∷◌, ◌++◌, length, Float}
use Rattle.account.specs.declared.IdentifyConfig.{IdentifyConfig}
use Rattle.account.specs.Probe.{Probe, Reply, number, clock}
use Rattle.identify.specs.Seen.{seen}
use Rattle.two_axis.specs.Axes.{Axis, first, second, TwoCall, tied}
use Rattle.two_axis.specs.Probes.{Probes, fresh_two, step_two, moved, after_two}
use Rattle.two_axis.specs.Probes as probes
use Rattle.steady.specs.declared.Band.{Band}
use Rattle.steady.specs.Guarded.{Guarded, without, next_in}
use Rattle.steady.specs.Steady.{is_running, probe_runs}
use Rattle.steady.specs.TwoSteady.{two_dt, probes_run, probes_number, fresh_two_in, probes_in, reply_two_in, replies_two_in}
use Rattle.steady.proofs.Ends.{length_numbers, kept_end}
use Rattle.steady.proofs.TwoSteady.{probes_not_ten, alikes, steady_two_accounted}
use Rattle.live_probe.specs.Live.{live_probe}
use Rattle.live_probe.specs.Flown.{reply_by}
use Rattle.live_pair.specs.Pair.{Pair, PairFlight, pair_open, pair_flight, pair_step}
use Rattle.live_pair.specs.Flown.{PairFlown, by_open, by_step}
use Rattle.live_pair.proofs.Flying.{stands, flies, answers_on}
use Rattle.steady_probe.specs.SteadyLive.{runs_in}
use Rattle.steady_pair.specs.SteadyPairFlown.{SteadyPairFlown, SteadyPairFlies}
use Rattle.steady_probe.proofs.Flying.{Model, Follows, N, Turned, end_by, flies_behind}
use Rattle.steady_probe.proofs.SteadyFlying.{accepted_above, number_by}
use Rattle.steady_pair.specs.SteadyPair.{pair_runs, double}

-- one call more at the end of a list: each axis's reply comes last
replies_more : (x : Axis) (y : TwoCall) (cs : List TwoCall) (p : Guarded Probes) → replies_two_in p (cs ++ (y ∷ [])) x ≡ replies_two_in p cs x ++ (reply_two_in (probes_in p cs) y x ∷ [])
unfolding replies_two_in
replies_more x y [] p = refl
replies_more x y (c ∷ cs) p = ap (λ (l : List Reply). reply_two_in p c x ∷ l) (replies_more x y cs (next_in probes_run two_dt probes_number moved p c))

length_replies : (x : Axis) (cs : List TwoCall) (p : Guarded Probes) → length (replies_two_in p cs x) ≡ length cs
unfolding replies_two_in
length_replies x [] p = refl
length_replies x (c ∷ cs) p = ap suc (length_replies x cs (next_in probes_run two_dt probes_number moved p c))

abbrev pub pair : Model double
pair = record { State = Probes; fresh = fresh_two; runs = probes_run; number = probes_number; next = moved; Replies = λ n offset p y. (x : Axis) → reply_by n (offset x) ≡ (step_two p y x).reply }

runs_one : (c : IdentifyConfig) (calls : List TwoCall) (answers : Axis → List Reply) (k : Pair) → PairFlown c calls answers k → (x : Axis)
    → runs_in (live_probe (k x)) ≡ probe_runs (after_two (fresh_two c) calls x)
unfolding seen
runs_one c calls answers k f x = ap (λ (q : Probe). is_running (clock q.standing.status)) ((stands f).0.seen x)

runs_alike : (c : IdentifyConfig) (calls : List TwoCall) (answers : Axis → List Reply) (k : Pair) → PairFlown c calls answers k → pair_runs k ≡ probes_run (after_two (fresh_two c) calls)
runs_alike c calls answers k f = ap₂ (λ (a b : Bool). a && b) (runs_one c calls answers k f first) (runs_one c calls answers k f second)

replied : (c : IdentifyConfig) (calls : List TwoCall) (answers : Axis → List Reply) (k next : Pair) (n : ℕ) (found offset : Axis → Float) (y : TwoCall) → PairFlown c calls answers k
    → pair_flight n offset next ≡ pair_step k y found → (x : Axis) → reply_by n (offset x) ≡ (step_two (after_two (fresh_two c) calls) y x).reply
replied c calls answers k next n found offset y f is x = ap (λ (z : PairFlight). reply_by z.result (z.offset x)) is ∙ answers_on k next y found (stands f).0 x

even_more : (b : Band) (c : IdentifyConfig) (calls : List TwoCall) (answers : Axis → List Reply) (j n : ℕ) (offset : Axis → Float) → ((x : Axis) → answers x ≡ replies_two_in (fresh_two_in b c) calls x) → (x : Axis)
    → without 10 (N pair b c calls ++ (j ∷ [])) (answers x ++ (reply_by n (offset x) ∷ []))
    ≡ cond {A = Axis → List Reply} (eqb j 10) (λ x. without 10 (N pair b c calls) (answers x)) (λ x. without 10 (N pair b c calls) (answers x) ++ (reply_by n (offset x) ∷ [])) x
even_more b c calls answers j n offset h x =
    kept_end 10 j (reply_by n (offset x)) (N pair b c calls) (answers x) (length_numbers probes_run two_dt probes_number moved calls (fresh_two_in b c) ∙ sym (length_replies x calls (fresh_two_in b c)) ∙ ap length (sym (h x)))
    ∙ end_by (eqb j 10) (without 10 (N pair b c calls) (answers x)) (reply_by n (offset x))
    ∙ at_axis (eqb j 10)
  where
    at_axis : (t : Bool) → cond t (without 10 (N pair b c calls) (answers x)) (without 10 (N pair b c calls) (answers x) ++ (reply_by n (offset x) ∷ []))
        ≡ cond {A = Axis → List Reply} t (λ x. without 10 (N pair b c calls) (answers x)) (λ x. without 10 (N pair b c calls) (answers x) ++ (reply_by n (offset x) ∷ [])) x
    at_axis true = refl
    at_axis false = refl

same_turned : (b : Band) (c : IdentifyConfig) (calls : List TwoCall) (answers : Axis → List Reply) (offset : Axis → Float) (y : TwoCall) → ((x : Axis) → answers x ≡ replies_two_in (fresh_two_in b c) calls x)
    → Turned pair b c calls y ≡ true → (x : Axis) → answers x ++ (reply_by 10 (offset x) ∷ []) ≡ replies_two_in (fresh_two_in b c) (calls ++ (y ∷ [])) x
unfolding reply_two_in reply_by
same_turned b c calls answers offset y is h x = rw (replies_more x y calls (fresh_two_in b c), h, is x) refl

same_taken : (b : Band) (c : IdentifyConfig) (calls : List TwoCall) (answers : Axis → List Reply) (n : ℕ) (offset : Axis → Float) (y : TwoCall) → ((x : Axis) → answers x ≡ replies_two_in (fresh_two_in b c) calls x)
    → Turned pair b c calls y ≡ false → ((x : Axis) → reply_by n (offset x) ≡ (step_two (probes_in (fresh_two_in b c) calls).inner y x).reply)
    → (x : Axis) → answers x ++ (reply_by n (offset x) ∷ []) ≡ replies_two_in (fresh_two_in b c) (calls ++ (y ∷ [])) x
unfolding reply_two_in
same_taken b c calls answers n offset y is h r x = rw (replies_more x y calls (fresh_two_in b c), h, r x, is x) refl

pub follows : Follows pair
follows = record {
  not_ten = probes_not_ten;
  above = λ p y h. accepted_above (p first) (tied probes.wishes p y first) h;
  numbered = λ n offset p y r. sym (number_by n (offset first)) ∙ ap number (r first);
  nine = λ options c s. (unfold pair_open in refl);
  opens = λ c s t l e w. by_open s e w;
  steps = λ c calls answers k next n found offset y f e. by_step found y f e;
  runs = runs_alike;
  replies = replied;
  flies = λ c calls answers k f. flies f;
  even_none = fun_ext (λ x. (unfold without in refl));
  even_more = λ b c calls answers j n offset h. fun_ext (even_more b c calls answers j n offset h);
  same_none = λ b c x. (unfold replies_two_in in refl);
  same_turned = same_turned;
  same_taken = same_taken;
  accounted = steady_two_accounted;
  alike = alikes;
}

-- what is flown behind the test flies
pub steady_pair_flies : {c : IdentifyConfig} {steady : ℕ} {calls : List TwoCall} {answers : Axis → List Reply} {k : Pair} {dt : Float} → SteadyPairFlown c steady calls answers k dt
    → SteadyPairFlies c steady calls answers k dt
steady_pair_flies {c} {steady} {calls} {answers} {k} {dt} f = flies_behind pair follows c steady calls answers k dt f
