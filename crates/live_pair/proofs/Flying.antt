-- What is flown stands as the definitions' two probes do after the same calls, since what is written is read back. So it holds the accounts.
use Prim.Native.Nat.{ℕ, zero, suc, ◌≤◌}
use mathlib.Core.Path.{◌≡◌, refl, sym, ap, ap₂, subst, subst₂, fun_ext, ◌∙◌}
use Rattle.std.specs.Prelude.{Option, Some, None, Result}
use Rattle.rules.specs.declared.Rule.{Rule}
use mathlib.Core.List.{List, [], ◌∷◌, ◌++◌}
use native.Mathlib.Omega.{arith}
use lib.Ieee.{Float}
use Rattle.wire.specs.Words.{word_bytes}
use Rattle.window.specs.Samples.{capacity}
use Rattle.window.specs.Lent.{Lent, Whole, lent}
use Rattle.account.specs.declared.IdentifyConfig.{IdentifyConfig}
use Rattle.account.specs.Rules.{broken}
use Rattle.account.specs.Probe.{Reply, number, clock}
use Rattle.identify.specs.Seen.{seen, fresh_probe_at}
use Rattle.probe_report.specs.ProbeReport.{of_probe}
use Rattle.probe_words.specs.Layout.{Scalars, probe_in, scalars_of}
use Rattle.probe_words.proofs.Back.{back}
use Rattle.marks.specs.Marks.{marks_by, mark_bytes}
use Rattle.marks.proofs.Marks.{marks_back}
use Rattle.live_probe.specs.Live.{Live, live, live_probe}
use Rattle.live_probe.specs.Flown.{reply_by}
use Rattle.two_axis.specs.Axes.{Axis, first, second, TwoCall}
use Rattle.two_axis.specs.Probes.{Probes, fresh_two, step_two, moved, after_two, replies_two}
use Rattle.two_axis.specs.Accounts.{opened_two, account_two}
use Rattle.two_axis_probe.specs.Stepped.{Structs, Lents, TwoAnswer, probes_of, fresh_two_axis, probes_left, lents_left, two_ticked, either_number, number_in, two_answer_by, two_stepped_by, reply_two}
use Rattle.two_axis_probe.specs.Held.{Stands}
use Rattle.two_axis_probe.proofs.Flying.{begins, holds, replies_on, goes_on}
use Rattle.two_axis_report.specs.TwoReport.{report_two, reports_of}
use Rattle.two_axis_report.proofs.Reported.{reported_two}
use Rattle.two_axis_run.specs.TwoAxisRun.{in_turn, written}
use Rattle.live_pair.specs.Pair.{Pair, PairOpening, PairFlight, pair_probes, pair_lents, pair_opening, pair_open_by, pair_open, scalars_after_two, offset_after_two, pair_step, PairAnswers}
use Rattle.live_pair.specs.Flown.{PairFlown, by_open, by_step, PairFlies, PairFliesAnswering, WritesPairReportOf}

-- an opening that answers 0 wrote the fresh probes
opened_fresh : (b : ℕ) (c : IdentifyConfig) (s : Axis → Scalars) → (pair_open_by b c s).result ≡ 0 → (x : Axis) → (pair_open_by b c s).scalars x ≡ scalars_of (probes_of (fresh_two_axis c) x)
unfolding pair_open_by
opened_fresh zero c s e x = refl
opened_fresh (suc n) c s e x = absurd (omega arith)

fresh_back : (c : IdentifyConfig) (x : Axis) → probe_in (scalars_of (probes_of (fresh_two_axis c) x)) ≡ probes_of (fresh_two_axis c) x
unfolding fresh_probe_at
fresh_back c first = back (probes_of (fresh_two_axis c) first) (omega arith)
fresh_back c second = back (probes_of (fresh_two_axis c) second) (omega arith)

-- the probe that is read after a call is the one that the call leaves
module _ (s : Axis → Scalars) (l : Lents) (y : TwoCall) where
  abbrev held : Structs
  held x = probe_in (s x)

  abbrev ReadsOn : TwoAnswer → Axis → Type 0
  ReadsOn a x = (probes_left a x).window.len ≤ capacity → probe_in (scalars_after_two a.answer (probes_left a) x (s x)) ≡ probes_left a x

  reads_by : (n : ℕ) (t u : Option Float) (x : Axis) → ReadsOn (two_answer_by n t u held l y) x
  unfolding two_answer_by two_ticked scalars_after_two
  reads_by (suc n) t u first h = refl
  reads_by (suc n) t u second h = refl
  reads_by zero None u first h = refl
  reads_by zero None u second h = refl
  reads_by zero (Some e) None first h = refl
  reads_by zero (Some e) None second h = refl
  reads_by zero (Some e) (Some d) x h = back _ h

  reads : (x : Axis) → ReadsOn (two_stepped_by held l y) x
  unfolding two_stepped_by
  reads x = reads_by (either_number (number_in held y.dt first) (number_in held y.dt second)) (clock (held first).status) (clock (held second).status) x

-- the number and the offset are the reply
module _ (p : Structs) (l : Lents) (y : TwoCall) (found : Float) (x : Axis) where
  replies_by : (n : ℕ) (t u : Option Float) → let r = (two_answer_by n t u p l y).answer in reply_by (number (reply_two r first)) (offset_after_two r x found) ≡ reply_two r x
  unfolding two_answer_by two_ticked reply_by number reply_two offset_after_two
  replies_by (suc n) t u = refl
  replies_by zero None u = refl
  replies_by zero (Some e) None = refl
  replies_by zero (Some e) (Some d) = refl

  replied : let r = (two_stepped_by p l y).answer in reply_by (number (reply_two r first)) (offset_after_two r x found) ≡ reply_two r x
  unfolding two_stepped_by
  replied = replies_by (either_number (number_in p y.dt first) (number_in p y.dt second)) (clock (p first).status) (clock (p second).status)

-- the definitions' replies to one call more
replies_more : (p : Probes) (calls : List TwoCall) (y : TwoCall) (x : Axis) → replies_two p (calls ++ (y ∷ [])) x ≡ replies_two p calls x ++ ((step_two (after_two p calls) y x).reply ∷ [])
unfolding replies_two
replies_more p [] y x = refl
replies_more p (c ∷ calls) y x = ap (λ (rs : List Reply). (step_two p c x).reply ∷ rs) (replies_more (moved p c) calls y x)

-- one call of probes that stand so
module _ {c : IdentifyConfig} {calls : List TwoCall} (k next : Pair) (y : TwoCall) (found : Axis → Float) (st : Stands c calls (pair_probes k) (pair_lents k)) where
  pub answers_on : (x : Axis) → reply_by (pair_step k y found).result ((pair_step k y found).offset x) ≡ (step_two (after_two (fresh_two c) calls) y x).reply
  unfolding pair_step
  answers_on x = replied (pair_probes k) (pair_lents k) y (found x) x ∙ replies_on st y x

  module _ (left : (x : Axis) → next x ≡ (pair_step k y found).left x) where
    abbrev answer : TwoAnswer
    answer = two_stepped_by (pair_probes k) (pair_lents k) y

    left_is : (x : Axis) → next x ≡ live (scalars_after_two answer.answer (probes_left answer) x (k x).scalars) (lents_left answer x)
    unfolding pair_step
    left_is = left

    read : (x : Axis) → live_probe (next x) ≡ probes_left answer x
    read x = ap live_probe (left_is x) ∙ reads (λ x. (k x).scalars) (pair_lents k) y x ((goes_on st y).within x)

    lents : (x : Axis) → (next x).lent ≡ lents_left answer x
    lents x = ap (λ (z : Live). z.lent) (left_is x)

    stands_on : Stands c (calls ++ (y ∷ [])) (pair_probes next) (pair_lents next)
    stands_on = subst₂ (λ (p : Structs) (l : Lents). Stands c (calls ++ (y ∷ [])) p l) (sym (fun_ext read)) (sym (fun_ext lents)) (goes_on st y)

-- an opening that answered 0
opened_stands : {c : IdentifyConfig} (s t : Axis → Scalars) (l : Axis → Lent) → pair_opening 0 t ≡ pair_open 0 c s → ((x : Axis) → Whole (l x)) → Stands c [] (λ x. probe_in (t x)) l
unfolding pair_open
opened_stands {c} s t l e w =
    let zero_is = sym (ap (λ (o : PairOpening). o.result) e) in
    let fresh : (x : Axis) → probe_in (t x) ≡ probes_of (fresh_two_axis c) x = λ x. ap (λ (o : PairOpening). probe_in (o.scalars x)) e ∙ ap probe_in (opened_fresh (broken c) c s zero_is x) ∙ fresh_back c x in
    subst (λ (p : Structs). Stands c [] p l) (sym (fun_ext fresh)) (begins c l w)

pub stands : {c : IdentifyConfig} {calls : List TwoCall} {answers : Axis → List Reply} {k : Pair} → PairFlown c calls answers k
    → Stands c calls (pair_probes k) (pair_lents k) × ((x : Axis) → answers x ≡ replies_two (fresh_two c) calls x)
unfolding replies_two
stands (by_open s {t} {l} e w) = (opened_stands s t l e w, λ x. refl)
stands {c} (by_step {calls} {answers} {k} {next} {n} {offset} found y f is) =
    let (st, rs) = stands f in (
      stands_on k next y found st (λ x. ap (λ (z : PairFlight). z.left x) is),
      λ x. ap₂ (λ (said : List Reply) (r : Reply). said ++ (r ∷ [])) (rs x) (ap (λ (z : PairFlight). reply_by z.result (z.offset x)) is ∙ answers_on k next y found st x) ∙ sym (replies_more (fresh_two c) calls y x),
    )

-- the claim over every list of calls
pub flies : {c : IdentifyConfig} {calls : List TwoCall} {answers : Axis → List Reply} {k : Pair} → PairFlown c calls answers k → PairFlies c calls answers k
unfolding written
flies {c} {calls} {answers} f =
    let h = holds (stands f).0 in
    let rs = (stands f).1 in
    record {
      holds = h;
      answered = rs;
      run = ap₂ (λ (report words : List ℕ). report ++ word_bytes words) (sym (reported_two h.accounted)) (sym (ap₂ in_turn (rs first) (rs second)));
    }

-- the same, as `open` and `step` ensure it
pub begun : (options : ℕ) (c : IdentifyConfig) (s t : Axis → Scalars) (n : ℕ) → pair_opening n t ≡ pair_open options c s
    → n ≡ 0 → (l : Axis → Lent) → ((x : Axis) → Whole (l x)) → PairFlies c [] (λ x. []) (λ x. live (t x) (l x))
begun zero c s t n e z l w = flies (by_open s (rw z at e) w)
begun (suc options) c s t n e z l w = absurd (let nine : n ≡ 9 = unfold pair_open in ap (λ (o : PairOpening). o.result) e in omega arith)

pub flies_on : (k : Pair) (y : TwoCall) (r : Result (Float × Float) Rule) (next : Pair) → PairAnswers k y r next → PairFliesAnswering k y r next
flies_on k y r next e found c calls answers f = flies (by_step found y f (e found))

-- the report of what is flown, its marks read from their bytes, is the one that the accounts ask for
pub reports : {c : IdentifyConfig} {calls : List TwoCall} {answers : Axis → List Reply} (s : Axis → Scalars) (l : Axis → Lent) (rates : Axis → List Float) (bytes : Axis → List ℕ)
    → PairFlown c calls answers (λ x. live (s x) (l x)) → ((x : Axis) → rates x ≡ (l x).rates) → ((x : Axis) → bytes x ≡ mark_bytes (l x).marks)
    → report_two (λ x. of_probe (seen (probe_in (s x)) (lent (rates x) (l x).moments (l x).offsets (marks_by (bytes x))))) ≡ report_two (reports_of (account_two (opened_two c) calls))
reports {c} {calls} s l rates bytes f er em =
    let same : (x : Axis) → lent (rates x) (l x).moments (l x).offsets (marks_by (bytes x)) ≡ l x = λ x. rw (er x, em x, marks_back (l x).marks) in
    ap report_two (fun_ext (λ x. ap (λ (m : Lent). of_probe (seen (probe_in (s x)) m)) (same x))) ∙ reported_two (flies f).holds.accounted

-- the report of probes that are the same
pub same_report : (p q : Structs) (rates : Axis → List Float) (marks : Axis → List ℕ) (output left : List ℕ) → ((x : Axis) → p x ≡ q x) → WritesPairReportOf p rates marks output left
    → WritesPairReportOf q rates marks output left
same_report p q rates marks output left same = subst (λ (r : Structs). WritesPairReportOf r rates marks output left) (fun_ext same)
