-- What is flown is made: the probe in the scalars is the one that `new` and `step` made of the same calls, since what is written is read back.
-- So it holds the account, and a byte run of the same calls writes its report and its answers.
use Prim.Native.Nat.{ℕ, zero, suc, ◌≤◌}
use mathlib.Core.Path.{◌≡◌, refl, sym, ap, ◌∙◌}
use Rattle.std.specs.Prelude.{Option, Some, None, Result, Ok}
use Rattle.rules.specs.declared.Rule.{Rule}
use mathlib.Core.List.{List, []}
use native.Mathlib.Omega.{arith}
use lib.Ieee.{Float}
use Rattle.window.specs.Samples.{capacity}
use Rattle.window.specs.Lent.{Lent, Whole, lent}
use Rattle.account.specs.declared.IdentifyConfig.{IdentifyConfig}
use Rattle.account.specs.Rules.{broken, refusal}
use Rattle.account.specs.Probe.{Call, Probe, Reply, Step, number, clock, fresh, step, after, replies}
use Rattle.account.specs.Account.{opened as opened_account, account}
use Rattle.identify.specs.declared.IdentifyProbe.{IdentifyProbe}
use Rattle.identify.specs.Seen.{seen, fresh_probe_at, fresh_probe, opened_by, ticked, answer_by, stepped_by, reply_of}
use Rattle.identify.specs.Made.{Made, by_new}
use Rattle.identify.specs.Made as make
use Rattle.identify.proofs.Stepping.{steps}
use Rattle.identify.proofs.Making.{makes, accounts}
use Rattle.probe_report.specs.ProbeReport.{of_probe, of_account}
use Rattle.probe_report.proofs.Reported.{reported}
use Rattle.byte_run.specs.ByteRun.{written}
use Rattle.byte_run.proofs.Runs.{replies_more}
use Rattle.probe_words.specs.Layout.{Scalars, probe_in, scalars_of}
use Rattle.probe_words.proofs.Back.{back}
use Rattle.marks.specs.Marks.{marks_by, mark_bytes}
use Rattle.marks.proofs.Marks.{marks_back}
use Rattle.live_probe.specs.Live.{Live, Flight, Opening, live, live_probe, opening, open_by, live_open, flight, scalars_after, offset_after, live_step, Stepped}
use Rattle.live_probe.specs.Flown.{Flown, by_open, by_step, Flies, reply_by, StepsFlight}

-- an opening that answers 0 wrote the fresh probe
opened_fresh : (b : ℕ) (c : IdentifyConfig) (s t : Scalars) → opening 0 t ≡ open_by b c s → (Ok (fresh_probe c) ≡ opened_by b c) × (t ≡ scalars_of (fresh_probe c))
unfolding open_by opened_by
opened_fresh zero c s t e = (refl, ap (λ (o : Opening Scalars). o.scalars) e)
opened_fresh (suc n) c s t e = absurd (let z : 0 ≡ suc n = ap (λ (o : Opening Scalars). o.result) e in omega arith)

fresh_back : (c : IdentifyConfig) → probe_in (scalars_of (fresh_probe c)) ≡ fresh_probe c
fresh_back c = back (fresh_probe c) (unfold fresh_probe_at in omega arith)

-- the probe that is read after a call is the one that the call leaves
module _ (l : Lent) (y : Call) (s : Scalars) where
  reads_by : (n : ℕ) (t : Option Float) → let a = answer_by n t (probe_in s) l y in a.probe.window.len ≤ capacity → probe_in (scalars_after a.answer a.probe s) ≡ a.probe
  unfolding answer_by ticked scalars_after
  reads_by (suc n) t h = refl
  reads_by zero None h = refl
  reads_by zero (Some e) h = back _ h

  reads : let a = stepped_by (probe_in s) l y in a.probe.window.len ≤ capacity → probe_in (scalars_after a.answer a.probe s) ≡ a.probe
  unfolding stepped_by
  reads = let e = clock (probe_in s).status in reads_by (refusal e (probe_in s).ticks y.dt) e

-- the number and the offset are the reply
module _ (p : IdentifyProbe) (l : Lent) (y : Call) (found : Float) where
  replies_by : (n : ℕ) (t : Option Float) → let r = (answer_by n t p l y).answer in reply_by (number (reply_of r)) (offset_after r found) ≡ reply_of r
  unfolding answer_by ticked reply_by number reply_of offset_after
  replies_by (suc n) t = refl
  replies_by zero None = refl
  replies_by zero (Some e) = refl

  replied : let r = (stepped_by p l y).answer in reply_by (number (reply_of r)) (offset_after r found) ≡ reply_of r
  unfolding stepped_by
  replied = let e = clock p.status in replies_by (refusal e p.ticks y.dt) e

-- the reply of a call of what is seen
pub replies_so : (c : IdentifyConfig) (calls : List Call) (k next : Live) (n : ℕ) (found x : Float) (y : Call) → seen (live_probe k) k.lent ≡ after (fresh c) calls → Whole k.lent
    → flight n x next ≡ live_step k y found → reply_by n x ≡ (step (after (fresh c) calls) y).reply
unfolding live_step
replies_so c calls k next n found x y sees whole is =
    rw (ap (λ (z : Flight Float Live). z.result) is, ap (λ (z : Flight Float Live). z.offset) is)
    (replied (live_probe k) k.lent y found ∙ ap (λ (z : Step). z.reply) (steps (live_probe k) k.lent y whole) ∙ ap (λ (q : Probe). (step q y).reply) sees)

pub made : {c : IdentifyConfig} {calls : List Call} {answers : List Reply} {k : Live} → Flown c calls answers k → Made c calls (live_probe k) k.lent × (answers ≡ replies (fresh c) calls)
unfolding replies
made {c} (by_open s {t} e w) =
    let (o, is) = opened_fresh (broken c) c s t (unfold live_open in e) in
    (by_new (ap Ok (ap probe_in is ∙ fresh_back c) ∙ o) w, refl)
made {c} (by_step {calls} {answers} {k} {next} {n} {x} found y f e) =
    let (m, rs) = made f in
    let (sees, whole, _) = makes m in
    let p = live_probe k in
    let a = stepped_by p k.lent y in
    let more = make.by_step {q = a.probe} {k = a.lent} y m refl refl in
    let is : flight n x next ≡ flight (number (reply_of a.answer)) (offset_after a.answer found) (live (scalars_after a.answer a.probe k.scalars) a.lent) = unfold live_step in e in
    let left = ap (λ (z : Flight Float Live). z.left) is in
    let read = ap live_probe left ∙ reads k.lent y k.scalars (makes more).2 in (
      rw (read, ap (λ (z : Live). z.lent) left) more,
      rw (rs, replies_so c calls k next n found x y sees whole e) (sym (replies_more (fresh c) calls y)),
    )

-- demand 3 over every list of calls
pub flies : {c : IdentifyConfig} {calls : List Call} {answers : List Reply} {k : Live} → Flown c calls answers k → Flies c calls answers k
unfolding written
flies f =
    let (m, rs) = made f in
    let h = accounts m in
    record {
      holds = h;
      answered = rs;
      run = rw (rs, reported h.accounted);
    }

-- the same, as `open` and `step` ensure it
pub begun : (options : ℕ) (c : IdentifyConfig) (s t : Scalars) (n : ℕ) → opening n t ≡ live_open options c s → n ≡ 0 → (l : Lent) → Whole l → Flies c [] [] (live t l)
unfolding live_open
begun zero c s t n e z l w = flies (by_open s (rw z at e) w)
begun (suc options) c s t n e z l w = absurd (let nine : n ≡ 9 = ap (λ (o : Opening Scalars). o.result) e in omega arith)

pub flies_on : (k : Live) (y : Call) (r : Result Float Rule) (next : Live) → Stepped k y r next → StepsFlight k y r next
flies_on k y r next e found c calls answers f = flies (by_step found y f (e found))

-- the report of what is flown, its marks read from their bytes, is the one that the account asks for
pub reports : {c : IdentifyConfig} {calls : List Call} {answers : List Reply} (s : Scalars) (l : Lent) (rates : List Float) (bytes : List ℕ) → Flown c calls answers (live s l)
    → rates ≡ l.rates → bytes ≡ mark_bytes l.marks
    → of_probe (seen (probe_in s) (lent rates l.moments l.offsets (marks_by bytes))) ≡ of_account (account (opened_account c) calls)
reports s l rates bytes f er em = rw (er, em, marks_back l.marks) (reported (flies f).holds.accounted)
