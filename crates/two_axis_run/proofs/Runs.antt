-- A run goes on call by call: where one more call leaves it, and its words.
use Prim.Native.Nat.{ℕ}
use mathlib.Core.Path.{◌≡◌, refl, ap, fun_ext, ◌∙◌}
use mathlib.Core.List.{List, [], ◌∷◌, ◌++◌}
use Rattle.wire.specs.Words.{word_bytes}
use Rattle.wire.proofs.Bytes.{words_append}
use Rattle.window.specs.Lent.{Whole}
use Rattle.window.specs.declared.LentArrays.{LentArrays}
use Rattle.account.specs.declared.IdentifyConfig.{IdentifyConfig}
use Rattle.report.specs.declared.Report.{Report}
use Rattle.probe_report.specs.ProbeReport.{of_probe}
use Rattle.byte_run.specs.ByteRun.{reply_word}
use Rattle.two_axis.specs.Axes.{Axis, first, second, axes, TwoCall}
use Rattle.two_axis.specs.Probes.{Probes, fresh_two, step_two, moved, after_two, replies_two}
use Rattle.two_axis.specs.Accounts.{opened_two, account_two}
use Rattle.two_axis_probe.specs.declared.TwoAxisProbe.{TwoAxisProbe}
use Rattle.two_axis_probe.specs.Stepped.{Structs, Lents, probes_of, lents_of, fresh_two_axis, seen_two, answer_of, LeavesTwo}
use Rattle.two_axis_probe.specs.Held.{Stands, HoldsTwo}
use Rattle.two_axis_probe.proofs.Flying.{by_axis, begins, holds, replies_on, goes_on}
use Rattle.two_axis_report.specs.TwoReport.{report_two, reports_of}
use Rattle.two_axis_report.proofs.Reported.{reported_two}
use Rattle.two_axis_calls.specs.Calls.{answer_words}
use Rattle.two_axis_run.specs.TwoAxisRun.{in_turn, words_of}
use Rattle.two_axis_run.specs.Calls.{answer_bytes, StandsAfter}

-- the words of the calls of two probes, and of one call more
abbrev words_from : Probes → List TwoCall → List ℕ
words_from p calls = in_turn (replies_two p calls first) (replies_two p calls second)

abbrev step_words : Probes → TwoCall → List ℕ
step_words p c = reply_word (step_two p c first).reply ∷ reply_word (step_two p c second).reply ∷ []

words_more : (p : Probes) (calls : List TwoCall) (c : TwoCall) → words_from p (calls ++ (c ∷ [])) ≡ words_from p calls ++ step_words (after_two p calls) c
unfolding replies_two in_turn
words_more p [] c = refl
words_more p (x ∷ calls) c = ap (λ (ws : List ℕ). reply_word (step_two p x first).reply ∷ reply_word (step_two p x second).reply ∷ ws) (words_more (moved p x) calls c)

-- who stands so holds the accounts
stands_after : {c : IdentifyConfig} {calls : List TwoCall} {p : TwoAxisProbe} {lent1 lent2 : LentArrays} → Stands c calls (probes_of p) (lents_of lent1 lent2) → StandsAfter c calls p lent1 lent2
stands_after s = record { stands = s; holds = holds s }

-- two probes just made
pub begins_run : {c : IdentifyConfig} {p : TwoAxisProbe} {lent1 lent2 : LentArrays} → p ≡ fresh_two_axis c → ((x : Axis) → Whole (lents_of lent1 lent2 x)) → StandsAfter c [] p lent1 lent2
begins_run {c = c} {lent1 = lent1} {lent2 = lent2} e w = rw e (stands_after (begins c (lents_of lent1 lent2) w))

module _ {c : IdentifyConfig} {calls : List TwoCall} {p : TwoAxisProbe} {lent1 lent2 : LentArrays} (h : StandsAfter c calls p lent1 lent2) (x : TwoCall) where
  pub runs_on : {q : TwoAxisProbe} {after1 after2 : LentArrays} → LeavesTwo p q lent1 after1 lent2 after2 (answer_of p lent1 lent2 x) → StandsAfter c (calls ++ (x ∷ [])) q after1 after2
  runs_on k = stands_after (rw (k.first, k.second, k.lent1.contents, k.lent2.contents) (goes_on h.stands x))

  pub answers_more : answer_bytes c (calls ++ (x ∷ [])) ≡ answer_bytes c calls ++ word_bytes (answer_words (answer_of p lent1 lent2 x).answer)
  answers_more = rw (words_more (fresh_two c) calls x, ← replies_on h.stands x first, ← replies_on h.stands x second) (words_append (words_of c calls) _)

-- the reports of probes that hold the accounts are the accounts'
module _ {c : IdentifyConfig} {calls : List TwoCall} {p : Structs} {l : Lents} (h : HoldsTwo c calls p l (account_two (opened_two c) calls)) where
  pub reports_are : {r s : Report} → r ≡ of_probe (seen_two p l first) → s ≡ of_probe (seen_two p l second) → report_two (axes r s) ≡ report_two (reports_of (account_two (opened_two c) calls))
  reports_are {r = r} {s = s} e f = ap report_two (fun_ext (by_axis (λ (x : Axis). axes r s x ≡ of_probe (seen_two p l x)) e f)) ∙ reported_two h.accounted
