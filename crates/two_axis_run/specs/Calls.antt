-- The calls of a run of two axes: the bytes of their answers, the report after them, and where they leave the probe and its arrays.
use Rattle.std.specs.Prelude.{ℕ, ◌≡◌, List, [], refl}
use Rattle.wire.specs.Words.{word_bytes}
use Rattle.window.specs.declared.LentArrays.{LentArrays}
use Rattle.account.specs.declared.IdentifyConfig.{IdentifyConfig}
use Rattle.two_axis.specs.Axes.{TwoCall}
use Rattle.two_axis.specs.Probes.{replies_two}
use Rattle.two_axis.specs.Accounts.{opened_two, account_two}
use Rattle.two_axis_probe.specs.declared.TwoAxisProbe.{TwoAxisProbe}
use Rattle.two_axis_probe.specs.Stepped.{probes_of, lents_of}
use Rattle.two_axis_probe.specs.Held.{Stands, HoldsTwo}
use Rattle.two_axis_report.specs.TwoReport.{report_two, reports_of}
use Rattle.batch.specs.Calls as batch
use Rattle.two_axis_run.specs.TwoAxisRun.{calls_to, in_turn, words_of}

abbrev pub answer_bytes : IdentifyConfig → List TwoCall → List ℕ
answer_bytes c calls = word_bytes (words_of c calls)

pub no_answers : (c : IdentifyConfig) (bytes : List ℕ) → answer_bytes c (calls_to bytes 0) ≡ []
unfolding batch.calls_to replies_two in_turn word_bytes
no_answers c bytes = refl

abbrev pub report_of : IdentifyConfig → List TwoCall → List ℕ
report_of c calls = report_two (reports_of (account_two (opened_two c) calls))

-- after these calls the probe and its arrays hold the two accounts
abbrev pub HoldsAfter : IdentifyConfig → List TwoCall → TwoAxisProbe → (lent1 lent2 : LentArrays) → Type 0
HoldsAfter c calls p lent1 lent2 = HoldsTwo c calls (probes_of p) (lents_of lent1 lent2) (account_two (opened_two c) calls)

-- since they stand where the definitions' probes do
pub record StandsAfter (c : IdentifyConfig) (calls : List TwoCall) (p : TwoAxisProbe) (lent1 lent2 : LentArrays) : Type 0 where
  pub stands : Stands c calls (probes_of p) (lents_of lent1 lent2)
  pub holds : HoldsAfter c calls p lent1 lent2
