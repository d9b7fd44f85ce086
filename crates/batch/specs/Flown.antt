-- A flight, and what the calls of a run make of it, call by call. S says where a run stands after some of its calls, A has the answers of as many, and R the report after all.
use Rattle.std.specs.Prelude.{ℕ, suc, ◌+◌, ◌*◌, ◌/◌, ◌≤◌, ◌≡◌, List, ◌++◌, length, take, drop}
use Rattle.account.specs.declared.IdentifyConfig.{IdentifyConfig}
use Rattle.wire.specs.Words.{written_at}
use Rattle.batch.specs.declared.Sizes.{Sizes}
use Rattle.batch.specs.Batch.{onto}

abbrev pub Stand : Type 0 → Type 1
Stand F = IdentifyConfig → List ℕ → ℕ → F → Type 0

abbrev pub Answers : Type 0
Answers = IdentifyConfig → List ℕ → ℕ → List ℕ

abbrev pub Reported : Type 0
Reported = IdentifyConfig → List ℕ → List ℕ

abbrev pub report_and_answers : ℕ → Reported → Answers → IdentifyConfig → List ℕ → List ℕ
report_and_answers size R A c calls = R c calls ++ A c calls (length calls / size)

-- a call that is call k of some takes a flight that stands before it one call on, and its answer comes behind those before it
abbrev pub StepsOn : {F : Type 0} → ℕ → Stand F → Answers → (old new : F) → (call answer : List ℕ) → Type 0
StepsOn size S A old new call answer =
    (c : IdentifyConfig) (calls : List ℕ) (k : ℕ) → S c calls k old → call ≡ take size (drop (size * k) calls)
    → S c calls (suc k) new × (A c calls (suc k) ≡ A c calls k ++ answer)

-- the report of a flight that stands behind all calls
abbrev pub Reports : {F : Type 0} → ℕ → Stand F → Reported → F → (old new : List ℕ) → Type 0
Reports size S R flight old new =
    (c : IdentifyConfig) (calls : List ℕ) → S c calls (length calls / size) flight → new ≡ onto (R c calls) old

-- an output that holds the answers of the first k calls, behind the report's place, holds one more
abbrev pub FliesOn : {F : Type 0} → Sizes → Stand F → Answers → IdentifyConfig → (calls : List ℕ) → ℕ → (old new : F) → (before after : List ℕ) → Type 0
FliesOn s S A c calls k old new before after =
    (output : List ℕ) → s.report + s.answer * k ≤ length output → S c calls k old → length (A c calls k) ≡ s.answer * k → before ≡ written_at s.report (A c calls k) output
    → S c calls (suc k) new × (length (A c calls (suc k)) ≡ s.answer * suc k) × (after ≡ written_at s.report (A c calls (suc k)) output)
