-- A report whose model is finite wherever it tells of gain fits: as a reader takes them from its bytes, its six floats are.
use Prim.Native.Nat.{ℕ, zero, suc, ◌+◌, ◌*◌, ◌/◌, ◌%◌, ◌^◌, ◌≤◌, ◌<◌}
use mathlib.Core.Path.{◌≡◌, refl, sym, ap, ◌∙◌, subst}
use mathlib.Core.Bool.{true}
use mathlib.Core.List.{List, ◌++◌}
use native.Mathlib.Omega.{arith}
use lib.Dec.{lit<}
use lib.ListN.{length, get_or}
use lib.Ieee.{Float}
use Rattle.float.specs.Values.{finite}
use Rattle.wire.specs.Words.{word_bytes, word_of, float_at}
use Rattle.wire.proofs.Read.{word_read_before, float_read_before}
use Rattle.delay.specs.declared.RateModel.{RateModel}
use Rattle.finite_model.specs.FiniteModel.{FiniteF32, FiniteModel}
use Rattle.account.specs.declared.IdentifyStatus.{IdentifyStatus}
use Rattle.account.specs.declared.IdentifyStatus.TheVariants.{Running, Done, Unexcited, Saturated}
use Rattle.report.specs.declared.Report.{Report}
use Rattle.report.specs.Report.{kind_of, floats_of, fields_of, packed, report_bytes, kind_read, fits_read, TellsFinite}
use Rattle.report.proofs.Bytes.{first_small, kind_first, nine_words, nine, report_words}

last_bits : (r : Report) → packed 0 (fields_of r) % 2 ^ 32 / 8 % 2 ^ 12 ≡ r.gain_fits % 2 ^ 12
unfolding packed fields_of
last_bits r = omega arith

module _ (r : Report) (more : List ℕ) where
  abbrev n : ℕ
  n = packed 0 (fields_of r)

  abbrev words : List ℕ
  words = nine_words n r.status

  reads_kind : kind_read (report_bytes r ++ more) ≡ kind_of r.status
  reads_kind = ap (λ (l : List ℕ). kind_read (l ++ more)) (report_words r) ∙ rw (word_read_before words more 0 (rw (nine n r.status) (lit< tt)) (first_small r)) (kind_first r)

  reads_fits : fits_read (report_bytes r ++ more) ≡ r.gain_fits % 2 ^ 12
  reads_fits = ap (λ (l : List ℕ). fits_read (l ++ more)) (report_words r) ∙ rw (word_read_before words more 2 (rw (nine n r.status) (lit< tt)) (omega arith)) (last_bits r)

one : (ws more : List ℕ) (k : ℕ) (x : Float) → FiniteF32 x → k < length ws → get_or ws k 0 ≡ word_of x → finite (float_at (word_bytes ws ++ more) (4 * k)) ≡ true
one ws more k x f h e = rw (float_read_before ws more k x f.held h e) f.real

six : (n : ℕ) (m : RateModel) (more : List ℕ) → FiniteModel m → (k : ℕ) → k < 6 → finite (float_at (word_bytes (nine_words n (Done m)) ++ more) (12 + 4 * k)) ≡ true
unfolding floats_of
six n m more f zero h = one _ more 3 m.r1 f.r1 (lit< tt) refl
six n m more f (suc zero) h = one _ more 4 m.r2 f.r2 (lit< tt) refl
six n m more f (suc (suc zero)) h = one _ more 5 m.m0 f.m0 (lit< tt) refl
six n m more f (suc (suc (suc zero))) h = one _ more 6 m.m1 f.m1 (lit< tt) refl
six n m more f (suc (suc (suc (suc zero)))) h = one _ more 7 m.m2 f.m2 (lit< tt) refl
six n m more f (suc (suc (suc (suc (suc zero))))) h = one _ more 8 m.dt_s f.dt_s (lit< tt) refl
six n m more f (suc (suc (suc (suc (suc (suc k)))))) h = absurd (omega arith)

of_kind : (s : IdentifyStatus) → kind_of s ≡ 1 → (m : RateModel) × (s ≡ Done m)
unfolding kind_of
of_kind (Running e) h = absurd (omega arith)
of_kind (Done m) h = (m, refl)
of_kind Unexcited h = absurd (omega arith)
of_kind Saturated h = absurd (omega arith)

pub floats_told : (r : Report) (more : List ℕ) → ((m : RateModel) → r.status ≡ Done m → 1 ≤ r.gain_fits → FiniteModel m) → TellsFinite (report_bytes r ++ more)
floats_told r more f kind fits k h =
    let n = packed 0 (fields_of r) in
    let (m, done) = of_kind r.status (sym (reads_kind r more) ∙ kind) in
    subst (λ (l : List ℕ). finite (float_at (l ++ more) (12 + 4 * k)) ≡ true)
    (sym (report_words r ∙ ap (λ (s : IdentifyStatus). word_bytes (nine_words n s)) done))
    (six n m more (f m done (omega (arith, reads_fits r more))) k h)
