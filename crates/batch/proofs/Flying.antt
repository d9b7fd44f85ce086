-- A flight goes on call by call: the output with one answer more, and with the report before all.
use Prim.Native.Nat.{ℕ, ◌+◌, ◌-◌, ◌*◌, ◌≤◌, ◌<◌}
use mathlib.Core.Path.{◌≡◌, sym, ap, ◌∙◌}
use mathlib.Core.List.{List, ◌++◌}
use native.Mathlib.Nat.{mul-suc, mul-le-mul_left}
use native.Mathlib.Omega.{arith}
use borrow.Rule.Slice.PartMut.{mid_of, put_mid, mid_len}
use lib.ListN.{length, take, drop, length-append}
use Rattle.account.specs.declared.IdentifyConfig.{IdentifyConfig}
use Rattle.wire.specs.Words.{written_at, written_within}
use Rattle.wire.proofs.Written.{copied, within, written_next, written_before, front_written}
use Rattle.batch.specs.declared.Sizes.{Sizes}
use Rattle.batch.specs.Batch.{onto}
use Rattle.batch.specs.Flown.{Stand, Answers, StepsOn, FliesOn}

-- the call's part of all calls
part : (at n : ℕ) → (at + n) - at ≡ n
part at n = omega arith

-- a call read from its part of all calls, whose answer is copied to its part of the output
module _ {F : Type 0} (s : Sizes) (S : Stand F) (A : Answers) (calls : List ℕ) (k from at : ℕ) (begin : from ≡ s.call * k) (place : at ≡ s.report + s.answer * k) where
  pub flies_on : {old new : F} (answer before : List ℕ) → length answer ≡ length (mid_of at ((at + s.answer) - at) before) → at + s.answer ≤ length before
      → StepsOn s.call S A old new (take ((from + s.call) - from) (drop from calls)) answer
      → (c : IdentifyConfig) → FliesOn s S A c calls k old new before (put_mid at ((at + s.answer) - at) before answer)
  flies_on answer before same room steps c output fits stands few is =
      let next = steps c calls k stands (ap (λ (n : ℕ). take n (drop from calls)) (part from s.call) ∙ ap (λ (i : ℕ). take s.call (drop i calls)) begin) in
      let long : length answer ≡ s.answer = same ∙ mid_len at (at + s.answer) before room ∙ part at s.answer in
      let there : put_mid at ((at + s.answer) - at) before answer ≡ written_at at answer before = copied at _ answer before (long ∙ sym (part at s.answer)) in
      (next.0, rw (next.1, length-append, few, long, mul-suc), there ∙ rw (place, is, next.1) (rw few at (written_next s.report (A c calls k) answer output (rw few fits))))

-- the next answer, behind those of the calls before it, is within the room for all
pub room : (report answer n k size : ℕ) → k < n → report + answer * n ≤ size → report + answer * k + answer ≤ size
room report answer n k size more h = omega (arith, mul-le-mul_left answer more, mul-suc answer k)

-- a report in front of the answers
pub report_before : (size : ℕ) (r ws l : List ℕ) → length r ≡ size → size + length ws ≤ length l → onto r (written_at size ws l) ≡ onto (r ++ ws) l
unfolding onto
report_before size r ws l e h =
    let there : size ≡ 0 + length r = omega arith in
    sym (front_written r (written_at size ws l))
    ∙ ap (λ (n : ℕ). written_at 0 r (written_at n ws l)) there
    ∙ written_before 0 r ws l (omega arith)
    ∙ front_written (r ++ ws) l

-- what is written to the front of an output, where it fits
pub at_front : (bytes l : List ℕ) → length bytes ≤ length l → written_within 0 bytes l ≡ onto bytes l
unfolding onto
at_front bytes l h = within 0 bytes l (omega arith) ∙ front_written bytes l
