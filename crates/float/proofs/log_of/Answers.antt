-- `float::log_of` meets its contract: `Counted` has what its digits and its top are, and `log_high` and `log_low` what each branch works out.
use Rattle.std.proofs.Common.{ℕ, ◌+◌, ◌-◌, ◌^◌, ◌≤◌, T, pos, ap, ◌∙◌, arith, le→leb, lit<}
use lib.Ieee.{binary64, in_float, of_int}
use Rattle.float.specs.Narrow.{narrowed}
use Rattle.float.proofs.Rounding.{zeros_of}
use Rattle.float.proofs.WholeNumbers.{minus_i64, pred_i64}
use Rattle.float.proofs.LogFields.{counted, log_high, log_low}
use Rattle.float.proofs.log_of.Goals as goal
use Rattle.float.proofs.log_of.Goals.{then-top-m, else-top-m}

held : (n : ℕ) → n ≤ 2 ^ 53 → T (in_float binary64 (pos n))
unfolding in_float
held n h = le→leb n (2 ^ 53) h

pub overflow_shl-top : goal.overflow_shl-top
overflow_shl-top c = let k = counted c.args.m c.requires.0 c.requires.1 in omega arith

pub overflow_mul-top : goal.overflow_mul-top
overflow_mul-top c = let k = counted c.args.m c.requires.0 c.requires.1 in omega arith

pub int_to_float-top : goal.int_to_float-top
int_to_float-top c = held _ (let k = counted c.args.m c.requires.0 c.requires.1 in omega arith)

pub returns : goal.returns
returns c =
    let a = c.args in
    let k = a.e + (64 - zeros_of a.m) in
    c.narrow.ensures
    ∙ ap narrowed
    (c.log_from.ensures
    ∙ elim c.if-top-m.branch [
      | then-top-m w ↦ rw w.m-is (log_high a.m a.e c.requires.0 c.requires.1 _ (ap (of_int binary64) (minus_i64 k 149 (omega arith) (lit< tt))) w.if-top-m.true)
      | else-top-m w ↦ rw w.m-is (log_low a.m a.e c.requires.0 c.requires.1 _ (ap (of_int binary64) (pred_i64 k 149 (omega arith) (lit< tt))) w.if-top-m.false)
    ])
