-- `float::packed` meets its contract: the pattern that it writes is that of q * 2 ^ k smallest values, or the infinity's, and no NaN's.
use Rattle.std.proofs.Common.{ℕ, Bool, true, false, not, T, sym, ap, ◌∙◌, subst, zero-add}
use lib.Ieee.{binary32, units, of_bits, nan_bits}
use Rattle.float.proofs.Pattern.{pattern, pattern_no_nan}
use Rattle.float.proofs.packed.Goals as goal

pub float_from_bits-result : goal.float_from_bits-result
float_from_bits-result c =
    let a = c.args in
    let h = c.requires in
    let s = c.min-magnitude in
    subst (λ (b : Bool). T (not b)) (sym (pattern_no_nan true a.q a.k s.result h.0 h.2 s.ensures)) tt

pub returns-then-negative : goal.returns-then-negative
returns-then-negative c =
    let a = c.args in
    let h = c.requires in
    let s = c.min-magnitude in
    pattern true a.q a.k s.result h.0 h.2 s.ensures
    ∙ ap (λ (b : Bool). units binary32 b a.q a.k) (sym c.if-negative.true)

pub float_from_bits-result-2 : goal.float_from_bits-result-2
float_from_bits-result-2 c =
    let a = c.args in
    let h = c.requires in
    let s = c.min-magnitude in
    subst (λ (n : ℕ). T (not (nan_bits binary32 n))) (zero-add s.result)
    (subst (λ (b : Bool). T (not b)) (sym (pattern_no_nan false a.q a.k s.result h.0 h.2 s.ensures)) tt)

pub returns : goal.returns
returns c =
    let a = c.args in
    let h = c.requires in
    let s = c.min-magnitude in
    ap (of_bits binary32) (sym (zero-add s.result))
    ∙ pattern false a.q a.k s.result h.0 h.2 s.ensures
    ∙ ap (λ (b : Bool). units binary32 b a.q a.k) (sym c.if-negative.false)
