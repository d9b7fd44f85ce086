-- A turn of a loop over values and two series: what it is given stands at the place of the turn in each.
use Rattle.std.proofs.Common.{◌≡◌, ℕ, ◌<◌, List, length, get_or, zip, ap, ◌∙◌, arith}
use Rattle.std.proofs.lemmas.List.{get_or_default}
use Rattle.std.proofs.lemmas.Slice.Zip.{length-zip, get_or-zip}
use lib.Ieee.{Float, nan}
use Rattle.float.specs.Series.{at}

module _ {A : Type 0} (xs : List A) (cs ts : List Float) (k : ℕ) (x d : A) (c t : Float) where
  pub record Turn : Type 0 where
    pub value : x ≡ get_or xs k d
    pub constant : c ≡ at cs k
    pub change : t ≡ at ts k

  pub turn : k < length (zip (zip xs cs) ts) → ((x, c), t) ≡ get_or (zip (zip xs cs) ts) k ((x, c), t) → Turn
  turn h e =
      let both : k < length (zip xs cs) = omega (arith, length-zip (zip xs cs) ts) in
      let in_ts : k < length ts = omega (arith, length-zip (zip xs cs) ts) in
      let in_xs : k < length xs = omega (arith, length-zip xs cs) in
      let in_cs : k < length cs = omega (arith, length-zip xs cs) in
      let all = e ∙ get_or-zip (zip xs cs) ts k ((x, c), t) both in_ts in
      let pair = ap (λ (p : (A × Float) × Float). p.0) all ∙ get_or-zip xs cs k (x, c) in_xs in_cs in
      record {
        value = ap (λ (p : A × Float). p.0) pair ∙ get_or_default xs k x d in_xs;
        constant = ap (λ (p : A × Float). p.1) pair ∙ get_or_default cs k c nan in_cs;
        change = ap (λ (p : (A × Float) × Float). p.1) all ∙ get_or_default ts k t nan in_ts;
      }
