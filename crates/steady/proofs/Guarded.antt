-- What steps behind the test is what steps without it, over the calls that 10 does not turn back. Proved once for anything that steps, and for two that answer alike.
use mathlib.Core.Path.{◌≡◌, refl, sym, ap, ap₂, subst, ◌∙◌}
use Rattle.std.specs.Prelude.{ℕ, zero, suc, Bool, true, false, not, cond, List, [], ◌∷◌, eqb, Float}
use mathlib.Core.Bool.{true≢false}
use mathlib.Core.List.{foldl}
use Rattle.std.proofs.Math.Bool.{and-false}
use Rattle.std.proofs.lemmas.Bool.{and_parts, not-true}
use Rattle.steady.specs.declared.Band.{Band}
use Rattle.steady.specs.declared.Band.TheVariants.{Plain, Steady, Around}
use Rattle.steady.specs.Band.{turns_back, uneven, keeps}
use Rattle.steady.specs.Guarded.{Guarded, band_after, band_of, lie, without, number_in, passed, next_in, after_in, numbers_in, even_of, heard_one, heard}
use Rattle.account.specs.Rules.{positive}
use Rattle.steady.proofs.Kept.{plain_after}

keeps_first : (b : Band) (x y : Float) → keeps (keeps b x) y ≡ keeps b x
unfolding keeps
keeps_first Plain x y = refl
keeps_first Steady x y = refl
keeps_first (Around f) x y = refl

first_kept : {C : Type 0} (dt_of : C → Float) (b : Band) (x : Float) (cs : List C) → band_of dt_of (keeps b x) cs ≡ keeps b x
unfolding band_of
first_kept dt_of b x [] = refl
first_kept dt_of b x (c ∷ cs) = keeps_first b x (dt_of c)

-- a band without a first dt turns nothing back
pub none_back : (r : Bool) (dt : Float) (b : Band) → uneven b dt ≡ false → turns_back b r dt ≡ false
unfolding turns_back
none_back false dt b h = refl
none_back true dt b h = rw h (and-false (positive dt))

module _ {S C : Type 0} (runs : S → Bool) (dt_of : C → Float) (number : S → C → ℕ) (next : S → C → S) where
  abbrev X : Guarded S → C → Guarded S
  X g c = next_in runs dt_of number next g c

  abbrev P : Guarded S → C → Guarded S
  P g c = passed runs dt_of number next g c

  abbrev E : Guarded S → List C → List C
  E g cs = even_of runs dt_of number next g cs

  abbrev A : Guarded S → List C → Guarded S
  A g cs = after_in runs dt_of number next g cs

  abbrev H : Guarded S → List C → List C
  H g cs = heard runs dt_of number next g cs

  -- its own rules have no number 10
  module _ (not_ten : (s : S) (c : C) → eqb (number s c) 10 ≡ false) where
    left_one : (t : Bool) (g : Guarded S) (c : C) (cs : List C) → ((h : Guarded S) → (A h cs).inner ≡ foldl next h.inner (E h cs))
        → (A (cond t g (P g c)) cs).inner ≡ foldl next g.inner (cond (eqb (cond t 10 (number g.inner c)) 10) (E (cond t g (P g c)) cs) (c ∷ E (cond t g (P g c)) cs))
    left_one true g c cs h = h g
    left_one false g c cs h = rw (not_ten g.inner c) (h (P g c))

    pub left : (cs : List C) (g : Guarded S) → (A g cs).inner ≡ foldl next g.inner (E g cs)
    unfolding numbers_in without number_in next_in
    left [] g = refl
    left (c ∷ cs) g = left_one (turns_back g.band (runs g.inner) (dt_of c)) g c cs (left cs)

    -- where nothing is turned back by the band, the list is left whole
    one_stays : (t : Bool) (g : Guarded S) (c : C) (cs : List C) → t ≡ false → E (P g c) cs ≡ cs
        → cond (eqb (cond t 10 (number g.inner c)) 10) (E (cond t g (P g c)) cs) (c ∷ E (cond t g (P g c)) cs) ≡ c ∷ cs
    one_stays true g c cs e h = absurd (true≢false e)
    one_stays false g c cs e h = rw (not_ten g.inner c) (ap (λ (l : List C). c ∷ l) h)

    pub plain : (cs : List C) (g : Guarded S) → g.band ≡ Plain → E g cs ≡ cs
    unfolding numbers_in without number_in next_in uneven
    plain [] g h = refl
    plain (c ∷ cs) g h =
        one_stays (turns_back g.band (runs g.inner) (dt_of c)) g c cs (rw h (none_back (runs g.inner) (dt_of c) Plain refl))
        (plain cs (P g c) (rw h (plain_after (number g.inner c) (runs g.inner) (dt_of c))))

  -- a call's own step, by its number and by whether what stepped ran
  abbrev Q : ℕ → Bool → Guarded S → C → Guarded S
  Q n r g c = record { inner = next g.inner c; band = band_after n r g.band (dt_of c) }

  abbrev Banded : List C → Guarded S → Type 0
  Banded cs g = (A g cs).band ≡ band_of dt_of g.band (H g cs)

  band_one : (t : Bool) (n : ℕ) (r : Bool) (g : Guarded S) (c : C) (cs : List C) → ((h : Guarded S) → Banded cs h)
      → (A (cond t g (Q n r g c)) cs).band ≡ band_of dt_of g.band (heard_one runs dt_of number next (cond t 10 n) r c (H (cond t g (Q n r g c)) cs))
  unfolding heard_one band_of band_after
  band_one true n r g c cs h = h g
  band_one false (suc n) r g c cs h = h (Q (suc n) r g c)
  band_one false zero false g c cs h = h (Q zero false g c)
  band_one false zero true g c cs h = h (Q zero true g c) ∙ first_kept dt_of g.band (dt_of c) (H (Q zero true g c) cs)

  -- the band is that of the calls that were accepted while running
  pub band : (cs : List C) (g : Guarded S) → Banded cs g
  unfolding heard number_in next_in band_of
  band [] g = refl
  band (c ∷ cs) g = band_one (turns_back g.band (runs g.inner) (dt_of c)) (number g.inner c) (runs g.inner) g c cs (band cs)

  around_stays : (f : Float) (l : List C) → band_of dt_of (Around f) l ≡ Around f
  unfolding band_of keeps
  around_stays f [] = refl
  around_stays f (c ∷ l) = refl

  stable : (f : Float) (cs : List C) (g : Guarded S) → g.band ≡ Around f → (A g cs).band ≡ Around f
  stable f cs g h = band cs g ∙ ap (λ (b : Band). band_of dt_of b (H g cs)) h ∙ around_stays f (H g cs)

  within : (b : Band) (g : Guarded S) (cs : List C) (dt : Float) → g.band ≡ b → uneven (A g cs).band dt ≡ false → uneven g.band dt ≡ false
  unfolding uneven
  within Plain g cs dt e h = ap (λ (k : Band). uneven k dt) e
  within Steady g cs dt e h = ap (λ (k : Band). uneven k dt) e
  within (Around f) g cs dt e h = ap (λ (k : Band). uneven k dt) (e ∙ sym (stable f cs g e)) ∙ h

  x_is : (g : Guarded S) (c : C) → turns_back g.band (runs g.inner) (dt_of c) ≡ false → X g c ≡ P g c
  unfolding next_in
  x_is g c t = rw t

  module _ (not_ten : (s : S) (c : C) → eqb (number s c) 10 ≡ false) where
    -- where each dt lies in the band that is left, no call is turned back by it
    pub even : (cs : List C) (g : Guarded S) → lie dt_of (A g cs).band cs ≡ true → E g cs ≡ cs
    unfolding numbers_in without number_in next_in lie turns_back
    even [] g h = refl
    even (c ∷ cs) g h =
        let k = and_parts (not (uneven (A g (c ∷ cs)).band (dt_of c))) (lie dt_of (A g (c ∷ cs)).band cs) h in
        let t : turns_back g.band (runs g.inner) (dt_of c) ≡ false = none_back (runs g.inner) (dt_of c) g.band (within g.band g (c ∷ cs) (dt_of c) refl (not-true _ k.0)) in
        let x : X g c ≡ P g c = x_is g c t in
        one_stays not_ten (turns_back g.band (runs g.inner) (dt_of c)) g c cs t (even cs (P g c) (subst (λ (y : Guarded S). lie dt_of (A y cs).band cs ≡ true) x k.1))

-- ---- two that follow one another turn the same calls back and keep the same band
module _ {S T C : Type 0} (dt_of : C → Float) (R : S → T → Type 0)
    (runs : S → Bool) (number : S → C → ℕ) (next : S → C → S)
    (runs' : T → Bool) (number' : T → C → ℕ) (next' : T → C → T)
    (alike : (s : S) (t : T) → R s t → runs s ≡ runs' t)
    (same : (s : S) (t : T) (c : C) → R s t → number s c ≡ number' t c)
    (goes : (s : S) (t : T) (c : C) → R s t → R (next s c) (next' t c)) where
  abbrev Alike : Guarded S → Guarded T → List C → Type 0
  Alike g h cs = (numbers_in runs dt_of number next g cs ≡ numbers_in runs' dt_of number' next' h cs) × ((after_in runs dt_of number next g cs).band ≡ (after_in runs' dt_of number' next' h cs).band)

  abbrev After : Bool → Bool → Guarded S → Guarded T → C → List C → Type 0
  After t u g h c cs =
      (cond t 10 (number g.inner c) ∷ numbers_in runs dt_of number next (cond t g (passed runs dt_of number next g c)) cs
      ≡ cond u 10 (number' h.inner c) ∷ numbers_in runs' dt_of number' next' (cond u h (passed runs' dt_of number' next' h c)) cs)
      × ((after_in runs dt_of number next (cond t g (passed runs dt_of number next g c)) cs).band ≡ (after_in runs' dt_of number' next' (cond u h (passed runs' dt_of number' next' h c)) cs).band)

  one : (t u : Bool) → t ≡ u → (g : Guarded S) (h : Guarded T) (c : C) (cs : List C) → g.band ≡ h.band → R g.inner h.inner
      → ((k : Guarded S) (l : Guarded T) → k.band ≡ l.band → R k.inner l.inner → Alike k l cs)
      → After t u g h c cs
  one true true q g h c cs e r ih = let k = ih g h e r in (ap (λ (l : List ℕ). 10 ∷ l) k.0, k.1)
  one false false q g h c cs e r ih =
      let b : band_after (number g.inner c) (runs g.inner) g.band (dt_of c) ≡ band_after (number' h.inner c) (runs' h.inner) h.band (dt_of c) = rw (same g.inner h.inner c r, alike g.inner h.inner r, e) in
      let k = ih (passed runs dt_of number next g c) (passed runs' dt_of number' next' h c) b (goes g.inner h.inner c r) in
      (ap₂ ◌∷◌ (same g.inner h.inner c r) k.0, k.1)
  one true false q g h c cs e r ih = absurd (true≢false q)
  one false true q g h c cs e r ih = absurd (true≢false (sym q))

  pub follow : (cs : List C) (g : Guarded S) (h : Guarded T) → g.band ≡ h.band → R g.inner h.inner → Alike g h cs
  unfolding numbers_in number_in next_in
  follow [] g h e r = (refl, e)
  follow (c ∷ cs) g h e r =
      one (turns_back g.band (runs g.inner) (dt_of c)) (turns_back h.band (runs' h.inner) (dt_of c)) (rw (e, alike g.inner h.inner r)) g h c cs e r (follow cs)
