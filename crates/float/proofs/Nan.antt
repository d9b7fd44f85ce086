-- The NaN is the one value that differs from itself.
use Rattle.std.proofs.Common.{◌≡◌, Bool, true, false, not, T, sym, refl, ◌∙◌, subst, true≢false}
use lib.Ieee.{Float, nan, inf, fin, is_nan, ne}
use lib.Ieee.Bits.{is_false}
use lib.Ieee.Compare.{differs_from_itself, nan_differs}

pub nan_by_test : (x : Float) → ne x x ≡ true → x ≡ nan
nan_by_test x e = differs_from_itself x (subst T (sym e) tt)

pub no_nan : (x : Float) → ne x x ≡ false → T (not (is_nan x))
unfolding is_nan
no_nan nan e = absurd (true≢false (sym nan_differs ∙ e))
no_nan (inf s) e = tt
no_nan (fin s m k) e = tt

-- so the test that a program makes tells it
pub differs : (x : Float) → ne x x ≡ is_nan x
differs x = go (ne x x) refl
  where
    go : (b : Bool) → ne x x ≡ b → ne x x ≡ is_nan x
    go true e = subst (λ (y : Float). ne y y ≡ is_nan y) (sym (nan_by_test x e)) (unfold is_nan in nan_differs)
    go false e = e ∙ sym (is_false (is_nan x) (no_nan x e))

-- what the library's test says
pub only_nan : (x : Float) → is_nan x ≡ true → x ≡ nan
unfolding is_nan
only_nan nan e = refl
only_nan (inf s) e = absurd (true≢false (sym e))
only_nan (fin s m k) e = absurd (true≢false (sym e))
