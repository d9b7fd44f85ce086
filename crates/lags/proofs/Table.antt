-- The rule of the table of lags, over bit patterns: one test that antt computes, and what it says of each entry.
use Prim.Native.Nat.{ℕ, zero, suc, ◌+◌, ◌<◌}
use mathlib.Core.Path.{◌≡◌, refl, ap, ◌∙◌}
use mathlib.Core.Bool.{Bool, true, false, not, ◌&&◌}
use mathlib.Core.List.{List, [], ◌∷◌, map}
use native.Mathlib.Nat.{add-zero, zero-add, le_of_suc-le-suc, not-suc-le-zero}
use native.Mathlib.Omega.{arith}
use lib.Dec.{T, eqb, eqb→eq}
use lib.ListN.{length, get_or}
use lib.Ieee.{Float, binary32, nan, of_bits, to_bits, mul, le}
use lib.Ieee.Bits.{of_bits-to_bits}
use lib.Ieee.Fits.{and_l, and_r, mul-fits}
use Rattle.lags.specs.Lags.{lag_count, lag_ratio, most_lag, lag_of, WhileAtMost}

-- the pattern of 1.05 times the value of a pattern
unfoldable times : ℕ → ℕ
unfolding mul of_bits to_bits
times p = to_bits binary32 (mul binary32 (of_bits binary32 p) lag_ratio)

-- whether the value of a pattern is at most 0.5
unfoldable within : ℕ → Bool
unfolding of_bits le
within p = le (of_bits binary32 p) most_lag

-- each pattern is 1.05 times the one before and at most 0.5, and 1.05 times the last is not
unfoldable chain : ℕ → List ℕ → Bool
unfolding times within
chain p [] = within p && not (within (times p))
chain p (x ∷ xs) = within p && (eqb x (times p) && chain x xs)

yes : (b : Bool) → T b → b ≡ true
yes true t = refl
yes false t = absurd t

no : (b : Bool) → T (not b) → b ≡ false
no true t = absurd t
no false t = refl

next : (j p : ℕ) → of_bits binary32 p ≡ lag_of j → of_bits binary32 (times p) ≡ lag_of (suc j)
unfolding times lag_of
next j p e = of_bits-to_bits binary32 _ (mul-fits binary32 (of_bits binary32 p) lag_ratio) ∙ ap (λ (z : Float). mul binary32 z lag_ratio) e

module _ (p x : ℕ) (xs : List ℕ) (j : ℕ) (e : of_bits binary32 p ≡ lag_of j) (t : T (chain p (x ∷ xs))) where
  abbrev linked : T (eqb x (times p) && chain x xs)
  unfolding chain
  linked = and_r (within p) (eqb x (times p) && chain x xs) t

  on : of_bits binary32 x ≡ lag_of (suc j)
  on = ap (of_bits binary32) (eqb→eq x (times p) (and_l (eqb x (times p)) (chain x xs) linked)) ∙ next j p e

  rest : T (chain x xs)
  rest = and_r (eqb x (times p)) (chain x xs) linked

-- the first of a chain is at most 0.5
head : (p : ℕ) (xs : List ℕ) → T (chain p xs) → T (within p)
unfolding chain
head p [] t = and_l (within p) (not (within (times p))) t
head p (x ∷ xs) t = and_l (within p) (eqb x (times p) && chain x xs) t

-- a chain from lag j on holds the lags from j on, each at most 0.5
entry : (p : ℕ) (xs : List ℕ) (d : Float) (j : ℕ) → of_bits binary32 p ≡ lag_of j → T (chain p xs) → (i : ℕ) → i < length (p ∷ xs)
    → (get_or (map (of_bits binary32) (p ∷ xs)) i d ≡ lag_of (j + i)) × (le (lag_of (j + i)) most_lag ≡ true)
unfolding within
entry p xs d j e t zero h = rw add-zero (e, rw (← e) (yes (within p) (head p xs t)))
entry p [] d j e t (suc i) h = absurd (not-suc-le-zero (le_of_suc-le-suc h))
entry p (x ∷ xs) d j e t (suc i) h =
    let s : j + suc i ≡ suc j + i = omega arith in rw s (entry x xs d (suc j) (on p x xs j e t) (rest p x xs j e t) i (le_of_suc-le-suc h))

-- and the lag after its last is not
after : (p : ℕ) (xs : List ℕ) (j : ℕ) → of_bits binary32 p ≡ lag_of j → T (chain p xs) → le (lag_of (j + length (p ∷ xs))) most_lag ≡ false
unfolding chain within
after p [] j e t =
    let s : j + 1 ≡ suc j = omega arith in rw (s, ← (next j p e)) (no (within (times p)) (and_r (within p) (not (within (times p))) t))
after p (x ∷ xs) j e t =
    let s : j + suc (length (x ∷ xs)) ≡ suc j + length (x ∷ xs) = omega arith in rw s (after x xs (suc j) (on p x xs j e t) (rest p x xs j e t))

-- the table's patterns: the first, and the others
unfoldable pub first : ℕ
first = 0x3a83_126f

unfoldable pub others : List ℕ
others = 0x3a89_a027 ∷ 0x3a90_81c2 ∷ 0x3a97_bb72 ∷ 0x3a9f_519e ∷ 0x3aa7_48e5 ∷ 0x3aaf_a623 ∷ 0x3ab8_6e71 ∷ 0x3ac1_a729 ∷ 0x3acb_55ea ∷ 0x3ad5_809b ∷ 0x3ae0_2d6f ∷ 0x3aeb_62e7 ∷ 0x3af7_27d8 ∷ 0x3b01_c1b7 ∷ 0x3b08_3e99 ∷ 0x3b0f_0e87 ∷ 0x3b16_35a7 ∷ 0x3b1d_b855 ∷ 0x3b25_9b26 ∷ 0x3b2d_e2e7 ∷ 0x3b36_94a5 ∷ 0x3b3f_b5ad ∷ 0x3b49_4b8f ∷ 0x3b53_5c22 ∷ 0x3b5d_ed89 ∷ 0x3b69_0636 ∷ 0x3b74_aceb ∷ 0x3b80_7461 ∷ 0x3b86_e099 ∷ 0x3b8d_9f07 ∷ 0x3b94_b3c7 ∷ 0x3b9c_232a ∷ 0x3ba3_f1b8 ∷ 0x3bac_2434 ∷ 0x3bb4_bf9c ∷ 0x3bbd_c930 ∷ 0x3bc7_4672 ∷ 0x3bd1_3d2a ∷ 0x3bdb_b36b ∷ 0x3be6_af96 ∷ 0x3bf2_385d ∷ 0x3bfe_54c7 ∷ 0x3c05_861b ∷ 0x3c0c_3336 ∷ 0x3c13_35c5 ∷ 0x3c1a_920e ∷ 0x3c22_4c8e ∷ 0x3c2a_69fb ∷ 0x3c32_ef47 ∷ 0x3c3b_e1a4 ∷ 0x3c45_4685 ∷ 0x3c4f_23a5 ∷ 0x3c59_7f06 ∷ 0x3c64_5ef9 ∷ 0x3c6f_ca1e ∷ 0x3c7b_c76c ∷ 0x3c84_2f18 ∷ 0x3c8a_cb0c ∷ 0x3c91_bb99 ∷ 0x3c99_04fa ∷ 0x3ca0_aba0 ∷ 0x3ca8_b434 ∷ 0x3cb1_239c ∷ 0x3cb9_fefd ∷ 0x3cc3_4bbc ∷ 0x3ccd_0f85 ∷ 0x3cd7_504b ∷ 0x3ce2_144e ∷ 0x3ced_621e ∷ 0x3cf9_409f ∷ 0x3d02_db86 ∷ 0x3d09_667f ∷ 0x3d10_4538 ∷ 0x3d17_7be1 ∷ 0x3d1f_0edf ∷ 0x3d27_02d0 ∷ 0x3d2f_5c8d ∷ 0x3d38_212d ∷ 0x3d41_5608 ∷ 0x3d4b_00bb ∷ 0x3d55_272a ∷ 0x3d5f_cf85 ∷ 0x3d6b_004b ∷ 0x3d76_c04e ∷ 0x3d81_8b5c ∷ 0x3d88_0587 ∷ 0x3d8e_d29a ∷ 0x3d95_f6bb ∷ 0x3d9d_7644 ∷ 0x3da5_55c7 ∷ 0x3dad_9a10 ∷ 0x3db6_482a ∷ 0x3dbf_655f ∷ 0x3dc8_f73d ∷ 0x3dd3_0399 ∷ 0x3ddd_9093 ∷ 0x3de8_a49a ∷ 0x3df4_466e ∷ 0x3e00_3e93 ∷ 0x3e06_a81a ∷ 0x3e0d_63b4 ∷ 0x3e14_757d ∷ 0x3e1b_e1c3 ∷ 0x3e23_ad0c ∷ 0x3e2b_dc19 ∷ 0x3e34_73e7 ∷ 0x3e3d_79b2 ∷ 0x3e46_f2fa ∷ 0x3e50_e586 ∷ 0x3e5b_5766 ∷ 0x3e66_4ef7 ∷ 0x3e71_d2e9 ∷ 0x3e7d_ea41 ∷ 0x3e85_4e2f ∷ 0x3e8b_f87e ∷ 0x3e92_f81d ∷ 0x3e9a_5151 ∷ 0x3ea2_0895 ∷ 0x3eaa_229c ∷ 0x3eb2_a456 ∷ 0x3ebb_92f3 ∷ 0x3ec4_f3e5 ∷ 0x3ece_cce3 ∷ 0x3ed9_23ee ∷ 0x3ee3_ff53 ∷ 0x3eef_65b0 ∷ 0x3efb_5df8 ∷ []

passes : T (chain first others)
unfolding first others chain
passes = tt

starts : of_bits binary32 first ≡ lag_of 0
unfolding first lag_of
starts = refl

-- each entry of the table is its lag
pub table_at : (i : ℕ) → i < lag_count → get_or (map (of_bits binary32) (first ∷ others)) i nan ≡ lag_of i
unfolding others
table_at i h = rw zero-add at (entry first others nan 0 starts passes i h).0

-- the lags of the table are those that are at most 0.5
pub table_ends : WhileAtMost lag_of most_lag lag_count
unfolding others
table_ends = record { within = λ i h. rw zero-add at (entry first others nan 0 starts passes i h).1; beyond = after first others 0 starts passes }
