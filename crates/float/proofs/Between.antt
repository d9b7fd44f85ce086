-- Values between two bounds in units of 2^-j, and how rounding, sums, products and quotients keep them so, in either format.
use Rattle.std.proofs.Common.{◌≡◌, ℕ, zero, suc, ◌+◌, ◌-◌, ◌*◌, ◌^◌, ◌<◌, ◌≤◌, Bool, true, false, cond, ◌&&◌, ◌||◌, T, eqb, ltb, ℤ, sym, refl, ap, ◌∙◌, subst, true≢false, le_trans, le_of_eq, lt_of_lt_of_le, le_of_lt, add-le-add, mul-le-mul_right, zero-lt-suc, mul_assoc, mul_comm, add-mul, mul-le-mul, mul-pos, zero-mul, le_of_mul-le-mul_right, mul_left_comm, arith, eqb→eq, ltb→lt, pow_pos, pow_mono, pow-add, shl_lt}
use lib.Dec.{eqb-suc-zero}
use lib.Ieee.{Float, Format, nan, inf, fin, prec, emax, low, unlike, up, down, odd, units, round, sum, add, mul, div, le}
use lib.Ieee.Digits.{back}
use lib.Ieee.Exact.{HasValue, odd_sign, round_exact}
use lib.Ieee.Fits.{reach, up_pos, down_pos, round_is}
use lib.Ieee.Order.{round_mono, transfer, kept, drop}

-- the sign s, and from lo to hi units of 2^-j in size
abbrev pub In : ℕ → Bool → ℕ → ℕ → Float → Type 0
In j s lo hi nan = ⊥
In j s lo hi (inf t) = ⊥
In j s lo hi (fin t m e) = (t ≡ s) × (lo * down e ≤ m * up e * 2 ^ j) × (m * up e * 2 ^ j ≤ hi * down e)

leq : (a b : ℕ) → T (ltb a b || (eqb a b && true)) → a ≤ b
leq a b = go (ltb a b) (eqb a b) (ltb→lt a b) (eqb→eq a b)
  where
    go : (p q : Bool) → (T p → a < b) → (T q → a ≡ b) → T (p || (q && true)) → a ≤ b
    go true q h k t = le_of_lt (h tt)
    go false true h k t = le_of_eq (k tt)
    go false false h k t = absurd t

-- between two values that are lo and hi of K units to 1
module _ (K : ℕ) where
  over : (m : ℕ) (e : ℤ) (lo : ℕ) (y : Float) → HasValue y false lo K → T (le y (fin false m e)) → lo * down e ≤ m * up e * K
  unfolding le
  over m e lo nan p t = absurd p
  over m e lo (inf s) p t = absurd p
  over m e lo (fin true n d) p t = absurd (true≢false p.0)
  over m e lo (fin false n d) p t =
      transfer lo (m * up e) K (down e) (n * up d) (m * up e) (down d) (down e) (down_pos d) (down_pos e) (sym p.1) refl (leq (n * up d * down e) (m * up e * down d) t)

  pub under : (m : ℕ) (e : ℤ) (hi : ℕ) (y : Float) → HasValue y false hi K → T (le (fin false m e) y) → m * up e * K ≤ hi * down e
  unfolding le
  under m e hi nan p t = absurd p
  under m e hi (inf s) p t = absurd p
  under m e hi (fin true n d) p t = absurd (true≢false p.0)
  under m e hi (fin false n d) p t =
      transfer (m * up e) hi (down e) K (m * up e) (n * up d) (down e) (down d) (down_pos e) (down_pos d) refl (sym p.1) (leq (m * up e * down d) (n * up d * down e) t)

  pub no_inf : (hi : ℕ) (y : Float) → HasValue y false hi K → T (le (inf false) y) → ⊥
  unfolding le
  no_inf hi nan p t = p
  no_inf hi (inf s) p t = p
  no_inf hi (fin s m e) p t = t

-- ---- a unit that the format holds
module _ (f : Format) (j : ℕ) (deep : j ≤ low f) where
  exact : (n : ℕ) → n < 2 ^ prec f → HasValue (round f false n (2 ^ j)) false n (2 ^ j)
  exact n h =
      let k = low f - j in
      let whole : k + j ≡ low f = back (low f) j deep in
      let room : prec f + k ≤ low f + suc (emax f) = omega (arith, reach f) in
      round_exact f false n (2 ^ j) n k (pow_pos j) h (lt_of_lt_of_le (shl_lt (prec f) k h) (pow_mono room))
      (ap (λ (x : ℕ). n * 2 ^ x) (sym whole) ∙ ap (λ (x : ℕ). n * x) (pow-add 2 k j) ∙ sym (mul_assoc n (2 ^ k) (2 ^ j)))

  between : (x : Float) (a c lo hi : ℕ) (y z : Float) → HasValue x false a c → HasValue y false lo (2 ^ j) → HasValue z false hi (2 ^ j) → T (le y x) → T (le x z) → In j false lo hi x
  between nan a c lo hi y z v p q s t = absurd v
  between (inf u) a c lo hi y z v p q s t = absurd v
  between (fin true m e) a c lo hi y z v p q s t = absurd (true≢false v.0)
  between (fin false m e) a c lo hi y z v p q s t = (refl, over (2 ^ j) m e lo y p s, under (2 ^ j) m e hi z q t)

  units_in : (q k lo hi : ℕ) (y z : Float) → HasValue y false lo (2 ^ j) → HasValue z false hi (2 ^ j) → T (le y (units f false q k)) → T (le (units f false q k) z) → In j false lo hi (units f false q k)
  unfolding units
  units_in q k lo hi y z v w = go (ltb (q * 2 ^ k) (2 ^ (low f + suc (emax f))))
    where
      go : (b : Bool) → T (le y (cond b (odd (suc (prec f)) false q k (low f)) (inf false))) → T (le (cond b (odd (suc (prec f)) false q k (low f)) (inf false)) z)
          → In j false lo hi (cond b (odd (suc (prec f)) false q k (low f)) (inf false))
      go true s t = between (odd (suc (prec f)) false q k (low f)) (q * 2 ^ k) (2 ^ low f) lo hi y z (odd_sign (suc (prec f)) false q k (low f)) v w s t
      go false s t = absurd (no_inf (2 ^ j) hi z w t)

  -- the size does not turn on the sign
  signed : (s : Bool) (q k lo hi : ℕ) → In j false lo hi (units f false q k) → In j s lo hi (units f s q k)
  unfolding units odd
  signed s zero k lo hi = go (ltb (0 * 2 ^ k) (2 ^ (low f + suc (emax f))))
    where
      go : (b : Bool) → In j false lo hi (cond b (odd (suc (prec f)) false 0 k (low f)) (inf false)) → In j s lo hi (cond b (odd (suc (prec f)) s 0 k (low f)) (inf s))
      go true p = (refl, p.1, p.2)
      go false p = p
  signed s (suc q) k lo hi = go (ltb (suc q * 2 ^ k) (2 ^ (low f + suc (emax f))))
    where
      go : (b : Bool) → In j false lo hi (cond b (odd (suc (prec f)) false (suc q) k (low f)) (inf false)) → In j s lo hi (cond b (odd (suc (prec f)) s (suc q) k (low f)) (inf s))
      go true p = (refl, p.1, p.2)
      go false p = p

  -- a fraction from lo to hi rounds to a value from lo to hi
  pub round_in : (s : Bool) (a c lo hi : ℕ) → 0 < c → lo < 2 ^ prec f → hi < 2 ^ prec f → lo * c ≤ a * 2 ^ j → a * 2 ^ j ≤ hi * c → In j s lo hi (round f s a c)
  round_in s a c lo hi p l h u v =
      let q = kept (prec f) (a * 2 ^ low f) c in
      let k = drop (prec f) (a * 2 ^ low f) c in
      let y = round f false lo (2 ^ j) in
      let z = round f false hi (2 ^ j) in
      let e = round_is f false a c in
      let r : T (le y (units f false q k)) = subst (λ (x : Float). T (le y x)) e (round_mono f lo (2 ^ j) a c (pow_pos j) p u) in
      let t : T (le (units f false q k) z) = subst (λ (x : Float). T (le x z)) e (round_mono f a c hi (2 ^ j) p (pow_pos j) v) in
      subst (In j s lo hi) (sym (round_is f s a c)) (signed s q k lo hi (units_in q k lo hi y z (exact lo l) (exact hi h) r t))

-- ---- the bounds of products, quotients and sums, K units to 1
module _ (K De Dd M N : ℕ) (k : 0 < K) where
  mul_lo : (a c lo : ℕ) → lo * K ≤ a * c → a * De ≤ M * K → c * Dd ≤ N * K → lo * (De * Dd) ≤ M * N * K
  mul_lo a c lo h p q =
      let i : lo * (De * Dd) * K ≡ lo * K * (De * Dd) = simp (mul_assoc, mul_comm, mul_left_comm) in
      let j : a * c * (De * Dd) ≡ a * De * (c * Dd) = simp (mul_assoc, mul_comm, mul_left_comm) in
      let l : M * K * (N * K) ≡ M * N * K * K = simp (mul_assoc, mul_comm, mul_left_comm) in
      le_of_mul-le-mul_right (le_trans (le_of_eq i) (le_trans (mul-le-mul_right (De * Dd) h) (le_trans (le_of_eq j) (le_trans (mul-le-mul p q) (le_of_eq l))))) k

  mul_hi : (b d hi : ℕ) → b * d ≤ hi * K → M * K ≤ b * De → N * K ≤ d * Dd → M * N * K ≤ hi * (De * Dd)
  mul_hi b d hi h p q =
      let i : hi * K * (De * Dd) ≡ hi * (De * Dd) * K = simp (mul_assoc, mul_comm, mul_left_comm) in
      let j : b * De * (d * Dd) ≡ b * d * (De * Dd) = simp (mul_assoc, mul_comm, mul_left_comm) in
      let l : M * N * K * K ≡ M * K * (N * K) = simp (mul_assoc, mul_comm, mul_left_comm) in
      le_of_mul-le-mul_right (le_trans (le_of_eq l) (le_trans (mul-le-mul p q) (le_trans (le_of_eq j) (le_trans (mul-le-mul_right (De * Dd) h) (le_of_eq i))))) k

  div_lo : (a d lo : ℕ) → lo * d ≤ a * K → a * De ≤ M * K → N * K ≤ d * Dd → lo * (N * De) ≤ M * Dd * K
  div_lo a d lo h p q =
      let i : lo * (N * De) * K ≡ N * K * (lo * De) = simp (mul_assoc, mul_comm, mul_left_comm) in
      let j : d * Dd * (lo * De) ≡ lo * d * (De * Dd) = simp (mul_assoc, mul_comm, mul_left_comm) in
      let l : a * K * (De * Dd) ≡ a * De * (K * Dd) = simp (mul_assoc, mul_comm, mul_left_comm) in
      let o : M * K * (K * Dd) ≡ M * Dd * K * K = simp (mul_assoc, mul_comm, mul_left_comm) in
      le_of_mul-le-mul_right
      (le_trans (le_of_eq i) (le_trans (mul-le-mul_right (lo * De) q) (le_trans (le_of_eq j) (le_trans (mul-le-mul_right (De * Dd) h) (le_trans (le_of_eq l) (le_trans (mul-le-mul_right (K * Dd) p) (le_of_eq o))))))) k

  div_hi : (b c hi : ℕ) → b * K ≤ hi * c → M * K ≤ b * De → c * Dd ≤ N * K → M * Dd * K ≤ hi * (N * De)
  div_hi b c hi h p q =
      let i : M * Dd * K * K ≡ M * K * (Dd * K) = simp (mul_assoc, mul_comm, mul_left_comm) in
      let j : b * De * (Dd * K) ≡ b * K * (De * Dd) = simp (mul_assoc, mul_comm, mul_left_comm) in
      let l : hi * c * (De * Dd) ≡ c * Dd * (hi * De) = simp (mul_assoc, mul_comm, mul_left_comm) in
      let o : N * K * (hi * De) ≡ hi * (N * De) * K = simp (mul_assoc, mul_comm, mul_left_comm) in
      le_of_mul-le-mul_right
      (le_trans (le_of_eq i) (le_trans (mul-le-mul_right (Dd * K) p) (le_trans (le_of_eq j) (le_trans (mul-le-mul_right (De * Dd) h) (le_trans (le_of_eq l) (le_trans (mul-le-mul_right (hi * De) q) (le_of_eq o))))))) k

  add_lo : (a c lo : ℕ) → lo ≤ a + c → a * De ≤ M * K → c * Dd ≤ N * K → lo * (De * Dd) ≤ (M * Dd + N * De) * K
  add_lo a c lo h p q =
      let i : a * (De * Dd) + c * (De * Dd) ≡ a * De * Dd + c * Dd * De = simp (mul_assoc, mul_comm, mul_left_comm) in
      let l : M * K * Dd + N * K * De ≡ M * Dd * K + N * De * K = simp (mul_assoc, mul_comm, mul_left_comm) in
      le_trans (mul-le-mul_right (De * Dd) h)
      (le_trans (le_of_eq (add-mul a c (De * Dd) ∙ i)) (le_trans (add-le-add (mul-le-mul_right Dd p) (mul-le-mul_right De q)) (le_of_eq (l ∙ sym (add-mul (M * Dd) (N * De) K)))))

  add_hi : (b d hi : ℕ) → b + d ≤ hi → M * K ≤ b * De → N * K ≤ d * Dd → (M * Dd + N * De) * K ≤ hi * (De * Dd)
  add_hi b d hi h p q =
      let i : b * De * Dd + d * Dd * De ≡ b * (De * Dd) + d * (De * Dd) = simp (mul_assoc, mul_comm, mul_left_comm) in
      let l : M * Dd * K + N * De * K ≡ M * K * Dd + N * K * De = simp (mul_assoc, mul_comm, mul_left_comm) in
      le_trans (le_of_eq (add-mul (M * Dd) (N * De) K ∙ l))
      (le_trans (add-le-add (mul-le-mul_right Dd p) (mul-le-mul_right De q)) (le_trans (le_of_eq (i ∙ sym (add-mul b d (De * Dd)))) (mul-le-mul_right (De * Dd) h)))

-- ---- products, quotients, sums
module _ (f : Format) (j : ℕ) (deep : j ≤ low f) (s t : Bool) (a b c d lo hi : ℕ) (l : lo < 2 ^ prec f) (h : hi < 2 ^ prec f) where
  pub mul_in : (r : Bool) (x y : Float) → unlike s t ≡ r → lo * 2 ^ j ≤ a * c → b * d ≤ hi * 2 ^ j → In j s a b x → In j t c d y → In j r lo hi (mul f x y)
  unfolding mul
  mul_in r nan y g u v p q = absurd p
  mul_in r (inf w) y g u v p q = absurd p
  mul_in r (fin w m e) nan g u v p q = absurd q
  mul_in r (fin w m e) (inf z) g u v p q = absurd q
  mul_in r (fin w m e) (fin z n k) g u v p q =
      let sign : unlike w z ≡ r = (λ i. unlike (p.0 i) (q.0 i)) ∙ g in
      subst (λ (o : Bool). In j r lo hi (round f o (m * up e * (n * up k)) (down e * down k))) (sym sign)
      (round_in f j deep r (m * up e * (n * up k)) (down e * down k) lo hi (mul-pos (down_pos e) (down_pos k)) l h
      (mul_lo (2 ^ j) (down e) (down k) (m * up e) (n * up k) (pow_pos j) a c lo u p.1 q.1)
      (mul_hi (2 ^ j) (down e) (down k) (m * up e) (n * up k) (pow_pos j) b d hi v p.2 q.2))

  -- by a value above 0
  pub div_in : (x y : Float) → 0 < c → lo * d ≤ a * 2 ^ j → b * 2 ^ j ≤ hi * c → In j s a b x → In j false c d y → In j s lo hi (div f x y)
  unfolding div
  div_in nan y z u v p q = absurd p
  div_in (inf w) y z u v p q = absurd p
  div_in (fin w m e) nan z u v p q = absurd q
  div_in (fin w m e) (inf o) z u v p q = absurd q
  div_in (fin w m e) (fin true n k) z u v p q = absurd (true≢false q.0)
  div_in (fin w m e) (fin false zero k) z u v p q =
      absurd (let g = mul-pos z (down_pos k) in let f : c * down k ≤ 0 * up k * 2 ^ j = q.1 in let r : ⊥ = omega (arith, zero-mul (up k)) in r)
  div_in (fin w m e) (fin false (suc n) k) z u v p q =
      let sign : unlike w false ≡ s = plain w ∙ p.0 in
      subst (λ (o : Bool). In j s lo hi (cond o (cond (eqb m 0) nan (inf (unlike w false))) (round f (unlike w false) (m * up e * down k) (suc n * up k * down e)))) (sym (eqb-suc-zero n))
      (subst (λ (o : Bool). In j s lo hi (round f o (m * up e * down k) (suc n * up k * down e))) (sym sign)
      (round_in f j deep s (m * up e * down k) (suc n * up k * down e) lo hi (mul-pos (mul-pos (zero-lt-suc n) (up_pos k)) (down_pos e)) l h
      (div_lo (2 ^ j) (down e) (down k) (m * up e) (suc n * up k) (pow_pos j) a d lo u p.1 q.2)
      (div_hi (2 ^ j) (down e) (down k) (m * up e) (suc n * up k) (pow_pos j) b c hi v p.2 q.1)))
    where
      plain : (w : Bool) → unlike w false ≡ w
      plain true = refl
      plain false = refl

  pub add_in : (x y : Float) → lo ≤ a + c → b + d ≤ hi → In j false a b x → In j false c d y → In j false lo hi (add f x y)
  unfolding add sum
  add_in nan y u v p q = absurd p
  add_in (inf w) y u v p q = absurd p
  add_in (fin true m e) y u v p q = absurd (true≢false p.0)
  add_in (fin false m e) nan u v p q = absurd q
  add_in (fin false m e) (inf z) u v p q = absurd q
  add_in (fin false m e) (fin true n k) u v p q = absurd (true≢false q.0)
  add_in (fin false m e) (fin false n k) u v p q =
      round_in f j deep false (m * up e * down k + n * up k * down e) (down e * down k) lo hi (mul-pos (down_pos e) (down_pos k)) l h
      (add_lo (2 ^ j) (down e) (down k) (m * up e) (n * up k) (pow_pos j) a c lo u p.1 q.1)
      (add_hi (2 ^ j) (down e) (down k) (m * up e) (n * up k) (pow_pos j) b d hi v p.2 q.2)
