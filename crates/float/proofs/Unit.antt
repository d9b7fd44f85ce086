-- Values of at most 1 in size: rounding keeps them so, and with it products, quotients by a whole number, and 1 - x.
use Rattle.std.proofs.Common.{◌≡◌, ℕ, ◌-◌, ◌*◌, ◌^◌, ◌<◌, ◌≤◌, Bool, true, false, cond, T, ltb, pos, sym, refl, true≢false, sub-le, arith, lit<, lit≤, ltb→lt}
use lib.Ieee.{Float, Format, nan, inf, fin, binary32, binary64, prec, low, unlike, up, down, round, of_int, add, sum, mul, div}
use lib.Ieee.Back.{round_whole}
use lib.Ieee.Exact.{HasValue}
use lib.Ieee.Fits.{down_pos}
use Rattle.float.proofs.Between.{In, round_in, mul_in, div_in}

-- the sign s, and at most 1 in size
abbrev pub Small : Bool → Float → Type 0
Small s x = In 0 s 0 1 x

abbrev pub one : Float
one = fin false 1 (pos 0)

-- ---- every format holds 0 and 1
none : (f : Format) → 0 < 2 ^ prec f
none binary32 = lit< tt
none binary64 = lit< tt

held : (f : Format) → 1 < 2 ^ prec f
held binary32 = lit< tt
held binary64 = lit< tt

deep : (f : Format) → 0 ≤ low f
deep binary32 = lit≤ tt
deep binary64 = lit≤ tt

pub round_small : (f : Format) (s : Bool) (a c : ℕ) → 0 < c → a ≤ c → Small s (round f s a c)
round_small f s a c p h = round_in f 0 (deep f) s a c 0 1 p (none f) (held f) (omega arith) (omega arith)

-- ---- arithmetic
kept_sign : (s : Bool) → unlike s false ≡ s
kept_sign true = refl
kept_sign false = refl

pub mul_small : (f : Format) (s : Bool) (x y : Float) → Small s x → Small false y → Small s (mul f x y)
mul_small f s x y = mul_in f 0 (deep f) s false 0 1 0 1 0 1 (none f) (held f) s x y (kept_sign s) (lit≤ tt) (lit≤ tt)

-- a whole number, as f64 holds it
pub whole : (n : ℕ) → n ≤ 2 ^ 53 → HasValue (of_int binary64 (pos n)) false n 1
unfolding of_int
whole n h = round_whole binary64 false n h

itself : (y : Float) (n : ℕ) → HasValue y false n 1 → In 0 false n n y
itself nan n p = p
itself (inf t) n p = p
itself (fin t m e) n p = let q : m * up e * 1 ≡ n * down e = p.1 in (p.0, omega arith, omega arith)

-- a negative value by a whole number above 0
pub div_small : (f : Format) (x y : Float) (n : ℕ) → 0 < n → Small true x → HasValue y false n 1 → Small true (div f x y)
div_small f x y n h p q = div_in f 0 (deep f) true false 0 1 n n 0 1 (none f) (held f) x y h (omega arith) (omega arith) p (itself y n q)

-- 1 + x for an x from -1 to 0
pub add_small : (f : Format) (x : Float) → Small true x → Small false (add f one x)
unfolding add sum
add_small f nan p = absurd p
add_small f (inf t) p = absurd p
add_small f (fin false n d) p = absurd (true≢false (sym p.0))
add_small f (fin true n d) p = go (ltb (1 * down d) (n * up d * 1)) (ltb→lt (1 * down d) (n * up d * 1))
  where
    go : (b : Bool) → (T b → 1 * down d < n * up d * 1) → Small false (cond b (round f true (n * up d * 1 - 1 * down d) (1 * down d)) (round f false (1 * down d - n * up d * 1) (1 * down d)))
    go true h = absurd (let l = h tt in let r : ⊥ = omega (arith, p.2) in r)
    go false h = round_small f false (1 * down d - n * up d * 1) (1 * down d) (let r : 0 < 1 * down d = omega (arith, down_pos d) in r) (sub-le (1 * down d) (n * up d * 1))
