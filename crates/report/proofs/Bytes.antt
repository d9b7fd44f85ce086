-- A report's bytes: 36 of them, nine words one after another, the delay in the first.
use Prim.Native.Nat.{ℕ, ◌+◌, ◌*◌, ◌/◌, ◌%◌, ◌^◌, ◌≤◌, ◌<◌}
use mathlib.Core.Path.{◌≡◌, refl, sym, ap, ◌∙◌}
use mathlib.Core.List.{List, [], ◌∷◌, ◌++◌, map}
use native.Mathlib.Omega.{arith}
use lib.Dec.{lit<}
use lib.ListN.{length, length-append, length-map}
use Rattle.wire.specs.Words.{bytes_of, word_bytes, word_of, written_at, written_within}
use Rattle.wire.proofs.Bytes.{length_bytes, length_words, three_words, words_append}
use Rattle.wire.proofs.Written.{within, written_next}
use Rattle.account.specs.declared.IdentifyStatus.{IdentifyStatus}
use Rattle.account.specs.declared.IdentifyStatus.TheVariants.{Running, Done, Unexcited, Saturated}
use Rattle.report.specs.declared.Report.{Report}
use Rattle.account.specs.Probe.{delay_of}
use Rattle.delay.specs.HalfTicks.{whole_ticks, half_tick}
use Rattle.report.specs.Report.{kind_of, floats_of, fields_of, packed, report_bytes, d_read, half_read, Tells}

pub kind_small : (s : IdentifyStatus) → kind_of s < 4
unfolding kind_of
kind_small (Running e) = lit< tt
kind_small (Done m) = lit< tt
kind_small Unexcited = lit< tt
kind_small Saturated = lit< tt

six_floats : (s : IdentifyStatus) → length (floats_of s) ≡ 6
unfolding floats_of
six_floats (Running e) = refl
six_floats (Done m) = refl
six_floats Unexcited = refl
six_floats Saturated = refl

pub length_report : (r : Report) → length (report_bytes r) ≡ 36
unfolding report_bytes
length_report r = rw (length-append, length_bytes, length_words, length-map, six_floats)

-- the fields as three words, and the floats behind them
pub report_written : (r : Report) (l : List ℕ) → 36 ≤ length l
    → (let n = packed 0 (fields_of r) in written_at 12 (word_bytes (map word_of (floats_of r.status))) (written_at 0 (word_bytes (n / 2 ^ 64 ∷ n / 2 ^ 32 % 2 ^ 32 ∷ n % 2 ^ 32 ∷ [])) l)) ≡ written_within 0 (report_bytes r) l
unfolding report_bytes
report_written r l h =
    let fields = bytes_of 12 (packed 0 (fields_of r)) in
    let e : length fields ≡ 12 = length_bytes 12 (packed 0 (fields_of r)) in
    rw (← three_words (packed 0 (fields_of r)), within 0 (report_bytes r) l (rw (length_report r) h))
    (rw e at (written_next 0 fields (word_bytes (map word_of (floats_of r.status))) l (rw e (omega arith))))

-- ---- the first word
pub first_bits : (r : Report) → packed 0 (fields_of r) / 2 ^ 64
    ≡ kind_of r.status * 2 ^ 30 + whole_ticks (delay_of r.status) % 16 * 2 ^ 26 + half_tick (delay_of r.status) * 2 ^ 25 + r.ticks % 2 ^ 25 / 2
unfolding packed fields_of
first_bits r = omega (arith, kind_small r.status)

pub first_small : (r : Report) → packed 0 (fields_of r) / 2 ^ 64 < 2 ^ 32
first_small r = omega (arith, kind_small r.status, first_bits r)

pub kind_first : (r : Report) → packed 0 (fields_of r) / 2 ^ 64 / 2 ^ 30 ≡ kind_of r.status
kind_first r = omega (arith, kind_small r.status, first_bits r)

-- three words of fields as one number, and six of floats
abbrev pub nine_words : ℕ → IdentifyStatus → List ℕ
nine_words n s = n / 2 ^ 64 ∷ n / 2 ^ 32 % 2 ^ 32 ∷ n % 2 ^ 32 ∷ map word_of (floats_of s)

pub nine : (n : ℕ) (s : IdentifyStatus) → length (nine_words n s) ≡ 9
nine n s = rw (length-map, six_floats)

pub report_words : (r : Report) → report_bytes r ≡ word_bytes (nine_words (packed 0 (fields_of r)) r.status)
unfolding report_bytes
report_words r =
    let n = packed 0 (fields_of r) in
    ap (λ (l : List ℕ). l ++ word_bytes (map word_of (floats_of r.status))) (three_words n)
    ∙ sym (words_append (n / 2 ^ 64 ∷ n / 2 ^ 32 % 2 ^ 32 ∷ n % 2 ^ 32 ∷ []) (map word_of (floats_of r.status)))

-- ---- the delay in its first byte
first_byte : (r : Report) → packed 0 (fields_of r) / 256 ^ 11 % 256 ≡ kind_of r.status * 64 + whole_ticks (delay_of r.status) % 16 * 4 + half_tick (delay_of r.status) * 2
first_byte r = omega (arith, kind_small r.status, first_bits r)

d_found : (k d h : ℕ) → d < 16 → h < 2 → (k * 64 + d * 4 + h * 2) / 4 % 16 ≡ d
d_found k d h x y = omega arith

half_found : (k d h : ℕ) → h < 2 → (k * 64 + d * 4 + h * 2) / 2 % 2 ≡ h
half_found k d h y = omega arith

-- a report tells the delay that its status keeps, whatever follows it
pub delay_told : (r : Report) (more : List ℕ) → whole_ticks (delay_of r.status) < 16 → Tells (report_bytes r ++ more) (delay_of r.status)
unfolding d_read half_read report_bytes bytes_of
delay_told r more h =
    let k = kind_of r.status in
    let d = whole_ticks (delay_of r.status) in
    let t = half_tick (delay_of r.status) in
    let cut : d % 16 ≡ d = omega arith in
    (rw (first_byte r, cut) (d_found k d t h (omega arith)), rw (first_byte r) (half_found k (d % 16) t (omega arith)))
