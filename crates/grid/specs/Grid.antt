-- The grid, over any series of candidates: 01, "The integrated fit and its refinement".
use Rattle.std.specs.Prelude.{ℕ, zero, suc, ◌+◌, ◌<◌, ◌≡◌, Bool, true, false, ltb, Float, Option, Some, None}
use Rattle.std.specs.Float.Ieee.{lt, le}
use Rattle.float.specs.Values.{zero32}
use Rattle.lags.specs.Lags.{lag_count, pole_of}
use Rattle.gain.specs.declared.GainFit.{GainFit}
use Rattle.grid.specs.declared.Bracket.{Bracket}
use Rattle.grid.specs.declared.LagFit.{LagFit}

-- "A candidate carries pole, low and high bracket ends, gain and residual": a bracket, and the fit at its pole
abbrev pub lag_fit : Bracket → GainFit → LagFit
lag_fit b fit = record { bracket = b; fit = fit }

abbrev pub candidate : Bracket → Option GainFit → Option LagFit
candidate b None = None
candidate b (Some fit) = Some (lag_fit b fit)

abbrev pub pick_lag : Bool → LagFit → LagFit → LagFit
pick_lag true a b = a
pick_lag false a b = b

-- the next where its residual is strictly smaller, else the best
unfoldable pub better_of : LagFit → LagFit → LagFit
better_of best next = pick_lag (lt next.fit.residual best.fit.residual) next best

-- "the first fit is kept until a strictly smaller residual replaces it": the kept one, and the next
unfoldable pub keep_of : Option LagFit → Option LagFit → Option LagFit
keep_of k None = k
keep_of None (Some b) = Some b
keep_of (Some a) (Some b) = Some (better_of a b)

-- what is kept of the first n candidates
unfoldable pub kept_to : (ℕ → Option LagFit) → ℕ → Option LagFit
kept_to f zero = None
kept_to f (suc n) = keep_of (kept_to f n) (f n)

-- "ends are the neighbouring poles (0.0 before the first, itself after the last)", of the poles 0 to last
unfoldable pub low_end : (ℕ → Float) → ℕ → Float
low_end pole zero = zero32
low_end pole (suc i) = pole i

abbrev pub pick_end : Bool → Float → Float → Float
pick_end true a b = a
pick_end false a b = b

abbrev pub high_end : (ℕ → Float) → ℕ → ℕ → Float
high_end pole last i = pick_end (ltb i last) (pole (i + 1)) (pole i)

abbrev pub bracket_of : (ℕ → Float) → ℕ → ℕ → Bracket
bracket_of pole last i = record { pole = pole i; low = low_end pole i; high = high_end pole last i }

-- one step's candidates: each pole with its ends and its fit
abbrev pub candidates : (ℕ → Float) → ℕ → (Float → Option GainFit) → ℕ → Option LagFit
candidates pole last fit i = candidate (bracket_of pole last i) (fit (pole i))

-- the candidate that each step keeps, of the 129 poles 0 to 128
unfoldable pub kept_at : Float → (ℕ → Float → Option GainFit) → ℕ → Option LagFit
kept_at dt fit s = kept_to (candidates (pole_of dt) lag_count (fit s)) (suc lag_count)

-- b is kept of the first n candidates: it is one of them, none has a smaller residual, and none before it one as small
pub record First (f : ℕ → Option LagFit) (n : ℕ) (b : LagFit) : Type 0 where
  pub place : ℕ
  pub inside : place < n
  pub is : f place ≡ Some b
  pub least : (i : ℕ) (a : LagFit) → i < n → f i ≡ Some a → lt a.fit.residual b.fit.residual ≡ false
  pub first : (i : ℕ) (a : LagFit) → i < place → f i ≡ Some a → le a.fit.residual b.fit.residual ≡ false

-- "the first fit is kept until a strictly smaller residual replaces it", of what is kept of the first n candidates: that one, or none where none has a fit
abbrev pub KeepsFirst : (ℕ → Option LagFit) → ℕ → Option LagFit → Type 0
KeepsFirst f n None = (i : ℕ) → i < n → f i ≡ None
KeepsFirst f n (Some b) = First f n b
