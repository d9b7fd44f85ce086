-- Any plain flight, of a probe or of a pair, behind the test of its calls' dt: what an opening and a call answer and leave, and what is flown so. Beside what is kept plain
-- the caller keeps a word, not 0 where it is steady, and a first accepted dt.
use Rattle.std.specs.Prelude.{ℕ, zero, suc, ◌≡◌, Bool, cond, leb, Result, List, [], ◌∷◌, ◌++◌, Float}
use denote.Triple.Both.{Both}
use Rattle.float.specs.Values.{zero32}
use Rattle.account.specs.declared.IdentifyConfig.{IdentifyConfig}
use Rattle.steady.specs.declared.Band.{Band}
use Rattle.steady.specs.declared.SteadyClock.{SteadyClock}
use Rattle.steady.specs.Band.{turns_back}
use Rattle.steady.specs.Guarded.{without}
use Rattle.steady.specs.Kept.{band_in, clock, clock_band, clock_after}
use Rattle.rules.specs.declared.Rule.{Rule}
use Rattle.rules.specs.Numbers.{numbered}
use Rattle.live_probe.specs.Live.{over, Opening, opening, Flight, flight, value_or}

-- A kind of plain flight.
pub record Kind : Type 1 where
  -- what an opening writes, the arrays of samples, and all that is kept
  pub Scalars : Type 0
  pub Arrays : Type 0
  pub Whole : Arrays → Type 0
  pub Kept : Type 0
  pub kept : Scalars → Arrays → Kept
  pub runs : Kept → Bool
  -- a call, and where its offsets go
  pub Call : Type 0
  pub dt_of : Call → Float
  pub Offset : Type 0
  -- the answers to a list of calls: none, one more, those without what 10 stands beside, and when two are the same
  pub Answers : Type 0
  pub none : Answers
  pub more : Answers → ℕ → Offset → Answers
  pub even : List ℕ → Answers → Answers
  pub Same : Answers → Answers → Type 0
  -- the plain functions, what is flown by them, and what then holds
  pub opens : ℕ → IdentifyConfig → Scalars → Opening Scalars
  pub steps : Kept → Call → Offset → Flight Offset Kept
  pub Flown : IdentifyConfig → List Call → Answers → Kept → Type 0
  pub Flies : IdentifyConfig → List Call → Answers → Kept → Type 0
  -- of the definitions, by the band of the opening, the configuration and the calls: the claim, the account's numbers and its band, and the answers
  pub Accounted : Band → IdentifyConfig → List Call → Type 0
  pub turned : Band → IdentifyConfig → List Call → List ℕ
  pub band : Band → IdentifyConfig → List Call → Band
  pub replies : Band → IdentifyConfig → List Call → Answers

-- what an opening answers, and the scalars and the clock as it leaves them
pub record SteadyOpening (S : Type 0) : Type 0 where
  pub opening : Opening S
  pub clock : SteadyClock

abbrev pub steady_opening : {S : Type 0} → Opening S → SteadyClock → SteadyOpening S
steady_opening o w = record { opening = o; clock = w }

-- 1 to 5 leave the clock too as it was
unfoldable pub start_in : {S : Type 0} → ℕ → ℕ → SteadyClock → Opening S → SteadyOpening S
start_in zero options w o = steady_opening o (clock options zero32)
start_in (suc n) options w o = steady_opening o w

-- what a call answers and leaves, and the clock after it
pub record SteadyFlight (O K : Type 0) : Type 0 where
  pub flight : Flight O K
  pub clock : SteadyClock

abbrev pub steady_flight : {O K : Type 0} → Flight O K → SteadyClock → SteadyFlight O K
steady_flight f w = record { flight = f; clock = w }

-- the band that a word opens with: none has a first dt yet
abbrev pub start : ℕ → Band
start steady = band_in steady zero32

-- before a call that 10 turns back nothing is written
unfoldable pub readied_behind : SteadyClock → Bool → Float → (plain bytes : List ℕ) → List ℕ
readied_behind w running dt plain bytes = cond (turns_back (clock_band w) running dt) bytes plain

module _ (P : Kind) where
  -- ---- open
  -- an option of 1 is "opened as steady", of 0 "without the word"; 9 precedes all: no other has a meaning
  unfoldable pub open_behind : ℕ → IdentifyConfig → P.Scalars → SteadyClock → SteadyOpening P.Scalars
  open_behind options c s w = let o = P.opens 0 c s in cond (leb options 1) (start_in o.result options w o) (steady_opening (opening 9 s) w)

  -- an opening in these scalars, with this clock, answers n
  abbrev pub OpenedBehind : ℕ → IdentifyConfig → Both P.Scalars P.Scalars → Both SteadyClock SteadyClock → ℕ → Type 0
  OpenedBehind options c s w n = steady_opening (opening n s.exit) w.exit ≡ open_behind options c s.entry w.entry

  -- ---- step
  -- the call itself, after which the first dt is kept
  abbrev pub kept_step : SteadyClock → P.Kept → P.Call → P.Offset → SteadyFlight P.Offset P.Kept
  kept_step w k y found = let f = P.steps k y found in steady_flight f (clock_after f.result (P.runs k) (P.dt_of y) w)

  -- a call that 10 turns back changes nothing
  unfoldable pub step_behind : SteadyClock → P.Kept → P.Call → P.Offset → SteadyFlight P.Offset P.Kept
  step_behind w k y found = cond (turns_back (clock_band w) (P.runs k) (P.dt_of y)) (steady_flight (flight 10 found k) w) (kept_step w k y found)

  -- a call of what is kept here, with this clock and its offsets here, answers n
  abbrev pub SteppedBehind : Both SteadyClock SteadyClock → Both P.Kept P.Kept → P.Call → Both P.Offset P.Offset → ℕ → Type 0
  SteppedBehind w k y x n = steady_flight (flight n x.exit k.exit) w.exit ≡ step_behind w.entry k.entry y x.entry

  -- ---- flown
  -- Opened from c and stepped with these calls, in this order, with nothing written in between: each by what its contract ensures; and what the calls were answered.
  pub data FlownBehind (c : IdentifyConfig) (steady : ℕ) : List P.Call → P.Answers → P.Kept → Float → Type 0 where
    -- the scalars, the clock and the arrays hold anything
    by_open : (options : ℕ) (found : SteadyClock) (s : P.Scalars) {t : P.Scalars} {first : Float} {l : P.Arrays}
        → steady_opening (opening 0 t) (clock steady first) ≡ open_behind options c s found → P.Whole l → FlownBehind c steady [] P.none (P.kept t l) first
    by_step : {calls : List P.Call} {answers : P.Answers} {k next : P.Kept} {first later : Float} {n : ℕ} {x : P.Offset} (found : P.Offset) (y : P.Call)
        → FlownBehind c steady calls answers k first
        → steady_flight (flight n x next) (clock steady later) ≡ step_behind (clock steady first) k y found
        → FlownBehind c steady (calls ++ (y ∷ [])) (P.more answers n x) next later

  -- what it keeps and was answered are those of the plain flight over the calls that 10 did not turn back
  pub record FliesBehind (c : IdentifyConfig) (steady : ℕ) (calls : List P.Call) (answers : P.Answers) (k : P.Kept) (first : Float) : Type 0 where
    -- the claim of the definitions, for this opening and these calls
    pub accounted : P.Accounted (start steady) c calls
    -- the first dt that is kept is the account's
    pub tested : band_in steady first ≡ P.band (start steady) c calls
    pub answered : P.Same answers (P.replies (start steady) c calls)
    -- what is kept was flown by the calls that 10 did not turn back, with their answers: so it is the account's, and answers and report are the run's
    pub flown : P.Flown c (without 10 (P.turned (start steady) c calls) calls) (P.even (P.turned (start steady) c calls) answers) k
    pub flies : P.Flies c (without 10 (P.turned (start steady) c calls) calls) (P.even (P.turned (start steady) c calls) answers) k

  -- ---- as the contracts of the calls ensure it
  -- an opening of c in these scalars that answered n and left this clock, whatever the arrays hold
  abbrev pub OpensBehind : IdentifyConfig → Both P.Scalars P.Scalars → Both SteadyClock SteadyClock → ℕ → Type 0
  OpensBehind c s w n = n ≡ 0 → (l : P.Arrays) → P.Whole l → FliesBehind c w.exit.steady [] P.none (P.kept s.exit l) w.exit.first_dt_s

  -- a call y of what was flown and is kept here, with this clock, which answered n and these offsets
  abbrev pub FliesOnBehind : Both SteadyClock SteadyClock → Both P.Kept P.Kept → P.Call → Both P.Offset P.Offset → ℕ → Type 0
  FliesOnBehind w k y x n =
      (c : IdentifyConfig) (calls : List P.Call) (answers : P.Answers) → FlownBehind c w.entry.steady calls answers k.entry w.entry.first_dt_s
      → FliesBehind c w.entry.steady (calls ++ (y ∷ [])) (P.more answers n x.exit) k.exit w.exit.first_dt_s

  -- as a function says it that answers the clock in r, whatever clock stood where it goes
  abbrev pub AnswersOpening : ℕ → IdentifyConfig → Both P.Scalars P.Scalars → Result SteadyClock Rule → Type 0
  AnswersOpening options c s r = (found : SteadyClock) → OpenedBehind options c s (over found (value_or r found)) (numbered r)

  abbrev pub OpensAnswering : IdentifyConfig → Both P.Scalars P.Scalars → Result SteadyClock Rule → Type 0
  OpensAnswering c s r = (found : SteadyClock) → OpensBehind c s (over found (value_or r found)) (numbered r)

  -- "A probe opened without the word behaves as before.": an opening of c in these scalars, with options other than 1, answered n: the plain opening
  pub record OpensPlain (options : ℕ) (c : IdentifyConfig) (s : Both P.Scalars P.Scalars) (n : ℕ) : Type 0 where
    pub opened : opening n s.exit ≡ P.opens options c s.entry
    pub flown : n ≡ 0 → (l : P.Arrays) → P.Whole l → P.Flies c [] P.none (P.kept s.exit l)

  -- a call y of what is kept here, with a word of 0, answered n and these offsets: the plain call, and the first dt stays
  pub record StepsPlain (first : Both Float Float) (k : Both P.Kept P.Kept) (y : P.Call) (x : Both P.Offset P.Offset) (n : ℕ) : Type 0 where
    pub stepped : flight n x.exit k.exit ≡ P.steps k.entry y x.entry
    pub flown : (c : IdentifyConfig) (calls : List P.Call) (answers : P.Answers) → P.Flown c calls answers k.entry → P.Flies c (calls ++ (y ∷ [])) (P.more answers n x.exit) k.exit
    pub tested : first.exit ≡ first.entry
