-- What the opening and the step of a pair in its caller's memory ensure, each of what it was lent, named once.
use Rattle.std.specs.Prelude.{ℕ, ◌≡◌, ◌≢◌, Float}
use denote.Triple.Both.{Both}
use Rattle.account.specs.declared.IdentifyConfig.{IdentifyConfig}
use Rattle.probe_words.specs.Layout.{Scalars}
use Rattle.two_axis.specs.Axes.{Axis, TwoCall}
use Rattle.live_probe.specs.Live.{Written}
use Rattle.live_pair.specs.Pair.{Pair}
use Rattle.steady_pair.specs.SteadyPair.{SteadyPairOpened, SteadyPairStepped}
use Rattle.steady_pair.specs.SteadyPairFlown.{OpensSteadyPair, OpensPlainPair, SteadyPairFliesOn, StepsPlainPair}

-- an opening of c in these scalars, with this word and this first dt, answers n
pub record PairOpens (options : ℕ) (c : IdentifyConfig) (s : Both (Axis → Scalars) (Axis → Scalars)) (steady : Written ℕ) (dt : Written Float) (n : ℕ) : Type 0 where
  pub opening : SteadyPairOpened options c s steady dt n
  pub flown : OpensSteadyPair c s steady dt n
  pub plain : options ≢ 1 → OpensPlainPair options c s n

-- a call y of what is kept here, with this word, this first dt and its offsets here, answers n
pub record PairSteps (steady : ℕ) (dt : Written Float) (k : Both Pair Pair) (y : TwoCall) (offset : Both (Axis → Float) (Axis → Float)) (n : ℕ) : Type 0 where
  pub flight : SteadyPairStepped steady dt k y offset n
  pub flown : SteadyPairFliesOn steady dt k y offset n
  pub plain : steady ≡ 0 → StepsPlainPair dt k y offset n
