-- What an opening and a step ensure follows from what they answer and leave.
use Rattle.std.specs.Prelude.{ℕ, Float}
use denote.Triple.Both.{Both}
use Rattle.account.specs.declared.IdentifyConfig.{IdentifyConfig}
use Rattle.probe_words.specs.Layout.{Scalars}
use Rattle.two_axis.specs.Axes.{Axis, TwoCall}
use Rattle.live_probe.specs.Live.{Written}
use Rattle.live_pair.specs.Pair.{Pair}
use Rattle.steady_probe.proofs.Flying.{begun_behind, plain_behind, steps_flight, steps_too}
use Rattle.steady_pair.specs.SteadyPair.{SteadyPairOpened, SteadyPairStepped}
use Rattle.steady_pair.proofs.SteadyPairFlying.{pair, follows}
use Rattle.pair.specs.Clauses.{PairOpens, PairSteps}

pub opens : (options : ℕ) (c : IdentifyConfig) (s : Both (Axis → Scalars) (Axis → Scalars)) (steady : Written ℕ) (dt : Written Float) (n : ℕ) → SteadyPairOpened options c s steady dt n
    → PairOpens options c s steady dt n
opens options c s steady dt n told =
    record { opening = told; flown = begun_behind pair follows options c s.entry s.exit _ _ n told; plain = plain_behind pair follows options c s.entry s.exit _ _ n told }

pub steps : (steady : ℕ) (dt : Written Float) (k : Both Pair Pair) (y : TwoCall) (offset : Both (Axis → Float) (Axis → Float)) (n : ℕ) → SteadyPairStepped steady dt k y offset n
    → PairSteps steady dt k y offset n
steps steady dt k y offset n told =
    record { flight = told; flown = steps_flight pair follows _ _ k.entry k.exit y n offset.entry offset.exit told; plain = steps_too pair follows _ _ k.entry k.exit y n offset.entry offset.exit told }
