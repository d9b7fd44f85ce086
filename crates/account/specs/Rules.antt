-- The rules that a configuration or a call can break, and the number of the first one broken: 01, "A call turned back".
use Rattle.std.specs.Prelude.{ℕ, Bool, not, ◌&&◌, ◌||◌, cond, leb, Float}
use Rattle.std.specs.Prelude.{Option, Some, None}
use Rattle.std.specs.Float.{binary32}
use Rattle.std.specs.Float.Ieee.{add, lt, eq}
use Rattle.float.specs.Values.{zero32, whole32, finite}
use Rattle.account.specs.declared.IdentifyConfig.{IdentifyConfig}
use Rattle.account.specs.declared.IdentifyExtension.{IdentifyExtension}

-- "positive and finite"
unfoldable pub positive : Float → Bool
positive x = finite x && lt zero32 x

-- not "zero or not finite"
unfoldable pub non_zero : Float → Bool
non_zero x = finite x && not (eq x zero32)

-- "above 3,600"
unfoldable pub too_long : Float → Bool
too_long x = lt (whole32 3600) x

-- "4: extension amplitude zero or not finite. 5: extension duration not finite, below duration_s, or above 3,600."
-- "Without an extension, 4 and 5 are not tested."
unfoldable pub broken_extension : Float → Option IdentifyExtension → ℕ
broken_extension duration None = 0
broken_extension duration (Some x) =
    cond (not (non_zero x.amplitude)) 4
    (cond (not (finite x.duration_s) || lt x.duration_s duration || too_long x.duration_s) 5 0)

-- "1: amplitude zero or not finite. 2: duration_s not positive and finite, or above 3,600. 3: washout_tc_s not positive and finite."
-- The first of the rules 1 to 5 that a configuration breaks, 0 if none.
unfoldable pub broken : IdentifyConfig → ℕ
broken c =
    cond (not (non_zero c.amplitude)) 1
    (cond (not (positive c.duration_s) || too_long c.duration_s) 2
    (cond (not (positive c.washout_tc_s)) 3
    (broken_extension c.duration_s c.noisy)))

-- "7: still running and f32 elapsed_s + dt above 4,096. 8: still running with 16,777,216 ticks."
-- The elapsed time is there while the probe runs.
unfoldable pub overrun : Option Float → ℕ → Float → ℕ
overrun None ticks dt = 0
overrun (Some elapsed) ticks dt = cond (lt (whole32 4096) (add binary32 elapsed dt)) 7 (cond (leb 16_777_216 ticks) 8 0)

-- "6: dt not positive and finite, also after the end". The first of the rules 6 to 8 that a call breaks, 0 if none.
unfoldable pub refusal : Option Float → ℕ → Float → ℕ
refusal running ticks dt = cond (positive dt) (overrun running ticks dt) 6
