-- The account of a list of steps: 01's section of that name. It is fed the configuration and the calls, and nothing from the probe.
use Rattle.std.specs.Prelude.{ℕ, zero, suc, ◌+◌, Bool, true, false, not, ◌||◌, cond, ltb, length, Float}
use Rattle.std.specs.Prelude.{Option, Some, None}
use mathlib.Core.List.{List, [], ◌∷◌, ◌++◌, map, foldl}
use Rattle.std.specs.Float.{binary32}
use Rattle.std.specs.Float.Ieee.{add, lt}
use Rattle.float.specs.Values.{zero32, finite}
use Rattle.window.specs.Samples.{capacity, last_of}
use Rattle.window.specs.Runs.{runs_from}
use Rattle.recorded.specs.declared.Classified.{Classified}
use Rattle.recorded.specs.declared.Classified.TheVariants.{Recorded, Integrated, Unexcited, Saturated}
use Rattle.recorded.specs.Classify.{classify}
use Rattle.account.specs.declared.IdentifyConfig.{IdentifyConfig}
use Rattle.account.specs.declared.IdentifyExtension.{IdentifyExtension}
use Rattle.account.specs.Rules.{refusal}
use Rattle.account.specs.Probe.{Call}

pub record Entry : Type 0 where
  pub rate : Float
  pub moment : Float
  pub held : Bool

pub record Account : Type 0 where
  pub elapsed : Float
  pub ticks : ℕ
  pub entries : List Entry
  pub duration : Float
  pub end : Float
  pub unused : Option IdentifyExtension
  pub running : Bool

-- the entries' rates, moments and marks, in their order
abbrev pub rates_of : Account → List Float
rates_of a = map (λ (e : Entry). e.rate) a.entries

abbrev pub moments_of : Account → List Float
moments_of a = map (λ (e : Entry). e.moment) a.entries

abbrev pub marks_of : Account → List Bool
marks_of a = map (λ (e : Entry). e.held) a.entries

-- the class of its window
abbrev pub account_class : Account → Classified
account_class a = classify (rates_of a) (moments_of a) (marks_of a) a.duration

-- "It starts at elapsed 0, ticks 0, no entries, window duration 0, end time duration_s, extension unused, running."
unfoldable pub opened : IdentifyConfig → Account
opened c = record {
  elapsed = zero32;
  ticks = 0;
  entries = [];
  duration = zero32;
  end = c.duration_s;
  unused = c.noisy;
  running = true;
}

-- what a bad reading takes at index 0
abbrev pub blank : Entry
blank = record { rate = zero32; moment = zero32; held = false }

-- "one more of rate, moment and held mark by the window's rules": a bad reading takes the previous entry's value of its own kind
unfoldable pub entry : Entry → Call → Entry
entry previous c = record {
  rate = cond (finite c.rate) c.rate previous.rate;
  moment = cond (finite c.moment) c.moment previous.moment;
  held = not (finite c.rate) || not (finite c.moment);
}

-- "elapsed + dt, ticks + 1, and, below 2,048 entries, one more .., its dt added to window duration"
unfoldable pub counted : Account → Call → Account
counted a c =
    let b = ltb (length a.entries) capacity in
    record {
      elapsed = add binary32 a.elapsed c.dt;
      ticks = suc a.ticks;
      entries = cond b (a.entries ++ (entry (last_of blank a.entries) c ∷ [])) a.entries;
      duration = cond b (add binary32 a.duration c.dt) a.duration;
      end = a.end;
      unused = a.unused;
      running = true;
    }

-- how an accepted call leaves the account's end
pub record Going : Type 0 where
  pub end : Float
  pub unused : Option IdentifyExtension
  pub running : Bool

-- whether a class is "integrated"
unfoldable pub is_integrated : Classified → Bool
is_integrated (Recorded m) = false
is_integrated Integrated = true
is_integrated Unexcited = false
is_integrated Saturated = false

-- "'Integrated' with an unused extension makes the extension's duration the end time and uses it, and elapsed below that goes on; all else ends the account."
-- First whether the class is that one, or the other axis asks for the extension.
unfoldable pub judged : Bool → Option IdentifyExtension → Account → Going
judged true (Some x) a = record { end = x.duration_s; unused = None; running = lt a.elapsed x.duration_s }
judged true None a = record { end = a.end; unused = None; running = false }
judged false unused a = record { end = a.end; unused = unused; running = false }

-- "If elapsed is then below the end time, the account goes on. Otherwise its entries are classified as above." Whether the other axis asks, and whether elapsed is below.
unfoldable pub ended : Bool → Bool → Account → Going
ended asked true a = record { end = a.end; unused = a.unused; running = true }
ended asked false a = judged (asked || is_integrated (account_class a)) a.unused a

-- a call accepted while running
unfoldable pub accept : Account → Call → Account
accept a c =
    let b = counted a c in
    let g = ended c.asked (lt b.elapsed b.end) b in
    record {
      elapsed = b.elapsed;
      ticks = b.ticks;
      entries = b.entries;
      duration = b.duration;
      end = g.end;
      unused = g.unused;
      running = g.running;
    }

-- the elapsed time of an account, while it runs
unfoldable pub time : Bool → Account → Option Float
time true a = Some a.elapsed
time false a = None

-- the number of the rule, "6, 7 or 8 .. on the account's numbers", that turns a call back, 0 if none
unfoldable pub turned : Account → Call → ℕ
turned a c = refusal (time a.running a) a.ticks c.dt

-- "A call that 6, 7 or 8 turns back .. changes nothing; nor does any call after the end."
unfoldable pub continue : ℕ → Bool → Account → Call → Account
continue (suc n) r a c = a
continue zero false a c = a
continue zero true a c = accept a c

unfoldable pub next : Account → Call → Account
next a c = continue (turned a c) a.running a c

abbrev pub account : Account → List Call → Account
account a calls = foldl next a calls

-- for each call the number that it is turned back with, 0 if it is not
unfoldable pub turned_back : Account → List Call → List ℕ
turned_back a [] = []
turned_back a (c ∷ cs) = turned a c ∷ turned_back (next a c) cs

-- 1 for a call accepted while running, by the number that turns it back
unfoldable pub one : ℕ → Bool → ℕ
one (suc n) r = 0
one zero false = 0
one zero true = 1

-- the calls accepted while running
unfoldable pub accepted : Account → List Call → ℕ
accepted a [] = 0
accepted a (c ∷ cs) = one (turned a c) a.running + accepted (next a c) cs

-- the account's good runs
abbrev pub runs_of : Account → List (List ℕ)
runs_of a = runs_from [] 0 (marks_of a)
