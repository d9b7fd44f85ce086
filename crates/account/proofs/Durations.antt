-- After every list of calls the window's duration is a finite f32 with no minus sign: while there is room it is the elapsed time, which rule 7 keeps at 4,096 s or below, and a full window's stays as it is.
use Prim.Native.Nat.{ℕ, zero, suc, ◌+◌, ◌*◌}
use mathlib.Core.Path.{◌≡◌, refl, sym, ap, ◌∙◌}
use mathlib.Core.Bool.{Bool, true, false, cond, true≢false}
use mathlib.Core.List.{List, [], ◌∷◌, ◌++◌}
use lib.Dec.{ltb}
use lib.ListN.{length}
use lib.Ieee.{Float, nan, inf, fin, binary32, up, down, of_bits, of_int, round, add, sum, lt, fits}
use lib.Ieee.Fits.{add-fits}
use Rattle.float.specs.Values.{whole32, finite}
use Rattle.float.proofs.Signs.{Signed, round_signed}
use Rattle.window.specs.Samples.{capacity, last_of}
use Rattle.finite_model.proofs.Multiples.{NonNegative}
use Rattle.account.specs.declared.IdentifyConfig.{IdentifyConfig}
use Rattle.account.specs.Rules.{positive, refusal}
use Rattle.account.specs.Probe.{Call}
use Rattle.account.specs.Account.{Account, blank, entry, opened, account, counted, accept, continue, next, turned, time}
use Rattle.account.proofs.Sweeps.{passed}

-- ---- one dt more
late : lt (whole32 4096) (inf false) ≡ true
unfolding lt of_int round
late = refl

in_range : (y : Float) → Signed false y → lt (whole32 4096) y ≡ false → finite y ≡ true
unfolding finite
in_range nan s h = absurd s
in_range (inf true) s h = absurd (true≢false s)
in_range (inf false) s h = absurd (true≢false (sym late ∙ h))
in_range (fin t m e) s h = refl

added : (x dt : Float) → finite x ≡ true → Signed false x → positive dt ≡ true → Signed false (add binary32 x dt)
unfolding finite positive lt of_bits add sum
added nan dt f s p = absurd s
added (inf t) dt f s p = absurd (true≢false (sym f))
added (fin true m e) dt f s p = absurd (true≢false s)
added (fin false m e) nan f s p = absurd (true≢false (sym p))
added (fin false m e) (inf t) f s p = absurd (true≢false (sym p))
added (fin false m e) (fin true n d) f s p = absurd (true≢false (sym p))
added (fin false m e) (fin false n d) f s p = round_signed binary32 false (m * up e * down d + n * up d * down e) (down e * down d)

longer : (x dt : Float) → NonNegative x → positive dt ≡ true → lt (whole32 4096) (add binary32 x dt) ≡ false → NonNegative (add binary32 x dt)
longer x dt h p l =
    let s = added x dt h.real.real h.plus p in
    record { real = record { real = in_range (add binary32 x dt) s l; held = add-fits binary32 x dt }; plus = s }

-- ---- one call more
record Lasts (a : Account) : Type 0 where
  plus : NonNegative a.duration
  same : ltb (length a.entries) capacity ≡ true → a.duration ≡ a.elapsed

accepts : (a : Account) (c : Call) → positive c.dt ≡ true → lt (whole32 4096) (add binary32 a.elapsed c.dt) ≡ false → Lasts a → Lasts (accept a c)
unfolding accept counted
accepts a c p l h = let r = go (ltb (length a.entries) capacity) refl in record { plus = r.0; same = r.1 }
  where
    go : (b : Bool) → ltb (length a.entries) capacity ≡ b
        → NonNegative (cond b (add binary32 a.duration c.dt) a.duration)
        × (ltb (length (cond b (a.entries ++ (entry (last_of blank a.entries) c ∷ [])) a.entries)) capacity ≡ true → cond b (add binary32 a.duration c.dt) a.duration ≡ add binary32 a.elapsed c.dt)
    go true e = let d = h.same e in (longer a.duration c.dt h.plus p (rw d l), λ t. ap (λ (x : Float). add binary32 x c.dt) d)
    go false e = (h.plus, λ t. absurd (true≢false (sym t ∙ e)))

continues : (n : ℕ) (r : Bool) (a : Account) (c : Call) → refusal (time r a) a.ticks c.dt ≡ n → Lasts a → Lasts (continue n r a c)
unfolding continue time
continues (suc n) r a c e h = h
continues zero false a c e h = h
continues zero true a c e h = let p = passed a.elapsed a.ticks c.dt e in accepts a c p.0 p.1 h

-- ---- every list of calls
lasts : (cs : List Call) (a : Account) → Lasts a → Lasts (account a cs)
unfolding next turned
lasts [] a h = h
lasts (c ∷ cs) a h = lasts cs (next a c) (continues (turned a c) a.running a c refl h)

begins : (c : IdentifyConfig) → Lasts (opened c)
unfolding opened finite fits of_bits
begins c = record { plus = record { real = record { real = refl; held = tt }; plus = refl }; same = λ t. refl }

pub duration : (c : IdentifyConfig) (cs : List Call) → NonNegative (account (opened c) cs).duration
duration c cs = (lasts cs (opened c) (begins c)).plus
