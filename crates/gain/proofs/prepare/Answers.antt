-- `gain::prepare` meets its contract: each part is what the function that makes it ensures, and the sums of products are those of the series (proofs/Folds.antt).
use Rattle.std.proofs.Common.{◌≤◌, length, refl, ◌∙◌, arith}
use Rattle.gain.proofs.Folds.{products_are}
use Rattle.gain.proofs.prepare.Goals as goal

pub returns : goal.returns
returns c =
    let n = c.fitted_ticks-ticks in
    let cs = c.leaky_constants.new.cs in let ts = c.leaky_changes.new.ts in
    let h : n.result ≤ length cs = omega arith in
    let k : n.result ≤ length ts = omega arith in
    rw (← n.ensures) (record {
      constants = c.leaky_constants.ensures;
      changes = c.leaky_changes.ensures;
      keeps = refl;
      counts = refl;
      totals = record {
        constants = c.dot-cc.ensures ∙ products_are cs cs n.result h h;
        both = c.dot-ct.ensures ∙ products_are cs ts n.result h k;
        targets = c.dot-tt.ensures ∙ products_are ts ts n.result k k;
      };
    })
