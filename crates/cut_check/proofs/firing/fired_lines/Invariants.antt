use Rattle.std.proofs.Common.{◌≡◌, ℕ, List, length}
use Rattle.ar_meaning.specs.Systems.{System}
use Rattle.gts_core.specs.View.{Views, numbered}
use Rattle.cut_check.specs.Flat.{chain_lines}
use Rattle.cut_check.specs.Rows.{AreLineRows}
use Rattle.cut_check.specs.Truths.{HasFired, AreTruths}
use Rattle.cut_check.proofs.firing.fired_lines.Given as goal

-- the lines so far are tested
abbrev pub invariant-loop-n : goal.invariant-loop-n
invariant-loop-n l = record {
  system : l.stepper.system ≡ l.gts;
  long : length l.truths.items ≡ l.n;
  fired : (system : System ℕ) → Views l.gts system → (dropped : List ℕ) → AreLineRows l.gts dropped l.chains l.rows
      → HasFired l.gts system dropped l.fired.items l.stepper;
  truths : (system : System ℕ) → Views l.gts system → (dropped : List ℕ) → AreLineRows l.gts dropped l.chains l.rows
      → AreTruths system dropped (numbered l.observer.value) l.wanted (chain_lines l.gts l.chains) l.truths.items;
}
