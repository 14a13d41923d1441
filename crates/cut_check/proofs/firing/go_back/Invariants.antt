use Rattle.std.proofs.Common.{◌≡◌, ◌≤◌, ℕ, List, take, vec_len}
use Rattle.ar_meaning.specs.Systems.{System}
use Rattle.cut_check.specs.Truths.{HasFired}
use Rattle.cut_check.proofs.firing.go_back.Given as goal

-- what was fired was taken back so far
abbrev pub invariant-loop-stepper : goal.invariant-loop-stepper
invariant-loop-stepper l = record {
  system : l.stepper.system ≡ l.initial.stepper.system;
  long : l.shared ≤ vec_len l.fired;
  front : l.fired.items ≡ take (vec_len l.fired) l.initial.fired.items;
  fired : (system : System ℕ) (dropped : List ℕ) → HasFired l.gts system dropped l.initial.fired.items l.initial.stepper
      → HasFired l.gts system dropped l.fired.items l.stepper;
}

abbrev pub decreases-loop-stepper : goal.decreases-loop-stepper
decreases-loop-stepper l = vec_len l.fired
