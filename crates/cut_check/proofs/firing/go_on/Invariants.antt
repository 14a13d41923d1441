use Rattle.std.proofs.Common.{◌≡◌, ◌≤◌, ◌-◌, ℕ, List, take, length, vec_len}
use Rattle.ar_firing.specs.Replays.{AreOpen}
use Rattle.ar_meaning.specs.Systems.{System}
use Rattle.gts_core.specs.View.{Views}
use Rattle.job_inputs.specs.Chains.{chain_labels}
use Rattle.cut_check.specs.Truths.{HasFired}
use Rattle.cut_check.proofs.firing.go_on.Given as goal

-- the ways so far are fired
abbrev pub invariant-loop-fired : goal.invariant-loop-fired
invariant-loop-fired l = record {
  system : l.stepper.system ≡ l.initial.stepper.system;
  short : vec_len l.fired ≤ length l.ways;
  front : l.fired.items ≡ take (vec_len l.fired) l.ways;
  fired : (system : System ℕ) → Views l.gts system → (dropped : List ℕ)
      → AreOpen system dropped (chain_labels l.gts l.ways)
      → HasFired l.gts system dropped l.initial.fired.items l.initial.stepper
      → HasFired l.gts system dropped l.fired.items l.stepper;
}

abbrev pub decreases-loop-fired : goal.decreases-loop-fired
decreases-loop-fired l = length l.ways - vec_len l.fired
