use Rattle.std.proofs.Common.{◌≡◌, ℕ, map, drop}
use Rattle.ar_meaning.specs.Systems.{System}
use Rattle.gts_core.specs.View.{Views}
use Rattle.job_inputs.specs.Flat.{command_of}
use Rattle.replayer.specs.Settling.{IsRunning}
use Rattle.replayer.proofs.settling.run.Given as goal

-- the run has come so far, and nothing is written
abbrev pub invariant-loop-command : goal.invariant-loop-command
invariant-loop-command g l = record {
  same : l.stepper.system ≡ l.gts;
  silent : (system : System ℕ) → Views l.gts system → g.K.Sink.state l.out ≡ g.K.Sink.state l.fn.out;
  running : (system : System ℕ) → Views l.gts system
      → IsRunning system (map (command_of l.gts) l.commands) l.stepper
      (map (command_of l.gts) (drop l.command-index l.commands));
}
