use Rattle.std.proofs.Common.{◌≡◌, ℕ, map, drop}
use Rattle.ar_meaning.specs.Systems.{System}
use Rattle.gts_core.specs.View.{Views}
use Rattle.gts_flatten.specs.Flat.{naming_of_parts}
use Rattle.job_inputs.specs.Flat.{command_of}
use Rattle.replayer.specs.Observing.{IsLatest}
use Rattle.replayer.specs.Playing.{AreTotal, IsPlayed}
use Rattle.replayer.proofs.replaying.play.Given as goal

abbrev pub invariant-loop-command : goal.invariant-loop-command
invariant-loop-command g l = record {
  same : l.stepper.system ≡ l.gts;
  totals : AreTotal l.gts l.stepper.below;
  latest : IsLatest l.gts l.stepper.values l.latest;
  played : (system : System ℕ) → Views l.gts system
      → IsPlayed (naming_of_parts l.gts) system (map (command_of l.gts) l.commands) l.stepper
      (map (command_of l.gts) (drop l.command-index l.commands)) (g.K.Sink.state l.fn.out) (g.K.Sink.state l.out);
}
