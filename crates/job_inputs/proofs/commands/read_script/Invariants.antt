use Rattle.std.proofs.Common.{◌≤◌, ◌+◌, map, length}
use Rattle.gts_flatten.specs.Elaborating.{Elaborated}
use Rattle.job_inputs.specs.Flat.{IsOfTree, AreFirable, command_of}
use Rattle.job_inputs.specs.Lines.{lines_of}
use Rattle.job_inputs.specs.Reads.{lines_left, bytes_left, ReachedLine}
use Rattle.job_inputs.proofs.commands.read_script.Given as goal

-- the lines so far have given the commands so far
abbrev pub invariant-loop-rest : goal.invariant-loop-rest
invariant-loop-rest l = record {
  small : l.number + bytes_left l.rest ≤ length l.text + 2;
  reached : (x : Elaborated) → IsOfTree x l.tree l.gts
      → ReachedLine x (lines_of l.text) (lines_left l.rest) (map (command_of l.gts) l.commands.items) l.number;
  firable : (x : Elaborated) → IsOfTree x l.tree l.gts → AreFirable l.gts l.commands.items;
}

abbrev pub decreases-loop-rest : goal.decreases-loop-rest
decreases-loop-rest l = bytes_left l.rest
