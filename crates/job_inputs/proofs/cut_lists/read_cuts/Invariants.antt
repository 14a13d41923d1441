use Rattle.std.proofs.Common.{◌≤◌, ◌+◌, map, length}
use Rattle.gts_flatten.specs.Elaborating.{Elaborated}
use Rattle.job_inputs.specs.Chains.{cut_of, HaveKnownWays}
use Rattle.job_inputs.specs.CutReads.{HasRead}
use Rattle.job_inputs.specs.Flat.{IsOfTree}
use Rattle.job_inputs.specs.Lines.{lines_of}
use Rattle.job_inputs.specs.Reads.{lines_left, bytes_left}
use Rattle.job_inputs.proofs.cut_lists.read_cuts.Given as goal

-- the lines so far have given the cuts so far
abbrev pub invariant-loop-rest : goal.invariant-loop-rest
invariant-loop-rest l = record {
  small : l.number + bytes_left l.rest ≤ length l.text + 2;
  reached : (x : Elaborated) → IsOfTree x l.tree l.gts
      → HasRead x (lines_of l.text) (lines_left l.rest) (map (cut_of l.gts) l.chains.items) l.number;
  known : (x : Elaborated) → IsOfTree x l.tree l.gts → HaveKnownWays l.gts l.chains.items;
}

abbrev pub decreases-loop-rest : goal.decreases-loop-rest
decreases-loop-rest l = bytes_left l.rest
