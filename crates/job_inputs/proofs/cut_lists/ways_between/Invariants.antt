use Rattle.std.proofs.Common.{map}
use Rattle.gts_flatten.specs.Elaborating.{Elaborated}
use Rattle.job_inputs.specs.CutLines.{is_comma, trimmed}
use Rattle.job_inputs.specs.Chains.{chain_labels}
use Rattle.job_inputs.specs.CutReads.{AreKnownWays, AreLabelsSoFar, commas_left}
use Rattle.job_inputs.specs.Flat.{IsOfTree}
use Rattle.job_inputs.specs.Lines.{pieces}
use Rattle.job_inputs.specs.Reads.{bytes_left}
use Rattle.job_inputs.proofs.cut_lists.ways_between.Given as goal

-- the texts so far are labels of the ways so far
abbrev pub invariant-loop-rest : goal.invariant-loop-rest
invariant-loop-rest l = record {
  reached : (x : Elaborated) → IsOfTree x l.tree l.gts
      → AreLabelsSoFar x (map trimmed (pieces is_comma l.inner)) (map trimmed (commas_left l.rest))
      (chain_labels l.gts l.ways.items);
  known : (x : Elaborated) → IsOfTree x l.tree l.gts → AreKnownWays l.gts l.ways.items;
}

abbrev pub decreases-loop-rest : goal.decreases-loop-rest
decreases-loop-rest l = bytes_left l.rest
