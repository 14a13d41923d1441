use Rattle.std.proofs.Common.{◌≡◌, None}
use Rattle.ar_base.specs.Lists.{AreDifferent}
use Rattle.hierarchy.specs.Units.{numbers}
use Rattle.job_inputs.specs.Labels.{is_dot}
use Rattle.job_inputs.specs.Lines.{pieces}
use Rattle.job_inputs.specs.Reads.{pieces_left, bytes_left}
use Rattle.job_inputs.proofs.PathLemmas.{IsSpelled}
use Rattle.job_inputs.proofs.paths.names_of.Given as goal

abbrev pub invariant-loop-rest : goal.invariant-loop-rest
invariant-loop-rest l = record {
  spelled : IsSpelled l.table (pieces is_dot l.path) (pieces_left l.rest) (numbers l.names.items);
  different : l.rest ≡ None → AreDifferent l.table;
}

abbrev pub decreases-loop-rest : goal.decreases-loop-rest
decreases-loop-rest l = bytes_left l.rest
