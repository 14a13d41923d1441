use Rattle.std.proofs.Common.{◌≡◌, map}
use Rattle.std.specs.List.{list_all}
use Rattle.job_inputs.specs.CutLines.{is_comma, is_label, trimmed}
use Rattle.job_inputs.specs.CutReads.{commas_left}
use Rattle.job_inputs.specs.Lines.{pieces}
use Rattle.job_inputs.specs.Reads.{bytes_left}
use Rattle.job_inputs.proofs.cut_lines.each_is_label.Given as goal

-- the texts so far are labels
abbrev pub invariant-loop-rest : goal.invariant-loop-rest
invariant-loop-rest l = list_all is_label (map trimmed (pieces is_comma l.inner))
    ≡ list_all is_label (map trimmed (commas_left l.rest))

abbrev pub decreases-loop-rest : goal.decreases-loop-rest
decreases-loop-rest l = bytes_left l.rest
