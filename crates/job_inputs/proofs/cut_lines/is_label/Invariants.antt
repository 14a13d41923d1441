use Rattle.std.proofs.Common.{◌≡◌, true, take}
use Rattle.std.specs.List.{list_all}
use Rattle.job_inputs.specs.CutLines.{is_of_label}
use Rattle.job_inputs.proofs.cut_lines.is_label.Given as goal

abbrev pub invariant-loop-byte : goal.invariant-loop-byte
invariant-loop-byte l = list_all is_of_label (take l.byte-index l.text) ≡ true
