-- The exit status of each way to end.
use Rattle.std.specs.Prelude.{ℕ}
use Rattle.job_stages.specs.declared.status.Status.{Status}
use Rattle.job_stages.specs.declared.status.Status.TheVariants.{Done, Usage, Syntax, Rule, Outside, Fault, Nodes, Read, Write, Memory, Size, Script}

-- the program's exit status where it ends so
abbrev pub number_of : Status → ℕ
number_of Done = 0
number_of Usage = 1
number_of Syntax = 2
number_of Rule = 3
number_of Outside = 4
number_of Fault = 5
number_of Nodes = 6
number_of Read = 7
number_of Write = 8
number_of Memory = 9
number_of Size = 10
number_of Script = 11
