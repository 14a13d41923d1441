-- Assignments that may give values outside the domains of their targets.
use Rattle.gts_core.specs.View.{net_of, variable_of, assign_of}
use Rattle.gts_core.specs.declared.system.Assign.{Assign}
use Rattle.gts_core.specs.declared.system.Variable.{Variable}
use Rattle.gts_core.specs.declared.system.GtsParts.{GtsParts}
use Rattle.eq_build.specs.Steps.{MayLeave}

-- the assignment may give a value outside the domain of this variable
abbrev pub MayGiveOutside : Variable → Assign → GtsParts → Type 0
MayGiveOutside x a p = MayLeave (net_of p) (assign_of a) (variable_of a.target.n x)
