use Rattle.std.proofs.Common.{take}
use Rattle.ar_base.specs.Lists.{Along}
use Rattle.gts_flatten.specs.Making.{IsSameVariable}
use Rattle.gts_flatten.proofs.copying.copy_variables.Given as goal

abbrev pub invariant-loop-variable : goal.invariant-loop-variable
invariant-loop-variable l = Along IsSameVariable (take l.variable-index l.variables) l.copies.items
