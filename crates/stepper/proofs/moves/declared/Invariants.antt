use Rattle.std.proofs.Common.{◌≡◌, take}
use Rattle.ar_meaning.specs.Runs.{first_values}
use Rattle.gts_core.specs.View.{variables_from}
use Rattle.stepper.proofs.moves.declared.Given as goal

abbrev pub invariant-loop-variable : goal.invariant-loop-variable
invariant-loop-variable l = l.values.items
    ≡ first_values (variables_from 0 (take l.variable-index l.parts.variables.items))
