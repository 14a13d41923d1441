use Rattle.std.proofs.Common.{◌≡◌, take, map}
use Rattle.eq_build.specs.Views.{lists_in}
use Rattle.tree_equations.specs.Answers.{init_of}
use Rattle.tree_equations.proofs.first_rows.init_rows.Given as goal

abbrev pub invariant-loop-variable : goal.invariant-loop-variable
invariant-loop-variable l = lists_in l.rows.items ≡ map init_of (take l.variable-index l.variables)
