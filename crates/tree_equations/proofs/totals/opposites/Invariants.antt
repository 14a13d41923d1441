use Rattle.std.proofs.Common.{◌≡◌, take}
use Rattle.eq_build.specs.Views.{operands_in, entries_in}
use Rattle.eq_build.specs.Steps.{opposites}
use Rattle.tree_equations.proofs.totals.opposites.Given as goal

abbrev pub invariant-loop-entry : goal.invariant-loop-entry
invariant-loop-entry l = operands_in l.operands.items ≡ opposites (entries_in (take l.entry-index l.row))
