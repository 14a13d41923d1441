use Rattle.gts_core.specs.Rows.{AreDomains}
use Rattle.gts_core.proofs.rows.domains_of.Given as goal

abbrev pub invariant-loop-variable : goal.invariant-loop-variable
invariant-loop-variable l = AreDomains l.parts l.variable-index l.rows.items
