use Rattle.std.proofs.Common.{◌<◌, ℕ}
use Rattle.ar_base.specs.Lists.{Stands}
use Rattle.gts_core.specs.declared.system.Assign.{Assign}
use Rattle.flow_propagate.specs.Totals.{Breaks}
use Rattle.flow_propagate.proofs.totals.first_broken.Given as goal

abbrev pub invariant-loop-place : goal.invariant-loop-place
invariant-loop-place l = (k : ℕ) (a : Assign) → k < l.place → Stands l.parts.assigns.items k a → Breaks l.total a → ⊥
