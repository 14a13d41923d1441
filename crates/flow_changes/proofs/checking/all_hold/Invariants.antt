use Rattle.std.proofs.Common.{ℕ, take}
use Rattle.ar_base.specs.Lists.{IsOneOf, Stands}
use Rattle.ar_meaning.specs.Flows.{IsBrokenAssign}
use Rattle.gts_core.specs.View.{net_of, assign_of}
use Rattle.gts_core.specs.declared.system.Assign.{Assign}
use Rattle.flow_changes.proofs.checking.all_hold.Given as goal

abbrev pub invariant-loop-place : goal.invariant-loop-place
invariant-loop-place l = (q n : ℕ) (a : Assign) → IsOneOf (take l.place-index l.list) q → Stands l.order q n
    → Stands l.parts.assigns.items n a → IsBrokenAssign (net_of l.parts) l.values (assign_of a) → ⊥
