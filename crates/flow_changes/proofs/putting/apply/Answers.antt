use Rattle.std.proofs.Common.{ℕ, Bool, List, true, subst}
use Rattle.ar_base.specs.Lists.{Stands}
use Rattle.ar_meaning.specs.Dependence.{Names}
use Rattle.ar_meaning.proofs.Found.{holds}
use Rattle.gts_core.specs.View.{assign_of}
use Rattle.flow_changes.proofs.putting.apply.Goals as goal

pub apply_known-requires-clause-named : goal.apply_known-requires-clause-named
apply_known-requires-clause-named c =
    subst (λ (z : List Bool). (n : ℕ) → Names (assign_of c.args.assign.now) n → Stands z n true) c.deref.ensures.value
    (holds _ c.names_marked.result c.if-names_marked.true c.names_marked.ensures)
