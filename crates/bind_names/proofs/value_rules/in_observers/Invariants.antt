use Rattle.std.proofs.Common.{ℕ, List}
use Rattle.ar_base.specs.declared.places.Place.{Place}
use Rattle.class_table.specs.Earliest.{IsEarliest, Until}
use Rattle.class_table.proofs.Looping.{AtItem}
use Rattle.hierarchy.specs.Models.{RootedModel}
use Rattle.hierarchy.specs.Units.{UnitPath}
use Rattle.hierarchy.specs.Listing.{observers}
use Rattle.hierarchy.specs.declared.tree.MemNode.{MemNode}
use Rattle.bind_scopes.specs.Scopes.{AreScopes}
use Rattle.bind_names.specs.Breaking.{BreaksObserver}
use Rattle.bind_names.proofs.Valued.{BreaksAt}
use Rattle.bind_names.proofs.value_rules.in_observers.Given as goal

abbrev pub invariant-loop-node : goal.invariant-loop-node
invariant-loop-node l = (m : RootedModel) (units : List UnitPath) → AreScopes m units l.scopes
    → IsEarliest (Until (AtItem l.scopes.tree.now.observers.items
    (λ (j : ℕ) (d : MemNode) (q : Place). BreaksAt (observers m units) (BreaksObserver m l.rule) j q)) l.node-index)
    l.found
