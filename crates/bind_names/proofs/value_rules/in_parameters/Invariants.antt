use Rattle.std.proofs.Common.{ℕ, List}
use Rattle.ar_base.specs.declared.places.Place.{Place}
use Rattle.class_table.specs.Earliest.{IsEarliest, Until}
use Rattle.class_table.proofs.Looping.{AtItem}
use Rattle.hierarchy.specs.Models.{RootedModel}
use Rattle.hierarchy.specs.Units.{UnitPath}
use Rattle.hierarchy.specs.Listing.{parameters}
use Rattle.hierarchy.specs.declared.tree.ParNode.{ParNode}
use Rattle.bind_scopes.specs.Scopes.{AreScopes}
use Rattle.bind_names.specs.Breaking.{BreaksParameter}
use Rattle.bind_names.proofs.Valued.{BreaksAt}
use Rattle.bind_names.proofs.value_rules.in_parameters.Given as goal

abbrev pub invariant-loop-place : goal.invariant-loop-place
invariant-loop-place l = (m : RootedModel) (units : List UnitPath) → AreScopes m units l.scopes
    → IsEarliest (Until (AtItem l.scopes.tree.now.parameters.items
    (λ (j : ℕ) (d : ParNode) (q : Place). BreaksAt (parameters m units) (BreaksParameter m l.rule) j q)) l.place)
    l.found
