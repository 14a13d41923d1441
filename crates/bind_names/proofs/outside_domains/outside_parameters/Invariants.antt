use Rattle.std.proofs.Common.{ℕ, List}
use Rattle.ar_base.specs.Lists.{Along}
use Rattle.ar_base.specs.declared.places.Place.{Place}
use Rattle.class_table.specs.Earliest.{IsEarliest, Until}
use Rattle.class_table.proofs.Looping.{AtItem}
use Rattle.hierarchy.specs.Models.{RootedModel}
use Rattle.hierarchy.specs.Units.{UnitPath}
use Rattle.hierarchy.specs.Listing.{parameters}
use Rattle.hierarchy.specs.declared.tree.ParNode.{ParNode}
use Rattle.bind_scopes.specs.Scopes.{AreScopes}
use Rattle.bind_names.specs.Values.{IsParameterValue}
use Rattle.bind_names.proofs.OutsideDomains.{BreaksAt}
use Rattle.bind_names.proofs.outside_domains.outside_parameters.Given as goal

abbrev pub invariant-loop-place : goal.invariant-loop-place
invariant-loop-place l = (m : RootedModel) (units : List UnitPath) → AreScopes m units l.scopes
    → Along (IsParameterValue m) (parameters m units) l.values
    → IsEarliest (Until (AtItem l.scopes.tree.now.parameters.items
    (λ (j : ℕ) (d : ParNode) (q : Place). BreaksAt m units (parameters m units) j q)) l.place) l.found
