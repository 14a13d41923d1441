use Rattle.std.proofs.Common.{ℕ, List}
use Rattle.ar_base.specs.declared.places.Place.{Place}
use Rattle.class_table.specs.Earliest.{IsEarliest, Until}
use Rattle.class_table.proofs.Looping.{AtItem}
use Rattle.hierarchy.specs.Models.{RootedModel}
use Rattle.hierarchy.specs.Units.{UnitPath}
use Rattle.hierarchy.specs.declared.tree.UnitNode.{UnitNode}
use Rattle.bind_scopes.specs.Scopes.{AreScopes}
use Rattle.bind_names.proofs.Membered.{BreaksUnitAt}
use Rattle.bind_names.proofs.member_rules.in_units.Given as goal

abbrev pub invariant-loop-place : goal.invariant-loop-place
invariant-loop-place l = (m : RootedModel) (units : List UnitPath) → AreScopes m units l.scopes
    → IsEarliest (Until (AtItem l.scopes.tree.now.units.items
    (λ (j : ℕ) (d : UnitNode) (q : Place). BreaksUnitAt m units l.rule j q)) l.place) l.found
