use Rattle.std.proofs.Common.{ℕ, List, IfSome}
use Rattle.ar_base.specs.declared.places.Place.{Place}
use Rattle.class_table.specs.Earliest.{IsEarliest, Until}
use Rattle.class_table.proofs.Looping.{AtItem}
use Rattle.hierarchy.specs.Models.{RootedModel}
use Rattle.hierarchy.specs.Units.{UnitPath}
use Rattle.hierarchy.specs.Listing.{variables}
use Rattle.hierarchy.specs.declared.tree.VarNode.{VarNode}
use Rattle.bind_scopes.specs.Scopes.{AreScopes}
use Rattle.bind_names.specs.Breaking.{BreaksValueInForce}
use Rattle.bind_names.specs.Testing.{IsTested}
use Rattle.bind_names.proofs.Valued.{BreaksAt}
use Rattle.bind_names.proofs.value_rules.in_variables.Given as goal

abbrev pub invariant-loop-node : goal.invariant-loop-node
invariant-loop-node l = record {
  found : (m : RootedModel) (units : List UnitPath) → AreScopes m units l.scopes
      → IsEarliest (Until (AtItem l.scopes.tree.now.variables.items
      (λ (j : ℕ) (d : VarNode) (q : Place). BreaksAt (variables m units) (BreaksValueInForce m l.rule) j q)) l.node-index)
      l.found;
  last : IfSome l.last (IsTested l.scopes l.rule);
}
