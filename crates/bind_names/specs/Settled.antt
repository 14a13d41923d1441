-- What is known of a tree that keeps the rules of names, kinds, values and targets.
use Rattle.std.specs.Prelude.{List}
use Rattle.ar_base.specs.declared.places.Place.{Place}
use Rattle.hierarchy.specs.Models.{RootedModel}
use Rattle.hierarchy.specs.Units.{UnitPath}
use Rattle.source_meaning.specs.Rules.{BreaksTargets}
use Rattle.bind_scopes.specs.Scopes.{AreScopes}
use Rattle.bind_scopes.specs.declared.scopes.Scopes.{Scopes}
use Rattle.bind_names.specs.Values.{AreNamesKept, AreValues}
use Rattle.bind_names.specs.declared.all_values.Values.{Values}

-- names, kinds and targets are right, and these are the values of the parameters and variables of the tree
pub record AreSettled (m : RootedModel) (units : List UnitPath) (scopes : Scopes) (known : Values) : Type 0 where
  pub are : AreScopes m units scopes
  pub names : AreNamesKept m units
  pub targets : (p : Place) → BreaksTargets m units p → ⊥
  pub values : AreValues m units scopes.tree.now known
