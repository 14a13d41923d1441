-- Values that were tested.
use Rattle.std.specs.Prelude.{List, Option}
use Rattle.ar_base.specs.declared.places.Place.{Place}
use Rattle.typed_expr.specs.declared.expr.ValueKind.{ValueKind}
use Rattle.class_table.specs.Earliest.{IsEarliest}
use Rattle.hierarchy.specs.Models.{RootedModel}
use Rattle.hierarchy.specs.Units.{UnitPath, Thing}
use Rattle.hierarchy.specs.Tie.{HasAttribute}
use Rattle.hierarchy.specs.declared.tree.Attribute.{Attribute}
use Rattle.source_meaning.specs.Kinds.{IsOfKind}
use Rattle.bind_scopes.specs.Scopes.{AreScopes}
use Rattle.bind_scopes.specs.declared.scopes.Scope.TheVariants.{Constants}
use Rattle.bind_scopes.specs.declared.scopes.Scopes.{Scopes}
use Rattle.bind_names.specs.Breaking.{BreaksValueInForce}
use Rattle.bind_names.specs.Owning.{IsOwnScope}
use Rattle.bind_names.specs.declared.breaches.Rule.{Rule}

-- the value, of which this kind is wanted, breaks the rule at this place first, whichever thing it is the value of
pub record IsTested (s : Scopes) (rule : Rule) (test : Attribute × ValueKind × Option Place) : Type 0 where
  pub place : (m : RootedModel) (units : List UnitPath) (t : Thing) → AreScopes m units s
      → IsOwnScope m units t Constants → HasAttribute m units t test.0 → IsOfKind m t test.1
      → IsEarliest (BreaksValueInForce m rule t) test.2
