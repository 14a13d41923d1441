-- Which numbers variables and events have, and the kinds of observers.
use Rattle.std.specs.Prelude.{◌≡◌, ℕ, Some}
use Rattle.ar_meaning.specs.FlatOf.{IsNumber}
use Rattle.ar_syntax.specs.declared.expressions.RawExpr.{RawExpr}
use Rattle.ar_syntax.specs.declared.members.TypeForm.{TypeForm}
use Rattle.gts_core.specs.declared.system.Observer.{Observer}
use Rattle.class_table.specs.Members as given
use Rattle.hierarchy.specs.Models.{RootedModel}
use Rattle.hierarchy.specs.Units.{Thing, kind_at}
use Rattle.hierarchy.specs.Listing.{variables, events}
use Rattle.source_meaning.specs.Kinds.{kind_of_type}
use Rattle.source_meaning.specs.Systems.{Declarations}

-- number n stands for the variable, or the event, at place n of the list
abbrev pub IsVariableNumber : Declarations → Thing → ℕ → Type 0
IsVariableNumber d = IsNumber (variables d.model d.units)

abbrev pub IsEventNumber : Declarations → Thing → ℕ → Type 0
IsEventNumber d = IsNumber (events d.model d.units)

-- the kind of an observer is that of its type
pub data HasObserverKind (m : RootedModel) (t : Thing) (o : Observer) : Type 0 where
  kind : (type : TypeForm) (e : RawExpr) → kind_at m t.unit t.name ≡ Some (given.Observer type e)
      → kind_of_type m type ≡ Some o.kind
      → HasObserverKind m t o
