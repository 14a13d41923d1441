-- What the tests of rules L1 to L5 are given.
use Rattle.std.specs.Prelude.{List, Some, None, Result, Ok, Err}
use Rattle.ar_base.specs.Lists.{Along}
use Rattle.ar_base.specs.Numbers.{NameId}
use Rattle.ar_base.specs.declared.faults.RuleFault.{RuleFault}
use Rattle.ar_base.specs.declared.faults.RuleFault.TheVariants.{Rule}
use Rattle.ar_base.specs.declared.places.Place.{Place}
use Rattle.ar_syntax.specs.declared.items.Item.{Item}
use Rattle.ar_syntax.specs.declared.items.Model.{Model}
use Rattle.class_table.specs.Declaring.{Declared, IsDeclared}
use Rattle.class_table.specs.Earliest.{IsEarliest}
use Rattle.class_table.specs.Laying.{AreParts}
use Rattle.class_table.specs.Rules.{BreaksItems}
use Rattle.class_table.specs.TablesInside.{IsBodyOf, IsNamedType}
use Rattle.class_table.specs.declared.declaring.Declared.{Declared as Parts}
use Rattle.class_table.specs.declared.tables.Body.{Body}
use Rattle.class_table.specs.declared.tables.TypeBody.{TypeBody}

-- the items taken apart: their parts where rule L1 is kept, else the earliest place where it is broken
pub data TakesApart (items : List Item) : Result Parts RuleFault → Type 0 where
  parts : {p : Parts} → AreParts items p → IsEarliest (BreaksItems items) None → TakesApart items (Ok p)
  wrong : {p : Parts} {at : Place} → AreParts items p → IsEarliest (BreaksItems items) (Some at) → TakesApart items (Err
      (Rule 1 at))

-- this is what the model declares, and the bodies and types are as declared
pub record AreAsDeclared (model : Model) (d : Declared) (bodies : List Body) (types : List (NameId × TypeBody))
    : Type 0 where
  pub declared : IsDeclared model d
  pub as_text : Along IsBodyOf bodies d.bodies
  pub as_types : Along (IsNamedType d.symbols) types d.types
