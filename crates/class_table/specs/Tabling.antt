-- The first stage behind the grammar: the table of a model, or the first of the rules L1 to L5 that it breaks.
use Rattle.std.specs.Prelude.{ℕ, List, Option, Result, Ok, Err}
use Rattle.ar_base.specs.Breach.{IsBroken, AreKept}
use Rattle.ar_base.specs.declared.faults.RuleFault.{RuleFault}
use Rattle.ar_base.specs.declared.faults.RuleFault.TheVariants.{Rule}
use Rattle.ar_base.specs.declared.places.Place.{Place}
use Rattle.ar_syntax.specs.declared.items.Model.{Model}
use Rattle.class_table.specs.Declaring.{Declared, IsDeclared}
use Rattle.class_table.specs.TablesInside.{IsTableOfModel}
use Rattle.class_table.specs.Rules.{BreaksTextRule, text_rules}
use Rattle.class_table.specs.declared.tables.Classes.{Classes}

-- the main block is asked for by its name, or not
pub data Tabulates (main : Option (List ℕ)) (model : Model) : Result Classes RuleFault → Type 0 where
  table : {c : Classes} (d : Declared) → IsTableOfModel model main d c → AreKept text_rules (BreaksTextRule model main
      d) → Tabulates main model (Ok c)
  breach : {r : ℕ} {p : Place} (d : Declared) → IsDeclared model d → IsBroken text_rules (BreaksTextRule model main d) r
      p → Tabulates main model (Err (Rule r p))
