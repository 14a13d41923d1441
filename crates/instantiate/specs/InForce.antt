-- Values that settings put in force, as they are kept.
use Rattle.std.specs.Prelude.{List, Option, Some, None}
use Rattle.hierarchy.specs.Units.{UnitPath}
use Rattle.hierarchy.specs.Settings as s
use Rattle.hierarchy.specs.Tie.{IsAttribute}
use Rattle.hierarchy.specs.declared.tree.Attribute.{Attribute}

-- the value in code is this one, as far as there is one
pub data AreAttribute (units : List UnitPath) : Option s.Attribute → Option Attribute → Type 0 where
  none : AreAttribute units None None
  some : {a : s.Attribute} {b : Attribute} → IsAttribute units a b → AreAttribute units (Some a) (Some b)
