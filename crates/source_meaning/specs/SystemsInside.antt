-- Definitions beside those of Systems, of which clauses inside the program speak: what the whole program promises does
-- not rest on them.
use Rattle.std.specs.Prelude.{List}
use Rattle.ar_meaning.specs.Systems.{System}
use Rattle.hierarchy.specs.Models.{RootedModel}
use Rattle.hierarchy.specs.Units.{UnitPath, Thing}
use Rattle.source_meaning.specs.Systems.{Declarations, AreOf, HasDeclarations}

-- The system

-- the system that the main block means, where it has these units
pub record IsSystemOfUnits (m : RootedModel) (units : List UnitPath) (sys : System Thing) : Type 0 where
  pub declarations : Declarations
  pub are : AreOf m units declarations
  pub has : HasDeclarations declarations sys
