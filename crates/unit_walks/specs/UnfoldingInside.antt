-- Definitions beside those of Unfolding, of which clauses inside the program speak: what the whole program promises
-- does not rest on them.
use Rattle.std.specs.Prelude.{Err}
use Rattle.ar_base.specs.declared.counts.Count.{Count}
use Rattle.ar_base.specs.declared.faults.RuleFault.{RuleFault}
use Rattle.ar_base.specs.declared.faults.RuleFault.TheVariants.{Limit, Memory}
use Rattle.hierarchy.specs.Models.{RootedModel}
use Rattle.unit_walks.specs.Unfolding.{Unfolds}

-- the units pass this limit, or memory was refused
pub data RefusesUnits (m : RootedModel) : RuleFault → Type 0 where
  limit : {count : Count} → Unfolds m (Err (Limit count)) → RefusesUnits m (Limit count)
  memory : RefusesUnits m Memory
