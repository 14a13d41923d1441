-- Definitions beside those of Dependence, of which clauses inside the program speak: what the whole program promises
-- does not rest on them.
use Rattle.std.specs.Prelude.{ℕ}
use Rattle.ar_base.specs.Lists.{Stands}
use Rattle.ar_meaning.specs.Systems.{Assign, Net}
use Rattle.ar_meaning.specs.Dependence.{Names}

-- the assignment of number n names the variable
pub record IsReadBy {V : Type 0} (net : Net V) (x : V) (n : ℕ) : Type 0 where
  pub assign : Assign V
  pub stands : Stands net.assertions n assign
  pub names : Names assign x
