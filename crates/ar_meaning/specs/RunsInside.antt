-- Definitions beside those of Runs, of which clauses inside the program speak: what the whole program promises does not
-- rest on them.
use Rattle.std.specs.Prelude.{List}
use Rattle.ar_base.specs.Lists.{IsOneOf}
use Rattle.ar_meaning.specs.Systems.{System, Way}
use Rattle.ar_meaning.specs.Runs.{Label, IsWay, Command, Fire}

-- each label that one of the commands fires names a way
pub record FiresWays {V : Type 0} (sys : System V) (cs : List Command) : Type 0 where
  pub each : (l : Label) → IsOneOf cs (Fire l) → (w : Way V) × IsWay sys l w
