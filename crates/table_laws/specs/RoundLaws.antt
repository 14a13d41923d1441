-- What the rounds come to, as laws.
use Rattle.std.specs.Prelude.{◌↔◌, List, Bool}
use Rattle.domains.specs.declared.Value.{Value}
use Rattle.ar_meaning.specs.Systems.{Net}
use Rattle.ar_meaning.specs.Facts.{HasValue}
use Rattle.ar_meaning.specs.Flows.{Flows, Total}
use Rattle.table_laws.specs.Known.{Totals}

-- the state has flows, and they are the total values of what is known
pub record HasTotals {V : Type 0} (net : Net V) (t : List Value) (known : V → Value → Bool) : Type 0 where
  pub values : List Value
  pub flows : Flows net t (Total values)
  pub are : (x : V) (v : Value) → HasValue net values x v ↔ Totals net known x v
