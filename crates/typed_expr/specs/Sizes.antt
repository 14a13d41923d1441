-- Sets with more than so many members.
use Rattle.std.specs.Prelude.{ℕ, ◌<◌, List, length, Contains}
use Rattle.domains.specs.Values.{IsAscending}
use Rattle.domains.specs.declared.Value.{Value}

-- P holds of more than so many values: there is an ascending list of them
pub record HasMoreThan (most : ℕ) (P : Value → Type 0) : Type 0 where
  pub values : List Value
  pub ascend : IsAscending values
  pub more : most < length values
  pub each : (v : Value) → Contains values v → P v
