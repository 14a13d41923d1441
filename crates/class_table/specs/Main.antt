-- The main block as it is looked for.
use Rattle.std.specs.Prelude.{◌≡◌, ℕ, List}
use Rattle.ar_base.specs.Lists.{Stands}
use Rattle.ar_base.specs.Numbers.{BodyId}
use Rattle.class_table.specs.declared.tables.Body.{Body}

-- the block's body has this name
pub record IsNamedBlock (bodies : List Body) (name : ℕ) (block : BodyId) : Type 0 where
  pub body : Body
  pub stands : Stands bodies block.n body
  pub has_name : body.name.n ≡ name
