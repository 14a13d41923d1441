-- Definitions beside those of Rounds, of which clauses inside the program speak: what the whole program promises does
-- not rest on them.
use Rattle.std.specs.Prelude.{◌≡◌, ℕ, List}
use Rattle.ar_base.specs.Lists.{Stands, IsOneOf}
use Rattle.domains.specs.declared.Value.{Value}
use Rattle.ar_meaning.specs.Systems.{Variable, Net}

-- of the facts those of these variables alone
pub record OfThese {V : Type 0} (net : Net V) (numbers : List ℕ) (facts : V → Value → Type 0) (x : V) (v : Value) : Type
    0 where
  pub place : ℕ
  pub is_one : IsOneOf numbers place
  pub variable : Variable V
  pub stands : Stands net.variables place variable
  pub is_key : variable.key ≡ x
  pub has : facts x v
