-- Definitions beside those of Facts, of which clauses inside the program speak: what the whole program promises does
-- not rest on them.
use Rattle.std.specs.Prelude.{◌≡◌, ℕ}
use Rattle.ar_base.specs.Lists.{Stands}
use Rattle.ar_meaning.specs.Systems.{Variable, Net}

-- no two variables have one key
pub record AreKeyed {V : Type 0} (net : Net V) : Type 0 where
  pub one : (m n : ℕ) (x y : Variable V) → Stands net.variables m x → Stands net.variables n y → x.key ≡ y.key → m ≡ n

-- what stands for a variable is its number
pub record AreNumberedVariables (net : Net ℕ) : Type 0 where
  pub key : (n : ℕ) (x : Variable ℕ) → Stands net.variables n x → x.key ≡ n
