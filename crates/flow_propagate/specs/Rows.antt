-- Rows of facts: the values known of each variable.
use Rattle.std.specs.Prelude.{◌≡◌, ◌<◌, if◌then◌else◌, ℕ, Bool, false, List, [], ◌∷◌, length, Contains}
use Rattle.ar_base.specs.Lists.{Stands}
use Rattle.domains.specs.declared.Value.{Value}
use Rattle.gts_core.specs.declared.system.Variable.{Variable}
use Rattle.typed_expr.specs.Rows.{Rows, known_row_at}

-- the first rows of a table: the value of each state variable, and nothing for a flow
pub record Starts (variables : List Variable) (values : List Value) (count : ℕ) (rows : Rows) : Type 0 where
  pub long : length rows ≡ count
  pub row : (n : ℕ) (x : Variable) (v : Value) → n < count → Stands variables n x → Stands values n v
      → known_row_at rows n ≡ (if x.is_state then v ∷ [] else [])

-- two different values in a list
pub record AreTwo (values : List Value) : Type 0 where
  pub first : Value
  pub second : Value
  pub has_first : Contains values first
  pub has_second : Contains values second
  pub differ : first ≡ second → ⊥

-- a flow with two values
abbrev pub IsTwo : Bool → List Value → Type 0
IsTwo is_state row = (is_state ≡ false) × AreTwo row
