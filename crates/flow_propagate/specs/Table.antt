-- Tables of facts: a row of values for each variable.
use Rattle.std.specs.Prelude.{◌≡◌, ℕ, ◌⊎◌, Bool, true, false, List, length, Option, Contains}
use Rattle.domains.specs.Domains as domains
use Rattle.domains.specs.declared.Domain.{Domain}
use Rattle.domains.specs.declared.Value.{Value}
use Rattle.typed_expr.specs.Rows.{Rows, known_row_at}
use Rattle.typed_expr.specs.Yields.{Yields}
use Rattle.typed_expr.specs.declared.expr.Expr.{out-Expr}
use Rattle.ar_meaning.specs.Systems.{Assign, Net}
use Rattle.ar_meaning.specs.Facts.{PassesConditions, Allows, FactOf}
use Rattle.ar_meaning.specs.Reached as reached

-- the table has the value for the variable
abbrev pub TableHolds : Rows → ℕ → Value → Type 0
TableHolds rows n v = Contains (known_row_at rows n) v

-- the table has no more than the facts of the state
abbrev pub IsSoundTable : Net ℕ → List Value → Rows → Type 0
IsSoundTable net t rows = (n : ℕ) (v : Value) → TableHolds rows n v → FactOf net t n v

-- the table has what the assignment adds to it
abbrev pub IsClosed : Net ℕ → Rows → Assign ℕ → Type 0
IsClosed net rows a = (v : Value) → PassesConditions (TableHolds rows) a.conditions → Yields (TableHolds rows) (out-Expr ℕ
    a.value) v → Allows net a.target v → TableHolds rows a.target v

-- the table keeps its facts, and may have got more of them
pub record Moves (net : Net ℕ) (old new : Rows) : Type 0 where
  pub long : length new ≡ length old
  pub grows : (n : ℕ) (v : Value) → TableHolds old n v → TableHolds new n v
  pub sound : (t : List Value) → IsSoundTable net t old → IsSoundTable net t new

-- the table has exactly the facts of the state
pub record AreFacts (net : Net ℕ) (t : List Value) (rows : Rows) : Type 0 where
  pub sound : (n : ℕ) (v : Value) → TableHolds rows n v → FactOf net t n v
  pub complete : (n : ℕ) (v : Value) → FactOf net t n v → TableHolds rows n v

-- what an assignment yields from the table, or that it is not reached
abbrev pub YieldsFromTable : Rows → Assign ℕ → Option (List Value) → Type 0
YieldsFromTable rows a set = reached.YieldsWhereReached (TableHolds rows) a set

-- the table got a value of the domain for a variable
pub record GainsValue (domain : Domain) (target : ℕ) (old new : Rows) : Type 0 where
  pub value : Value
  pub allowed : domains.Holds domain value
  pub was_not : TableHolds old target value → ⊥
  pub is : TableHolds new target value

-- one value more for a variable, where its domain has the value and the table lacked it
pub record PutsValue (domain : Domain) (target : ℕ) (v : Value) (old new : Rows) (changed : Bool) : Type 0 where
  pub long : length new ≡ length old
  pub grows : (n : ℕ) (w : Value) → TableHolds old n w → TableHolds new n w
  pub only : (n : ℕ) (w : Value) → TableHolds new n w → TableHolds old n w ⊎ ((n ≡ target) × (w ≡ v) × domains.Holds domain w)
  pub still : changed ≡ false → new ≡ old
  pub there : domains.Holds domain v → TableHolds new target v
  pub gains : changed ≡ true → GainsValue domain target old new

-- these values for a variable, those of them that its domain has
pub record PutsAll (domain : Domain) (target : ℕ) (values : List Value) (old new : Rows) (changed : Bool) : Type 0 where
  pub long : length new ≡ length old
  pub grows : (n : ℕ) (w : Value) → TableHolds old n w → TableHolds new n w
  pub only : (n : ℕ) (w : Value) → TableHolds new n w
      → TableHolds old n w ⊎ ((n ≡ target) × Contains values w × domains.Holds domain w)
  pub still : changed ≡ false → new ≡ old
  pub there : (w : Value) → Contains values w → domains.Holds domain w → TableHolds new target w
  pub gains : changed ≡ true → GainsValue domain target old new
