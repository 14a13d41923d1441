-- Total valuations.
use Rattle.std.specs.Prelude.{◌≡◌, ◌<◌, ℕ, Bool, true, false, List, [], ◌∷◌, length}
use Rattle.ar_base.specs.Lists.{Stands}
use Rattle.domains.specs.declared.Value.{Value}
use Rattle.std.specs.List.{list_all}
use Rattle.gts_core.specs.Readings.{is_met, value_in}
use Rattle.gts_core.specs.declared.system.Variable.{Variable}
use Rattle.gts_core.specs.declared.system.Assign.{Assign}
use Rattle.typed_expr.specs.Rows.{Rows, known_row_at}

-- a state variable keeps its own value, and a flow has its first fact or its reset
abbrev pub completed_value : Bool → Value → List Value → Value → Value
completed_value true own row reset = own
completed_value false own [] reset = reset
completed_value false own (v ∷ vs) reset = v

-- the first so many values of a total valuation
pub record Completed (variables : List Variable) (values : List Value) (rows : Rows) (count : ℕ)
    (total : List Value) : Type 0 where
  pub long : length total ≡ count
  pub value : (n : ℕ) (x : Variable) (v : Value) → n < count → Stands variables n x → Stands values n v
      → Stands total n (completed_value x.is_state v (known_row_at rows n) x.value)

-- whether a row has a value
abbrev pub has_some : List Value → Bool
has_some [] = false
has_some (v ∷ vs) = true

-- the first so many marks tell which rows have a value
pub record MarkKnownRows (rows : Rows) (count : ℕ) (marks : List Bool) : Type 0 where
  pub long : length marks ≡ count
  pub mark : (n : ℕ) → n < count → Stands marks n (has_some (known_row_at rows n))

-- the assignment is reached under the total valuation, and its value is not its target's
pub record Breaks (total : List Value) (a : Assign) : Type 0 where
  pub met : list_all (is_met total) a.when.items ≡ true
  pub differs : Stands total a.target.n (value_in total a.value) → ⊥
