-- What expressions read under a total valuation.
use Rattle.std.specs.Prelude.{◌≡◌, ℕ, length, Bool, true, false, not, List, [], ◌∷◌, Option, Some, None, slice_get, unwrap_or}
use Rattle.ar_base.specs.Lists.{Stands}
use Rattle.ar_base.specs.Numbers.{VarId}
use Rattle.domains.specs.Domains.{Holds}
use Rattle.domains.specs.declared.Value.{Value}
use Rattle.domains.specs.declared.Value.TheVariants.{Truth, Whole, Symbol}
use Rattle.typed_expr.specs.Total.{value_of}
use Rattle.typed_expr.specs.declared.expr.Expr.{Expr}
use Rattle.gts_core.specs.declared.system.Variable.{Variable}
use Rattle.gts_core.specs.declared.system.GtsParts.{GtsParts}

-- a total valuation: a value for each variable, in its domain
pub record IsTotal (p : GtsParts) (t : List Value) : Type 0 where
  pub long : length t ≡ length p.variables.items
  pub in_domain : (n : ℕ) (x : Variable) (v : Value) → Stands p.variables.items n x → Stands t n v → Holds x.domain v

-- the value at a place, false past the end
abbrev pub valuation_at : List Value → ℕ → Value
valuation_at t n = unwrap_or (slice_get t n) (Truth false)

-- the value that was looked up, if there is one
abbrev pub one_or_none : Option Value → List Value
one_or_none (Some v) = v ∷ []
one_or_none None = []

-- the value at a place, if there is one
abbrev pub valuation_values : List Value → ℕ → List Value
valuation_values t n = one_or_none (slice_get t n)

-- the value of an expression
abbrev pub value_in : List Value → Expr VarId → Value
value_in t e = value_of (λ (x : VarId). valuation_at t x.n) e

-- whether the value is this truth value
abbrev pub is_truth : Value → Bool → Bool
is_truth (Truth b) true = b
is_truth (Truth b) false = not b
is_truth (Whole n) truth = false
is_truth (Symbol s) truth = false

-- whether a test has the truth value that it must have
abbrev pub is_met : List Value → Expr VarId × Bool → Bool
is_met t c = is_truth (value_in t c.0) c.1
