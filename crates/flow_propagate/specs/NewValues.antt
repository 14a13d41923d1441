-- New values of state variables.
use Rattle.std.specs.Prelude.{◌≡◌, ℕ, true, List, [], ◌∷◌, map, slice_set}
use Rattle.ar_base.specs.Lists.{Stands, IsOneOf}
use Rattle.ar_base.specs.Numbers.{VarId}
use Rattle.ar_base.specs.Sets.{Ascends}
use Rattle.domains.specs.Domains.{Holds}
use Rattle.domains.specs.declared.Value.{Value}
use Rattle.gts_core.specs.declared.system.Variable.{Variable}
use Rattle.gts_core.specs.declared.system.GtsParts.{GtsParts}

-- the valuation in which these variables have these values
abbrev pub written : List Value → List (VarId × Value) → List Value
written t [] = t
written t (r ∷ more) = written (slice_set t r.0.n r.1) more

-- the state variable gets a value of its domain
pub record IsNewValue (p : GtsParts) (r : VarId × Value) : Type 0 where
  pub variable : Variable
  pub stands : Stands p.variables.items r.0.n variable
  pub is_state : variable.is_state ≡ true
  pub in_domain : Holds variable.domain r.1

-- values of their domains for state variables, ascending, each variable once
pub record AreNewValues (p : GtsParts) (new : List (VarId × Value)) : Type 0 where
  pub ascend : Ascends (map (λ (r : VarId × Value). r.0.n) new)
  pub each : (r : VarId × Value) → IsOneOf new r → IsNewValue p r

-- the variable of this number gets a new value
pub record IsRenewed (new : List (VarId × Value)) (n : ℕ) : Type 0 where
  pub pair : VarId × Value
  pub is_one : IsOneOf new pair
  pub is : pair.0.n ≡ n
