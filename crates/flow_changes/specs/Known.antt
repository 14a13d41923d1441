-- What is known while facts are gathered in place.
use Rattle.std.specs.Prelude.{◌≡◌, ◌<◌, ◌⊎◌, ◌+◌, ℕ, Bool, true, false, cond, List, [], ◌∷◌, length, Contains, Option, Some, None, slice_get, map}
use Rattle.ar_base.specs.Lists.{Stands, IsOneOf}
use Rattle.ar_base.specs.Numbers.{VarId}
use Rattle.domains.specs.Domains.{Holds}
use Rattle.domains.specs.declared.Domain.{Domain}
use Rattle.domains.specs.declared.Value.{Value}
use Rattle.typed_expr.specs.Sets.{HasExactly}
use Rattle.typed_expr.specs.Yields.{Yields}
use Rattle.typed_expr.specs.declared.expr.Expr.{out-Expr}
use Rattle.ar_meaning.specs.Systems as s
use Rattle.ar_meaning.specs.Facts.{PassesConditions}
use Rattle.gts_core.specs.View.{assign_of}
use Rattle.gts_core.specs.declared.system.Variable.{Variable}
use Rattle.gts_core.specs.declared.system.Assign.{Assign}
use Rattle.gts_core.specs.declared.system.GtsParts.{GtsParts}
use Rattle.flow_changes.specs.Cone.{Knows}
use Rattle.flow_changes.specs.Picking.{KeepsOthers}

-- how many are not marked
abbrev pub unmarked : List Bool → ℕ
unmarked [] = 0
unmarked (b ∷ bs) = cond b 0 1 + unmarked bs

-- each variable that has P is marked
abbrev pub MarksEach : List Bool → (VarId → Type 0) → Type 0
MarksEach marks P = (x : VarId) → P x → Stands marks x.n true

-- these values of a variable are known, and none else: its value may have become known, from the domain
pub record PutsKnown (domain : Domain) (target : ℕ) (set : List Value) (values_then : List Value) (known_then : List Bool)
    (values : List Value) (known : List Bool) (changed : Bool) : Type 0 where
  pub grows : (n : ℕ) (v : Value) → Knows values_then known_then n v → Knows values known n v
  pub only : (n : ℕ) (v : Value) → Knows values known n v
      → Knows values_then known_then n v ⊎ ((n ≡ target) × Contains set v)
  pub still : changed ≡ false → (values ≡ values_then) × (known ≡ known_then)
  pub there : (v : Value) → Contains set v → Knows values known target v × Holds domain v
  pub less : changed ≡ true → unmarked known < unmarked known_then

-- the value cannot become known: the domain lacks it, or another one is known
abbrev pub IsBarred : Domain → ℕ → Value → List Value → List Bool → Type 0
IsBarred domain target v values known = (Holds domain v → ⊥) ⊎ ((w : Value) × Knows values known target w × (w ≡ v → ⊥))

-- these values cannot become known: there are two, or the only one cannot
abbrev pub IsSetBarred : Domain → ℕ → List Value → List Value → List Bool → Type 0
IsSetBarred domain target set values known =
    (1 < length set) ⊎ ((v : Value) × (set ≡ v ∷ []) × IsBarred domain target v values known)

-- values that are given up or put: those of other variables stay, and this one's stays or is one of the domain
pub record Touches (domain : Domain) (target : ℕ) (values_then : List Value) (known_then : List Bool)
    (values : List Value) (known : List Bool) : Type 0 where
  pub of_values : KeepsOthers (target ∷ []) values_then values
  pub of_marks : KeepsOthers (target ∷ []) known_then known
  pub held : (v : Value) → Stands values target v → Stands values_then target v ⊎ Holds domain v

-- an assignment's target got what the assignment yields from what was known
pub record Applies (p : GtsParts) (a : Assign) (values_then : List Value) (known_then : List Bool) (values : List Value)
    (known : List Bool) (changed : Bool) : Type 0 where
  pub grows : (n : ℕ) (v : Value) → Knows values_then known_then n v → Knows values known n v
  pub only : (n : ℕ) (v : Value) → Knows values known n v
      → Knows values_then known_then n v
      ⊎ ((n ≡ a.target.n) × PassesConditions (Knows values_then known_then) (assign_of a).conditions
      × Yields (Knows values_then known_then) (out-Expr ℕ (assign_of a).value) v)
  pub still : changed ≡ false → (values ≡ values_then) × (known ≡ known_then)
  pub done : (v : Value) → PassesConditions (Knows values_then known_then) (assign_of a).conditions
      → Yields (Knows values_then known_then) (out-Expr ℕ (assign_of a).value) v → Knows values known a.target.n v
  pub less : changed ≡ true → unmarked known < unmarked known_then

-- the numbers of the variables that get new values
abbrev pub changing_numbers : List (VarId × Value) → List ℕ
changing_numbers new = map (λ (r : VarId × Value). r.0.n) new

-- the members that are not known have their declared values, and all else is as before
pub record Resets (p : GtsParts) (members : List ℕ) (known : List Bool) (old new : List Value) : Type 0 where
  pub keeps : KeepsOthers members old new
  pub marked : (n : ℕ) → Stands known n true → slice_get new n ≡ slice_get old n
  pub declared : (n : ℕ) (x : Variable) (w : Value) → IsOneOf members n → Stands p.variables.items n x
      → (Stands known n true → ⊥) → Stands new n w → w ≡ x.value
