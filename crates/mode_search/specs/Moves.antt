-- Where a transition leads from a mode of its mode variable.
use Rattle.std.specs.Prelude.{◌≡◌, ℕ, nat_eq, if◌then◌else◌, List, [], Contains}
use Rattle.ar_base.specs.Numbers.{VarId}
use Rattle.domains.specs.declared.Value.{Value}
use Rattle.typed_expr.specs.Yields.{Yields}
use Rattle.typed_expr.specs.declared.expr.Expr.{out-Expr}
use Rattle.ar_meaning.specs.Systems.{Transition, Leaf}
use Rattle.ar_meaning.specs.Facts.{PassesConditions}
use Rattle.ar_meaning.specs.Ways.{Can, Effects}
use Rattle.ar_firing.specs.Rules.{GivesOther}
use Rattle.gts_core.specs.View.{assign_of}
use Rattle.gts_core.specs.declared.system.Assign.{Assign}
use Rattle.mode_search.specs.declared.moves.Move.{Move}
use Rattle.mode_search.specs.declared.moves.Move.TheVariants.{Still, To, Wrong}

-- the values of the variable of number x alone
abbrev pub lone_values_at : ℕ → List Value → VarId → List Value
lone_values_at x values y = if nat_eq y.n x then values else []

-- the facts where the variable of number x alone has these values
abbrev pub HasAt : ℕ → List Value → ℕ → Value → Type 0
HasAt x values n v = Contains (if nat_eq n x then values else []) v

-- the assignment gives the variable of number x this value
pub record GivesValue (facts : ℕ → Value → Type 0) (x : ℕ) (a : Assign) (v : Value) : Type 0 where
  pub target : a.target.n ≡ x
  pub passes : PassesConditions facts (assign_of a).conditions
  pub yields : Yields facts (out-Expr ℕ (assign_of a).value) v

-- the transition can fire, and gives the variable exactly one value, in the domain
pub record IsModeStep (facts : ℕ → Value → Type 0) (d : Transition ℕ) (x : ℕ) (domain : List Value) (to : Value) : Type
    0 where
  pub can : Can facts (Leaf d)
  pub gives : Effects facts (Leaf d) x to
  pub one : (v : Value) → Effects facts (Leaf d) x v → v ≡ to
  pub in_domain : Contains domain to

-- the transition can fire, and gives the variable no value, or two, or one that the domain has not
pub record IsWrong (facts : ℕ → Value → Type 0) (d : Transition ℕ) (x : ℕ) (domain : List Value) : Type 0 where
  pub can : Can facts (Leaf d)
  pub gives : GivesOther (Effects facts (Leaf d) x) domain

-- where the transition leads under these facts
abbrev pub IsMove : (ℕ → Value → Type 0) → Transition ℕ → ℕ → List Value → Move → Type 0
IsMove facts d x domain Still = Can facts (Leaf d) → ⊥
IsMove facts d x domain (To v) = IsModeStep facts d x domain v
IsMove facts d x domain Wrong = IsWrong facts d x domain

-- the one of these values that the domain has, or that they are none, two, or one that it has not
abbrev pub IsJudged : List Value → List Value → Move → Type 0
IsJudged values domain Still = ⊥
IsJudged values domain (To v) = Contains values v × ((w : Value) → Contains values w → w ≡ v) × Contains domain v
IsJudged values domain Wrong = GivesOther (Contains values) domain
