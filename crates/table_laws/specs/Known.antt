-- What the rounds of all blocks of flows come to, at one set of events. A reading is a test of variables and their
-- values.
use Rattle.std.specs.Prelude.{◌≡◌, ◌⊎◌, ◌<◌, ℕ, zero, suc, Bool, true, false, List, Contains, length}
use Rattle.ar_base.specs.Lists.{Stands, IsOneOf}
use Rattle.domains.specs.declared.Value.{Value}
use Rattle.typed_expr.specs.Yields.{Yields}
use Rattle.typed_expr.specs.declared.expr.Expr.{out-Expr}
use Rattle.ar_meaning.specs.Systems.{Assign, Variable, Net}
use Rattle.ar_meaning.specs.Facts.{PassesConditions, Allows, HasStateValue}
use Rattle.ar_meaning.specs.Dependence.{Names, IsFlow}

-- the facts that the reading holds
abbrev pub ReadingHolds : {V : Type 0} → (V → Value → Bool) → V → Value → Type 0
ReadingHolds known x v = known x v ≡ true

-- an assignment to the variable that the facts reach yields the value
pub record AssignsValue {V : Type 0} (net : Net V) (facts : V → Value → Type 0) (x : V) (v : Value) : Type 0 where
  pub assign : Assign V
  pub is_one : IsOneOf net.assertions assign
  pub is_target : assign.target ≡ x
  pub passes : PassesConditions facts assign.conditions
  pub yields : Yields facts (out-Expr V assign.value) v

-- the readings of a block's rounds, as many as it has flows: the first holds nothing of the block, each next one what
-- the assignments give from the one before, and the last is what is known of the block in the end; what they name
-- outside the block is what is known in the end
pub record HasRounds {V : Type 0} (net : Net V) (known : V → Value → Bool) (block : List V) : Type 0 where
  pub reading : ℕ → V → Value → Bool
  pub outside : (a : Assign V) (x : V) → IsOneOf net.assertions a → IsOneOf block a.target → Names a x
      → IsOneOf block x ⊎ ((k : ℕ) (v : Value) → reading k x v ≡ known x v)
  pub start : (x : V) (v : Value) → IsOneOf block x → reading zero x v ≡ false
  pub allowed : (k : ℕ) (x : V) (v : Value) → IsOneOf block x → reading k x v ≡ true → Allows net x v
  pub sound : (k : ℕ) (x : V) (v : Value) → k < length block → IsOneOf block x → reading (suc k) x v ≡ true
      → AssignsValue net (ReadingHolds (reading k)) x v
  pub whole : (k : ℕ) (x : V) (v : Value) → k < length block → IsOneOf block x → Allows net x v
      → AssignsValue net (ReadingHolds (reading k)) x v → reading (suc k) x v ≡ true
  pub last : (x : V) (v : Value) → IsOneOf block x → reading (length block) x v ≡ known x v

-- what is known in the end: the state's values, and what the rounds of each block come to; a block names itself,
-- states and blocks before it
pub record IsKnownInTheEnd {V : Type 0} (net : Net V) (t : List Value) (blocks : List (List V))
    (known : V → Value → Bool) : Type 0 where
  pub given : (x : V) (v : Value) → HasStateValue net t x v → known x v ≡ true
  pub only : (x : V) (v : Value) → known x v ≡ true
      → HasStateValue net t x v ⊎ ((n : ℕ) × (block : List V) × Stands blocks n block × IsOneOf block x)
  pub rounds : (n : ℕ) (block : List V) → Stands blocks n block → HasRounds net known block
  pub covers : (a : Assign V) → IsOneOf net.assertions a
      → (block : List V) × IsOneOf blocks block × IsOneOf block a.target
  pub earlier : (n : ℕ) (block : List V) → Stands blocks n block → (a : Assign V) (x : V) → IsOneOf net.assertions a
      → IsOneOf block a.target → Names a x
      → IsOneOf block x ⊎ (((v : Value) → known x v ≡ true → HasStateValue net t x v) ⊎
      ((m : ℕ) × (other : List V) × (m < n) × Stands blocks m other × IsOneOf other x))

-- an assignment that is reached yields a value, and its target is known to have another
pub record HasBroken {V : Type 0} (net : Net V) (facts : V → Value → Type 0) : Type 0 where
  pub assign : Assign V
  pub is_one : IsOneOf net.assertions assign
  pub passes : PassesConditions facts assign.conditions
  pub value : Value
  pub yields : Yields facts (out-Expr V assign.value) value
  pub other : Value
  pub is_other : facts assign.target other
  pub differ : value ≡ other → ⊥

-- the valuation that the known values make: a flow with no known value has its reset
pub data Totals {V : Type 0} (net : Net V) (known : V → Value → Bool) (x : V) (v : Value) : Type 0 where
  is_known : known x v ≡ true → Totals net known x v
  is_reset : (n : ℕ) (variable : Variable V) → Stands net.variables n variable → variable.is_state ≡ false
      → variable.key ≡ x → variable.value ≡ v
      → ((w : Value) → known x w ≡ true → ⊥) → Totals net known x v

-- a flow is known to have two values
pub record SeesTwo {V : Type 0} (net : Net V) (known : V → Value → Bool) : Type 0 where
  pub place : ℕ
  pub variable : Variable V
  pub stands : Stands net.variables place variable
  pub is_flow : variable.is_state ≡ false
  pub first : Value
  pub second : Value
  pub is_first : known variable.key first ≡ true
  pub is_second : known variable.key second ≡ true
  pub differ : first ≡ second → ⊥

-- an assignment to a flow that is reached from what is known yields a value outside the flow's domain
pub record SeesOutside {V : Type 0} (net : Net V) (known : V → Value → Bool) : Type 0 where
  pub place : ℕ
  pub variable : Variable V
  pub stands : Stands net.variables place variable
  pub is_flow : variable.is_state ≡ false
  pub assign : Assign V
  pub is_one : IsOneOf net.assertions assign
  pub is_target : assign.target ≡ variable.key
  pub passes : PassesConditions (ReadingHolds known) assign.conditions
  pub value : Value
  pub yields : Yields (ReadingHolds known) (out-Expr V assign.value) value
  pub outside : Contains variable.domain value → ⊥

-- the three conflicts that a table sees
pub data IsConflict {V : Type 0} (net : Net V) (known : V → Value → Bool) : Type 0 where
  seen_two : SeesTwo net known → IsConflict net known
  seen_outside : SeesOutside net known → IsConflict net known
  seen_broken : HasBroken net (Totals net known) → IsConflict net known

-- the variable is a flow of the net
abbrev pub IsSomeFlow : {V : Type 0} → Net V → V → Type 0
IsSomeFlow net x = (k : ℕ) × IsFlow net k x

-- the blocks have flows alone, and each assignment has a flow as its target
pub record AreOfFlows {V : Type 0} (net : Net V) (blocks : List (List V)) : Type 0 where
  pub members : (n : ℕ) (block : List V) → Stands blocks n block → (x : V) → IsOneOf block x → IsSomeFlow net x
  pub targets : (a : Assign V) → IsOneOf net.assertions a → IsSomeFlow net a.target
