-- The laws of entries.
use Rattle.std.specs.Prelude.{◌≡◌, ℕ, Bool, true, false, if◌then◌else◌, List, [], ◌∷◌, length}
use Rattle.ar_base.specs.Lists.{IsOneOf}
use Rattle.ar_base.specs.Numbers.{VarId}
use Rattle.domains.specs.declared.Value.{Value}
use Rattle.typed_expr.specs.Kinds.{kind_of, HasKind}
use Rattle.typed_expr.specs.Yields.{Level, Yields}
use Rattle.typed_expr.specs.declared.expr.ValueKind.{ValueKind}
use Rattle.eq_core.specs.Gates.{Operand, Always, Never, EventIs, GateIs, Gate}
use Rattle.eq_core.specs.Ordered.{AreOrdered}
use Rattle.eq_core.specs.ValuesInside.{GainsGates, IsBelow}
use Rattle.eq_build.specs.Entries.{Entry, Built, one_of_alls}
use Rattle.eq_build.specs.Builds.{Builds}
use Rattle.eq_build.specs.Tells.{AreEntries, IsBuilt}

-- where the reading tells which values the test has for each variable, and these are of the variables' kinds, what is
-- built for a well-typed expression tells what it yields from them
abbrev pub EntriesTell : Type 0
EntriesTell = (known : VarId → Value → Bool) (set : List ℕ) (kinds : VarId → ValueKind) (read : VarId → List Entry)
    (g : List Gate) (e : Level VarId) (kind : ValueKind) (b : Built)
    → ((x : VarId) (d : Value) → known x d ≡ true → kind_of d ≡ kinds x)
    → ((x : VarId) → AreEntries set g (read x) (λ d. known x d ≡ true))
    → HasKind kinds e kind → Builds read g e b → IsBuilt set g b (Yields (λ x d. known x d ≡ true) e)

-- an expression has one list of entries and of gates
abbrev pub HasOneBuilt : Type 0
HasOneBuilt = (read : VarId → List Entry) (g : List Gate) (e : Level VarId) (b c : Built) → Builds read g e b
    → Builds read g e c → b ≡ c

-- something is built for the expression
pub record SomeBuilt {V : Type 0} (read : V → List Entry) (g : List Gate) (e : Level V) : Type 0 where
  pub built : Built
  pub builds : Builds read g e built

-- something is built for each well-typed expression
abbrev pub IsBuiltWhereTyped : Type 0
IsBuiltWhereTyped = (read : VarId → List Entry) (kinds : VarId → ValueKind) (g : List Gate) (e : Level VarId)
    (kind : ValueKind) → HasKind kinds e kind → SomeBuilt read g e

-- building only adds gates
abbrev pub OnlyAddsGates : Type 0
OnlyAddsGates = (read : VarId → List Entry) (g : List Gate) (e : Level VarId) (b : Built) → Builds read g e b
    → GainsGates g b.gates

-- one of the operands is Never
abbrev pub holds_never : List Operand → Bool
holds_never [] = false
holds_never (Always ∷ os) = holds_never os
holds_never (Never ∷ os) = true
holds_never (EventIs e sign ∷ os) = holds_never os
holds_never (GateIs g sign ∷ os) = holds_never os

-- the terms without those that hold Never
abbrev pub without_never : List (List Operand) → List (List Operand)
without_never [] = []
without_never (os ∷ oss) = if holds_never os then without_never oss else os ∷ without_never oss

-- a term that holds Never makes no gate and changes nothing
abbrev pub NeverChangesNothing : Type 0
NeverChangesNothing = (g : List Gate) (oss : List (List Operand))
    → one_of_alls g oss ≡ one_of_alls g (without_never oss)

-- the entries' operands name no later gate
pub record EntriesBelow (g : List Gate) (es : List Entry) : Type 0 where
  pub each : (e : Entry) → IsOneOf es e → IsBelow (length g) e.operand

-- the gates are in order, and the entries' operands name no later one
pub record IsOrderedBuilt (b : Built) : Type 0 where
  pub gates : AreOrdered b.gates
  pub entries : EntriesBelow b.gates b.entries

-- on ordered gates, and where the reading names no later gate, an expression's gates are in order, and its entries name
-- no later one
abbrev pub KeepsOrder : Type 0
KeepsOrder = (read : VarId → List Entry) (g : List Gate) (e : Level VarId) (b : Built) → AreOrdered g
    → ((x : VarId) → EntriesBelow g (read x)) → Builds read g e b → IsOrderedBuilt b
