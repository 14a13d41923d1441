-- Definitions beside those of Kinds, of which clauses inside the program speak: what the whole program promises does
-- not rest on them.
use Rattle.std.specs.Prelude.{◌≡◌, List, Contains, Option, Some, None}
use Rattle.domains.specs.declared.Value.{Value}
use Rattle.typed_expr.specs.Yields.{Level, Yields}
use Rattle.typed_expr.specs.YieldsInside.{facts_of}
use Rattle.typed_expr.specs.declared.expr.ValueKind.{ValueKind}
use Rattle.typed_expr.specs.Kinds.{kind_of, HasKind}

-- the answer is the kind of the expression, or there is none
abbrev pub IsLevelKind : {V : Type 0} → (V → ValueKind) → Level V → Option ValueKind → Type 0
IsLevelKind kinds e None = (k : ValueKind) → HasKind kinds e k → ⊥
IsLevelKind kinds e (Some k) = HasKind kinds e k

-- the facts give each variable values of its kind alone
abbrev pub AreOfKinds : {V : Type 0} → (V → List Value) → (V → ValueKind) → Type 0
AreOfKinds {V} facts kinds = (x : V) (v : Value) → Contains (facts x) v → kind_of v ≡ kinds x

-- what an expression of a kind yields from such facts is of the kind
abbrev pub YieldsItsKind : Type 0 → Type 0
YieldsItsKind V = (facts : V → List Value) (kinds : V → ValueKind) → AreOfKinds facts kinds
    → (e : Level V) (kind : ValueKind) → HasKind kinds e kind
    → (v : Value) → Yields (facts_of facts) e v → kind_of v ≡ kind
