-- Finitely many facts, and relations turned round.
use Rattle.std.specs.Prelude.{List, Contains}
use Rattle.domains.specs.declared.Value.{Value}

-- this variable has this value
abbrev pub Pair : Type 0 → Type 0
Pair V = V × Value

-- one of the pairs gives the variable this value
abbrev pub HasPair : {V : Type 0} → List (Pair V) → V → Value → Type 0
HasPair pairs x v = Contains pairs (x, v)
