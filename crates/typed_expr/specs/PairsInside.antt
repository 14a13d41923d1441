-- Definitions beside those of Pairs, of which clauses inside the program speak: what the whole program promises does
-- not rest on them.
use Rattle.std.specs.Prelude.{List}
use Rattle.domains.specs.declared.Value.{Value}
use Rattle.typed_expr.specs.Pairs.{Pair, HasPair}

-- finitely many of the facts of P, from which R holds
pub record Needs (V : Type 0) (P : V → Value → Type 0) (R : (V → Value → Type 0) → Type 0) : Type 0 where
  pub pairs : List (Pair V)
  pub hold : (x : V) (v : Value) → HasPair pairs x v → P x v
  pub suffice : R (HasPair pairs)

-- the same pairs, the other way round
abbrev pub turned_pairs : {A B : Type 0} → (A → B → Type 0) → B → A → Type 0
turned_pairs same b a = same a b
