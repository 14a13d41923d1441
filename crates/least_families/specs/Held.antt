-- The results of operations that are held.
use Rattle.std.specs.Prelude.{◌≡◌, ℕ, ◌+◌, ◌<◌, ◌⊎◌, Bool, true, false, ◌&&◌, ◌||◌, eqb, List, length, Option, Some, None}
use Rattle.std.specs.Map.{lookup}
use Rattle.std.specs.Option.{option_eq}
use Rattle.zdd_nodes.specs.Families.{Family}
use Rattle.zdd_nodes.specs.Nodes.{NodeId, at}
use Rattle.least_families.specs.Least.{covers, AreLeastUpTo}
use Rattle.least_families.specs.declared.memo.Operation.{Operation}
use Rattle.least_families.specs.declared.memo.Operation.TheVariants.{Union, Product, Few}

-- the operands have numbers
abbrev pub HasNumberedOperands : List Family → Operation → Type 0
HasNumberedOperands fs (Union f g) = (f.n < length fs + 2) × (g.n < length fs + 2)
HasNumberedOperands fs (Product f g order) = (f.n < length fs + 2) × (g.n < length fs + 2)
HasNumberedOperands fs (Few f most) = f.n < length fs + 2

-- the family is what the operation makes of its operands
abbrev pub IsMadeByOperation : List Family → Operation → Family → Type 0
IsMadeByOperation fs (Union f g) made = AreLeastUpTo None (λ s. covers (at fs f.n) s || covers (at fs g.n) s) made
IsMadeByOperation fs (Product f g order) made = AreLeastUpTo order (λ s. covers (at fs f.n) s && covers (at fs g.n) s) made
IsMadeByOperation fs (Few f most) made = AreLeastUpTo (Some most) (covers (at fs f.n)) made

-- whether two operations with their operands are one
abbrev pub is_same_least_operation : Operation → Operation → Bool
is_same_least_operation (Union f g) (Union h i) = eqb f.n h.n && eqb g.n i.n
is_same_least_operation (Product f g a) (Product h i b) = eqb f.n h.n && (eqb g.n i.n && option_eq eqb a b)
is_same_least_operation (Few f m) (Few h n) = eqb f.n h.n && eqb m n
is_same_least_operation _ _ = false

-- n is the number of the operation's result
pub record IsLeastResult (fs : List Family) (k : Operation) (n : ℕ) : Type 0 where
  pub operands : HasNumberedOperands fs k
  pub in_store : n < length fs + 2
  pub is : IsMadeByOperation fs k (at fs n)

-- each result that is held is its operation's
pub record AreLeastHeld (entries : List (Operation × NodeId)) (fs : List Family) : Type 0 where
  pub each : (k : Operation) (n : NodeId) → lookup (is_same_least_operation k) entries ≡ Some n → IsLeastResult fs k n.n

-- every result that is held was held before or is the number n for the operation k
pub record RemembersLeast (k : Operation) (n : NodeId) (old new : List (Operation × NodeId)) : Type 0 where
  pub each : (q : Operation) (m : NodeId) → lookup (is_same_least_operation q) new ≡ Some m
      → (lookup (is_same_least_operation q) old ≡ Some m) ⊎ ((is_same_least_operation k q ≡ true) × (m ≡ n))

-- n is f or g, and whatever families the nodes have, it covers what one of them covers
pub record IsUnionKnown (f g n : ℕ) : Type 0 where
  pub one : (n ≡ f) ⊎ (n ≡ g)
  pub at : (fs : List Family) (s : List ℕ) → covers (at fs n) s ≡ (covers (at fs f) s || covers (at fs g) s)
