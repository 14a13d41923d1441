-- The results of operations that are held.
use Rattle.std.specs.Prelude.{◌≡◌, ℕ, ◌+◌, ◌<◌, ◌⊎◌, Bool, true, false, ◌&&◌, eqb, List, length, Some}
use Rattle.std.specs.Map.{lookup}
use Rattle.zdd_nodes.specs.Families.{Family, without, minimal}
use Rattle.zdd_nodes.specs.FamiliesInside.{union, meet, minus, having}
use Rattle.zdd_nodes.specs.Nodes.{NodeId, at}
use Rattle.zdd_ops.specs.declared.memo.Join.{Join}
use Rattle.zdd_ops.specs.declared.memo.Join.TheVariants.{Union, Meet, Minus}
use Rattle.zdd_ops.specs.declared.memo.Operation.{Operation}
use Rattle.zdd_ops.specs.declared.memo.Operation.TheVariants.{Joined, Without, Having, Minimal}

-- what a join makes of two families
abbrev pub join_of : Join → Family → Family → Family
join_of Union = union
join_of Meet = meet
join_of Minus = minus

-- the family that an operation makes of its operands, where fs are the families of the nodes
abbrev pub family_made_by : List Family → Operation → Family
family_made_by fs (Joined join f g) = join_of join (at fs f.n) (at fs g.n)
family_made_by fs (Without f g) = without (at fs f.n) (at fs g.n)
family_made_by fs (Having f event) = having (at fs f.n) event.n
family_made_by fs (Minimal f) = minimal (at fs f.n)

-- the operands have numbers
abbrev pub HasStoredOperands : List Family → Operation → Type 0
HasStoredOperands fs (Joined join f g) = (f.n < length fs + 2) × (g.n < length fs + 2)
HasStoredOperands fs (Without f g) = (f.n < length fs + 2) × (g.n < length fs + 2)
HasStoredOperands fs (Having f event) = f.n < length fs + 2
HasStoredOperands fs (Minimal f) = f.n < length fs + 2

-- whether two joins are one
abbrev pub join_eq : Join → Join → Bool
join_eq Union Union = true
join_eq Meet Meet = true
join_eq Minus Minus = true
join_eq _ _ = false

-- whether two operations with their operands are one
abbrev pub operation_eq : Operation → Operation → Bool
operation_eq (Joined j f g) (Joined k h i) = join_eq j k && (eqb f.n h.n && eqb g.n i.n)
operation_eq (Without f g) (Without h i) = eqb f.n h.n && eqb g.n i.n
operation_eq (Having f d) (Having h e) = eqb f.n h.n && eqb d.n e.n
operation_eq (Minimal f) (Minimal h) = eqb f.n h.n
operation_eq _ _ = false

-- n is the number of the operation's result
pub record IsResult (fs : List Family) (k : Operation) (n : ℕ) : Type 0 where
  pub operands : HasStoredOperands fs k
  pub in_store : n < length fs + 2
  pub is : at fs n ≡ family_made_by fs k

-- each result that is held is its operation's
pub record AreResultsHeld (entries : List (Operation × NodeId)) (fs : List Family) : Type 0 where
  pub each : (k : Operation) (n : NodeId) → lookup (operation_eq k) entries ≡ Some n → IsResult fs k n.n

-- every result that is held was held before or is the number n for the operation k
pub record RemembersResult (k : Operation) (n : NodeId) (old new : List (Operation × NodeId)) : Type 0 where
  pub each : (q : Operation) (m : NodeId) → lookup (operation_eq q) new ≡ Some m
      → (lookup (operation_eq q) old ≡ Some m) ⊎ ((operation_eq k q ≡ true) × (m ≡ n))

-- whatever families the nodes have, n is the number of what the operation makes of f and g
abbrev pub IsKnownResult : (Family → Family → Family) → ℕ → ℕ → ℕ → Type 0
IsKnownResult made f g n = (fs : List Family) → f < length fs + 2 → g < length fs + 2
    → (n < length fs + 2) × (at fs n ≡ made (at fs f) (at fs g))
