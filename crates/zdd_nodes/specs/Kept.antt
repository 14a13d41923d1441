-- What a store keeps of its nodes and of the table of their numbers.
use Rattle.std.specs.Prelude.{◌≡◌, ℕ, ◌+◌, ◌-◌, ◌<◌, ◌≤◌, Bool, ◌&&◌, eqb, List, [], ◌∷◌, ◌++◌, length, slice_get, Some}
use Rattle.std.specs.Map.{lookup}
use Rattle.ar_base.specs.Lists.{AreDifferent}
use Rattle.zdd_nodes.specs.Families.{Family}
use Rattle.zdd_nodes.specs.FamiliesInside.{node, IsFamily}
use Rattle.zdd_nodes.specs.Nodes.{NodeId, all_families, at, IsNode}
use Rattle.zdd_nodes.specs.declared.Node.{Node}

-- the families of the nodes, where the nodes before them have the families fs
abbrev pub grown : List Family → List Node → List Family
grown fs [] = fs
grown fs (n ∷ ns) = grown (fs ++ node n.event.n (at fs n.lo.n) (at fs n.hi.n) ∷ []) ns

-- the families of all nodes
unfoldable pub families_of : List Node → List Family
families_of ns = grown [] ns

-- whether two nodes are one
abbrev pub node_eq : Node → Node → Bool
node_eq a b = eqb a.event.n b.event.n && (eqb a.lo.n b.lo.n && eqb a.hi.n b.hi.n)

-- what a store keeps: each node has earlier halves at greater events, no two numbers stand for one family, each family
-- is kept
-- in order, the table has exactly the nodes' numbers, and there are at most limit nodes
pub record IsStore (nodes : List Node) (index : List (Node × NodeId)) (limit : ℕ) : Type 0 where
  pub each : (k : ℕ) (n : Node) → slice_get nodes k ≡ Some n
      → IsNode (families_of nodes) (k + 2) n.event.n n.lo.n n.hi.n
  pub families : (k : ℕ) → k < length nodes + 2 → IsFamily (at (families_of nodes) k)
  pub different : AreDifferent (all_families (families_of nodes))
  pub found : (k : Node) (n : NodeId) → lookup (node_eq k) index ≡ Some n
      → (2 ≤ n.n) × (slice_get nodes (n.n - 2) ≡ Some k)
  pub listed : (k : ℕ) (n : Node) → slice_get nodes k ≡ Some n
      → (m : NodeId) × (lookup (node_eq n) index ≡ Some m) × (m.n ≡ k + 2)
  pub within_limit : length nodes ≤ limit
  pub limit_small : limit ≤ 16777216
