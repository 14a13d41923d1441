-- Trees by their edges alone, as a forest has them.
use Rattle.std.specs.Prelude.{◌≡◌, ◌<◌, ◌⊎◌, ℕ, List}
use Rattle.ar_base.specs.Lists.{Stands, IsOneOf}
use Rattle.domains.specs.declared.Value.{Value}
use Rattle.ar_meaning.specs.Runs.{Label}
use Rattle.ar_firing.specs.Forest.{Row, ModeTree}

-- no event has edges in two of the trees
pub record HaveOwnEvents (trees : List ModeTree) : Type 0 where
  pub one : (j k : ℕ) (s t : ModeTree) (a b c d : Value) (l m : Label) → Stands trees j s → Stands trees k t
      → IsOneOf s.edges (record { from = a; label = l; to = b })
      → IsOneOf t.edges (record { from = c; label = m; to = d }) → l.event ≡ m.event → j ≡ k

-- each edge leaves the first mode or one that an earlier edge enters, none enters the first mode, and no two edges
-- enter one mode or have one event
pub record IsTree (tree : ModeTree) : Type 0 where
  pub from : (k : ℕ) (r : Row) → Stands tree.edges k r
      → (r.from ≡ tree.first) ⊎ ((j : ℕ) × (q : Row) × (j < k) × Stands tree.edges j q × (q.to ≡ r.from))
  pub begins : (k : ℕ) (r : Row) → Stands tree.edges k r → r.to ≡ tree.first → ⊥
  pub enters : (j k : ℕ) (q r : Row) → Stands tree.edges j q → Stands tree.edges k r → q.to ≡ r.to → j ≡ k
  pub event : (j k : ℕ) (q r : Row) → Stands tree.edges j q → Stands tree.edges k r → q.label.event ≡ r.label.event
      → j ≡ k

-- each is a tree, and no event has edges in two of them
pub record AreTrees (trees : List ModeTree) : Type 0 where
  pub each : (k : ℕ) (tree : ModeTree) → Stands trees k tree → IsTree tree
  pub apart : HaveOwnEvents trees
