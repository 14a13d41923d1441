-- What a table tells of the lists of a tree: where the node of a unit and a name stands.
use Rattle.std.specs.Prelude.{ℕ, Bool, ◌==◌, ◌&&◌, List}
use Rattle.std.specs.HashMap.{HashMap, get}
use Rattle.hierarchy.specs.Finding.{FindsNode}
use Rattle.hierarchy.specs.declared.tree.MemNode.{MemNode}
use Rattle.hierarchy.specs.declared.tree.ParNode.{ParNode}
use Rattle.hierarchy.specs.declared.tree.VarNode.{VarNode}
use Rattle.hierarchy.specs.declared.tree.Tree.{Tree}
use Rattle.bind_scopes.specs.declared.index.Index.{Index}

-- a test for one pair
abbrev pub is_same_index : ℕ × ℕ → ℕ × ℕ → Bool
is_same_index a b = (a.0 == b.0) && (a.1 == b.1)

-- the table has, for each unit and name, the place of a node of these with that unit and name, and nothing where there
-- is none
abbrev pub TellsNodes : {A S : Type 0} → (A → MemNode) → List A → HashMap (ℕ × ℕ) ℕ S → Type 0
TellsNodes {A = A} {S = S} node nodes places = (u x : ℕ) → FindsNode node nodes u x (get is_same_index places (u, x))

-- the index is that of the tree
pub record IsIndexOf (t : Tree) (i : Index) : Type 0 where
  pub variables : TellsNodes (λ (d : VarNode). d.node) t.variables.items i.variables
  pub parameters : TellsNodes (λ (d : ParNode). d.node) t.parameters.items i.parameters
  pub events : TellsNodes (λ (d : MemNode). d) t.events.items i.events
