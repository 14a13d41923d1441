-- Trees by their events: which come before which.
use Rattle.std.specs.Prelude.{◌≡◌, ◌⊎◌, ◌+◌, ◌<◌, ◌≤◌, ℕ, cond, nat_lt, List, [], ◌∷◌}
use Rattle.ar_base.specs.Lists.{Stands}
use Rattle.diagram_steps.specs.declared.trees.NumberedEdge.{NumberedEdge}
use Rattle.diagram_steps.specs.declared.trees.NumberedTree.{NumberedTree}
use Rattle.diagram_steps.specs.Trees.{TreeHasEvent}

-- all events of the first tree are below those of the second
pub record IsTreeBefore (s t : NumberedTree) : Type 0 where
  pub each : (a b : ℕ) → TreeHasEvent s a → TreeHasEvent t b → a < b

-- each tree is before all trees after it
pub record Ascend (trees : List NumberedTree) : Type 0 where
  pub each : (j k : ℕ) (s t : NumberedTree) → j < k → Stands trees j s → Stands trees k t → IsTreeBefore s t

-- of any two of the trees one is before the other
pub record AreSeparate (trees : List NumberedTree) : Type 0 where
  pub each : (j k : ℕ) (s t : NumberedTree) → (j ≡ k → ⊥) → Stands trees j s → Stands trees k t
      → IsTreeBefore s t ⊎ IsTreeBefore t s

-- a tree has an event that is not below one of a later tree
pub record HasOverlap (trees : List NumberedTree) : Type 0 where
  pub earlier : ℕ
  pub later : ℕ
  pub in_order : earlier < later
  pub first : NumberedTree
  pub second : NumberedTree
  pub first_stands : Stands trees earlier first
  pub second_stands : Stands trees later second
  pub high : ℕ
  pub low : ℕ
  pub has_high : TreeHasEvent first high
  pub has_low : TreeHasEvent second low
  pub no_less : low ≤ high

-- the tree has an event below this number
pub record HasEventBelow (tree : NumberedTree) (end : ℕ) : Type 0 where
  pub event : ℕ
  pub has : TreeHasEvent tree event
  pub below : event < end

-- one more than the greatest of the tree's events, unless that is below `start`
pub record IsTreeEnd (tree : NumberedTree) (start end : ℕ) : Type 0 where
  pub no_less : start ≤ end
  pub above : (e : ℕ) → TreeHasEvent tree e → e < end
  pub is : (start ≡ end) ⊎ ((e : ℕ) × TreeHasEvent tree e × (e + 1 ≡ end))

-- the least of a number and the events of these edges
abbrev pub least_from : ℕ → List NumberedEdge → ℕ
least_from n [] = n
least_from n (e ∷ es) = least_from (cond (nat_lt e.event.n n) e.event.n n) es

-- the least event of these edges, or 0 where there is none
abbrev pub least_event : List NumberedEdge → ℕ
least_event [] = 0
least_event (e ∷ es) = least_from e.event.n (e ∷ es)
