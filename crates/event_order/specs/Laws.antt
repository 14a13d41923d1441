-- Least sets over new numbers of events, and the same sets by their names.
use Rattle.std.specs.Prelude.{ℕ, List, Option}
use Rattle.ar_firing.specs.Forest.{ModeTree}
use Rattle.zdd_nodes.specs.Families.{Family}
use Rattle.zdd_nodes.specs.FamiliesInside.{IsFamily}
use Rattle.eq_core.specs.Gates.{Operand, Gate}
use Rattle.eq_core.specs.Ordered.{AreOrdered}
use Rattle.eq_core.specs.ValuesInside.{IsBelow}
use Rattle.eq_core.specs.Values.{value_at}
use Rattle.std.specs.Prelude.{length}
use Rattle.firable_families.specs.FirableInside.{ListsLeastUpTo}
use Rattle.diagram_steps.specs.declared.trees.NumberedTree.{NumberedTree}
use Rattle.mode_diagrams.specs.Numbers.{IsByModes}
use Rattle.named_families.specs.Names.{AreNamed, HaveNames}
use Rattle.event_order.specs.Ordered.{gates_of, root_of, IsOrderedOf}
use Rattle.event_order.specs.declared.ordering.Ordered.{Ordered}

-- a forest with the modes of o's trees: each event of its least sets at which o's operand is true has a name, and the family of
-- these sets by their names has the least sets of the other forest at which the other operand is
pub record IsAgain (order : Option ℕ) (forest : List ModeTree) (gates : List Gate) (root : Operand) (o : Ordered)
    (again : List ModeTree) : Type 0 where
  pub by_modes : IsByModes again o.trees.items
  pub have : (f : Family) → ListsLeastUpTo order again (value_at (gates_of o) (root_of o)) f → HaveNames o.names.items f
  pub least : (f g : Family) → ListsLeastUpTo order again (value_at (gates_of o) (root_of o)) f
      → AreNamed o.names.items f g → IsFamily g → ListsLeastUpTo order forest (value_at gates root) g

-- there is such a forest for each in which the first trees are numbered
abbrev pub LeastByNames : Type 0
LeastByNames = (order : Option ℕ) (trees : List NumberedTree) (gates : List Gate) (root : Operand) (o : Ordered)
    → AreOrdered gates → IsBelow (length gates) root → IsOrderedOf trees gates root o → (forest : List ModeTree)
    → IsByModes forest trees → (again : List ModeTree) × IsAgain order forest gates root o again
