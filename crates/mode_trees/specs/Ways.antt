-- The ways of edges.
use Rattle.std.specs.Prelude.{◌≡◌, List}
use Rattle.ar_base.specs.Lists.{Stands, IsOneOf}
use Rattle.gts_core.specs.declared.system.Way.{Way}
use Rattle.gts_core.specs.declared.system.GtsParts.{GtsParts}
use Rattle.mode_trees.specs.declared.forests.Edge.{Edge}
use Rattle.mode_trees.specs.declared.forests.ModeTree.{ModeTree}

-- the edge's way is a way of the parts, one of the edge's event
pub record HasOwnWay (p : GtsParts) (e : Edge) : Type 0 where
  pub way : Way
  pub stands : Stands p.ways.items e.way.n way
  pub is_event : way.event.n ≡ e.event.n

-- the same of each of these edges
pub record HaveOwnWays (p : GtsParts) (edges : List Edge) : Type 0 where
  pub each : (e : Edge) → IsOneOf edges e → HasOwnWay p e

-- the same of the edges of each of these trees
pub record OwnTheirWays (p : GtsParts) (trees : List ModeTree) : Type 0 where
  pub each : (t : ModeTree) → IsOneOf trees t → HaveOwnWays p t.edges.items
