-- What the edges and the modes that are found are in the system.
use Rattle.std.specs.Prelude.{◌≡◌, ℕ, true, List, map}
use Rattle.ar_base.specs.Lists.{Stands, IsOneOf}
use Rattle.domains.specs.declared.Value.{Value}
use Rattle.ar_meaning.specs.Systems as s
use Rattle.ar_meaning.specs.Systems.{System}
use Rattle.ar_firing.specs.Fragment.{IsReached, IsLive}
use Rattle.ar_firing.specs.Forest.{Row}
use Rattle.gts_core.specs.declared.system.GtsParts.{GtsParts}
use Rattle.mode_trees.specs.Views.{edge_row, number_in}
use Rattle.mode_search.specs.declared.searching.Reach.{Reach}

-- the edges of what each variable reaches, with their labels, are live edges of it
abbrev pub EdgesAreLive : GtsParts → System ℕ → List ℕ → List Reach → Type 0
EdgesAreLive p system dropped reaches = (n : ℕ) (r : Reach) → Stands reaches n r
    → (row : Row) → IsOneOf (map (edge_row (number_in p)) r.edges.items) row
    → IsLive system dropped row.label n row.from row.to

-- a live edge, and one of the edges of what its variable reaches, which is it
pub record IsReachedEdge (p : GtsParts) (reaches : List Reach) (n : ℕ) (row : Row) : Type 0 where
  pub reach : Reach
  pub stands : Stands reaches n reach
  pub is_one : IsOneOf (map (edge_row (number_in p)) reach.edges.items) row

-- each live edge is one of these
abbrev pub LiveAreEdges : GtsParts → System ℕ → List ℕ → List Reach → Type 0
LiveAreEdges p system dropped reaches = (n : ℕ) (row : Row) → IsLive system dropped row.label n row.from row.to
    → IsReachedEdge p reaches n row

-- the modes of what each state variable reaches are reached
abbrev pub ModesAreReached : GtsParts → System ℕ → List ℕ → List Reach → Type 0
ModesAreReached p system dropped reaches = (n : ℕ) (r : Reach) (x : s.Variable ℕ) → Stands reaches n r
    → Stands system.net.variables n x → x.is_state ≡ true → (m : Value) → IsOneOf r.modes.items m
    → IsReached system dropped n m

-- each mode that is reached is one of these
abbrev pub ReachedAreModes : GtsParts → System ℕ → List ℕ → List Reach → Type 0
ReachedAreModes p system dropped reaches = (n : ℕ) (r : Reach) → Stands reaches n r → (m : Value)
    → IsReached system dropped n m → IsOneOf r.modes.items m
