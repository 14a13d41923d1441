-- Paths down a tree of edges, and the next edge that leaves a mode.
use Rattle.std.specs.Prelude.{◌≡◌, ◌<◌, ◌≤◌, ◌+◌, ◌++◌, ℕ, nat_lt, if◌then◌else◌, List, [], ◌∷◌, length, map, Option, Some, None}
use Rattle.ar_base.specs.Lists.{Stands, IsOneOf, AreDifferent}
use Rattle.domains.specs.declared.Value.{Value}
use Rattle.mode_trees.specs.declared.forests.Edge.{Edge}
use Rattle.mode_trees.specs.Below.{AreEdgesBelow}

-- no two of the edges enter one mode, and none enters the first
pub record EntersOnce (first : Value) (edges : List Edge) : Type 0 where
  pub different : AreDifferent (first ∷ map (λ (e : Edge). e.to) edges)

-- these of the edges, the last first, lead from the first mode to this one
pub data LeadTo (first : Value) (edges : List Edge) : List Edge → Value → Type 0 where
  root : LeadTo first edges [] first
  along : {es : List Edge} {m : Value} (e : Edge) → LeadTo first edges es m → IsOneOf edges e → e.from ≡ m
      → LeadTo first edges (e ∷ es) e.to

-- so many of the edges are not on a path that leads from a first mode to this one, where no two edges enter one
-- mode and none the first
pub record IsOffPath (edges : List Edge) (mode : Value) (room : ℕ) : Type 0 where
  pub first : Value
  pub enters : EntersOnce first edges
  pub path : List Edge
  pub leads : LeadTo first edges path mode
  pub long : length path + room ≡ length edges

-- the edge leaves this mode by an event from number `low` on
pub record LeavesMode (from : Value) (low : ℕ) (e : Edge) : Type 0 where
  pub leaves : e.from ≡ from
  pub late : low ≤ e.event.n

-- of the first so many edges, one that leaves this mode by an event from number `low` on, and none that does has a
-- lesser event
pub record IsNextEdge (edges : List Edge) (count : ℕ) (from : Value) (low : ℕ) (e : Edge) : Type 0 where
  pub place : ℕ
  pub below : place < count
  pub stands : Stands edges place e
  pub leaves : LeavesMode from low e
  pub least : (k : ℕ) (f : Edge) → k < count → Stands edges k f → LeavesMode from low f → e.event.n ≤ f.event.n

-- such an edge, or none where none of the first so many leaves this mode by an event from number `low` on
abbrev pub IsNextOrNone : List Edge → ℕ → Value → ℕ → Option Edge → Type 0
IsNextOrNone edges count from low None = (k : ℕ) (e : Edge) → k < count → Stands edges k e → LeavesMode from low e → ⊥
IsNextOrNone edges count from low (Some e) = IsNextEdge edges count from low e

-- the edge, unless the event of the one that was found is no greater
abbrev pub earlier_of : Option Edge → Edge → Edge
earlier_of None e = e
earlier_of (Some f) e = if nat_lt e.event.n f.event.n then e else f

-- the list got the edges below the mode
pub record GetsBelow (edges : List Edge) (mode : Value) (low : ℕ) (old new : List Edge) : Type 0 where
  pub below : List Edge
  pub are : AreEdgesBelow edges mode low below
  pub got : new ≡ old ++ below
