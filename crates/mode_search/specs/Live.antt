-- The live edges in a row.
use Rattle.std.specs.Prelude.{◌≡◌, ◌<◌, ◌≤◌, ℕ, List}
use Rattle.ar_base.specs.Lists.{Stands, IsOneOf}
use Rattle.ar_base.specs.Numbers.{VarId}
use Rattle.mode_trees.specs.declared.forests.Edge.{Edge}
use Rattle.mode_search.specs.declared.searching.Reach.{Reach}
use Rattle.mode_search.specs.declared.listing.Live.{Live}

-- the edge of a variable
abbrev pub live_at : VarId → Edge → Live
live_at x e = record { variable = x; edge = e }

-- no variable has two edges by one way from one mode
pub record AreEdgesApart (reaches : List Reach) : Type 0 where
  pub one : (n : ℕ) (r : Reach) → Stands reaches n r → (j k : ℕ) (e f : Edge) → Stands r.edges.items j e
      → Stands r.edges.items k f → e.from ≡ f.from → e.way ≡ f.way → j ≡ k

-- an edge of what its variable reaches, one of the first so many
pub record IsLiveOf (reaches : List Reach) (count : ℕ) (l : Live) : Type 0 where
  pub below : l.variable.n < count
  pub reach : Reach
  pub stands : Stands reaches l.variable.n reach
  pub is_one : IsOneOf reach.edges.items l.edge

-- the edges of what the first so many variables reach, by variable, each once
pub record AreLive (reaches : List Reach) (count : ℕ) (live : List Live) : Type 0 where
  pub sound : (x : ℕ) (l : Live) → Stands live x l → IsLiveOf reaches count l
  pub whole : (n : ℕ) (r : Reach) (e : Edge) → n < count → Stands reaches n r → IsOneOf r.edges.items e
      → (x : ℕ) × (l : Live) × Stands live x l × (l.variable.n ≡ n) × (l.edge ≡ e)
  pub ascend : (x y : ℕ) (l m : Live) → x < y → Stands live x l → Stands live y m → l.variable.n ≤ m.variable.n
  pub once : (x y : ℕ) (l m : Live) → Stands live x l → Stands live y m → l.variable.n ≡ m.variable.n
      → l.edge.from ≡ m.edge.from → l.edge.way ≡ m.edge.way → x ≡ y
