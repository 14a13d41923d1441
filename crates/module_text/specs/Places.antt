-- Where the edges of events stand among the edges of a forest.
use Rattle.std.specs.Prelude.{◌≡◌, ◌↔◌, ℕ, List, map, Option, Some, None, Vec, slice_get}
use Rattle.std.specs.Global.{Global}
use Rattle.ar_base.specs.Lists.{Stands, IsOneOf}
use Rattle.ar_base.specs.Numbers.{WayId}
use Rattle.flow_blocks.specs.Bits.{row_of}
use Rattle.mode_trees.specs.declared.forests.Edge.{Edge}
use Rattle.module_text.specs.declared.arranging.Piece.{Piece}
use Rattle.module_text.specs.declared.arranging.Piece.TheVariants.{Way as AWay}
use Rattle.module_text.specs.declared.places.EdgePlaces.{EdgePlaces}

-- the edge at this place has the event
pub record IsEdgeAt (edges : List Edge) (e p : ℕ) : Type 0 where
  pub edge : Edge
  pub stands : Stands edges p edge
  pub is_event : edge.event.n ≡ e

-- the ways of these edges, and for each event the places of its edges
pub record ArePlacesOf (edges : List Edge) (table : EdgePlaces) : Type 0 where
  pub ways : table.ways.items ≡ map (λ (x : Edge). x.way) edges
  pub places : (e p : ℕ) → IsOneOf (row_of table.places.items e) p ↔ IsEdgeAt edges e p

-- the table is that of some edges
pub record IsOfEdges (table : EdgePlaces) : Type 0 where
  pub edges : List Edge
  pub are : ArePlacesOf edges table

-- the place stands in the row of one of these events
pub record IsPlaced (rows : List (Vec ℕ Global)) (events : List ℕ) (p : ℕ) : Type 0 where
  pub event : ℕ
  pub is_one : IsOneOf events event
  pub placed : IsOneOf (row_of rows event) p

-- the way that was read, some way where there is none
abbrev pub way_read : Option WayId → WayId
way_read (Some w) = w
way_read None = record { n = 0; of = record {} }

-- the ways at these places
abbrev pub pieces_at : List WayId → List ℕ → List Piece
pieces_at ways spots = map (λ p. AWay (way_read (slice_get ways p))) spots
