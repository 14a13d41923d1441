-- The text of a listing of cuts and of a conflict as it is written, by the parts of a flat system and
-- the edges of its forest.
use Rattle.std.specs.Prelude.{◌≡◌, ◌==◌, ℕ, if◌then◌else◌, Option, List, [], ◌∷◌, ◌++◌, map}
use Rattle.ar_base.specs.Lists.{IsOneOf}
use Rattle.ar_base.specs.Texts.{line}
use Rattle.ar_meaning.specs.Systems.{System}
use Rattle.ar_meaning.specs.Flows.{FlowFault}
use Rattle.ar_meaning.specs.Runs.{Label}
use Rattle.ar_meaning.specs.TraceText.{flow_fault_text}
use Rattle.ar_firing.specs.Forest.{IsForest}
use Rattle.ar_firing.specs.Rules.{KeepsUpTo}
use Rattle.gts_core.specs.View.{Views}
use Rattle.gts_core.specs.declared.system.GtsParts.{GtsParts}
use Rattle.gts_flatten.specs.Elaborating.{Elaborated}
use Rattle.gts_flatten.specs.Flat.{IsFlat, naming_of_parts}
use Rattle.hierarchy.specs.Units.{Thing}
use Rattle.hierarchy.specs.Listing.{variables}
use Rattle.mode_trees.specs.Views.{trees_of, number_in}
use Rattle.mode_trees.specs.Ways.{OwnTheirWays}
use Rattle.mode_trees.specs.declared.forests.Edge.{Edge}
use Rattle.mode_trees.specs.declared.forests.ModeTree.{ModeTree}
use Rattle.mode_trees.specs.declared.forests.Forest.{Forest}
use Rattle.text_pieces.specs.WayLabels.{numbered_label, way_label}
use Rattle.cut_text.specs.Texts.{braced, count_line, fault_line}

-- the edges of these trees, tree by tree
abbrev pub forest_edges : List ModeTree → List Edge
forest_edges [] = []
forest_edges (t ∷ ts) = t.edges.items ++ forest_edges ts

-- the number of the way of the first of these edges that has the event
abbrev pub way_in : List Edge → ℕ → ℕ
way_in [] e = 0
way_in (x ∷ xs) e = if x.event.n == e then x.way.n else way_in xs e

-- the labels of the edges of these events
abbrev pub labels_in : GtsParts → List Edge → List ℕ → List Label
labels_in p edges events = map (λ e. numbered_label p (way_in edges e)) events

-- the text of these events: the labels of their edges in braces
abbrev pub events_text : GtsParts → List Edge → List ℕ → List ℕ
events_text p edges events = braced (map (λ e. way_label p (way_in edges e)) events)

-- the lines of these sets
abbrev pub sets_text : GtsParts → List Edge → List (List ℕ) → List ℕ
sets_text p edges [] = []
sets_text p edges (events ∷ more) = line (events_text p edges events) ++ sets_text p edges more

-- the whole text of so many cuts
abbrev pub cuts_text : GtsParts → List Edge → Option ℕ → List (List ℕ) → ℕ → List ℕ
cuts_text p edges order sets n = sets_text p edges sets ++ count_line order n

-- the whole text of a conflict
abbrev pub conflict_text : GtsParts → List Edge → List ℕ → FlowFault → List ℕ
conflict_text p edges events f =
    fault_line (events_text p edges events) (flow_fault_text (naming_of_parts p) f)

-- edges with one event have one way
pub record HaveOneWay (edges : List Edge) : Type 0 where
  pub one : (a b : Edge) → IsOneOf edges a → IsOneOf edges b → a.event.n ≡ b.event.n
      → a.way.n ≡ b.way.n

-- the event is that of one of the edges
pub record HasEdge (edges : List Edge) (e : ℕ) : Type 0 where
  pub edge : Edge
  pub is_edge : IsOneOf edges edge
  pub is_event : edge.event.n ≡ e

-- each event of these sets is that of one of the edges
pub record AreOfEdges (edges : List Edge) (sets : List (List ℕ)) : Type 0 where
  pub each : (events : List ℕ) → IsOneOf sets events → (e : ℕ) → IsOneOf events e → HasEdge edges e

-- the variables of a source, by number
abbrev pub things_of : Elaborated → List Thing
things_of x = variables x.declarations.model x.declarations.units

-- the parts are those of a flat system of the source, which keeps the rules of the static fragment that are asked where cuts of
-- at most so many events are, and the forest is that of this system
pub record IsForestOf (x : Elaborated) (p : GtsParts) (flat : System ℕ) (dropped : List ℕ)
    (f : Forest) : Type 0 where
  pub order : Option ℕ
  pub is_flat : IsFlat x p
  pub views : Views p flat
  pub keeps : KeepsUpTo order flat dropped
  pub is_forest : IsForest flat dropped (trees_of (number_in p) f)
  pub own : OwnTheirWays p f.trees.items
