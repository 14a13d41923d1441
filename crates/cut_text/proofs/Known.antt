-- What is printed by the table of ways is what the edges say.
use Rattle.std.proofs.Common.{◌≡◌, ◌==◌, ◌<◌, ⊎_elim, ℕ, Bool, true, false, if◌then◌else◌, List, [], ◌∷◌, ◌++◌, map, reverse, length, refl, sym, ◌∙◌, ap, subst, eqb-true, eq-eqb, true≢false}
use Rattle.ar_base.specs.Lists.{Stands, IsOneOf}
use Rattle.ar_base.specs.Numbers.{WayId}
use Rattle.ar_base.specs.Texts.{line}
use Rattle.ar_base.proofs.Standing.{one_cases, one_first, one_rest, one_none, stands_within}
use Rattle.ar_meaning.specs.Runs.{Label}
use Rattle.ar_meaning.specs.Systems.{System}
use Rattle.ar_meaning.specs.Flows.{FlowFault}
use Rattle.ar_meaning.specs.TraceText.{flow_fault_text}
use Rattle.ar_firing.specs.Cuts.{Conflicts}
use Rattle.gts_flatten.specs.Flat.{naming_of_parts}
use Rattle.gts_core.specs.declared.system.GtsParts.{GtsParts}
use Rattle.mode_trees.specs.Ways.{OwnTheirWays}
use Rattle.mode_trees.specs.declared.forests.Edge.{Edge}
use Rattle.mode_trees.specs.declared.forests.ModeTree.{ModeTree}
use Rattle.text_pieces.specs.WayLabels.{numbered_label, way_label}
use Rattle.cut_text.specs.Printed.{forest_edges, way_in, labels_in, sets_text, conflict_text, HaveOneWay, HasEdge, AreOfEdges}
use Rattle.cut_text.specs.Tables.{HasEdgeWays, way_found, way_at, texts_at, labels_at, lines_at, HasWay, AllHaveWays}
use Rattle.cut_text.specs.Texts.{braced, fault_line}
use Rattle.cut_text.proofs.TableLemmas.{tree_of_edge}

first_step : (y : Edge) (ys : List Edge) → HaveOneWay (y ∷ ys) → (x : Edge) → IsOneOf (y ∷ ys) x
    → (IsOneOf ys x → way_in ys x.event.n ≡ x.way.n) → (b : Bool) → y.event.n == x.event.n ≡ b
    → (if y.event.n == x.event.n then y.way.n else way_in ys x.event.n) ≡ x.way.n
first_step y ys one x o rest true e =
    ap (λ (b : Bool). if b then y.way.n else way_in ys x.event.n) e
    ∙ one.one y x (one_first y ys) o (eqb-true y.event.n x.event.n e)
first_step y ys one x o rest false e =
    ap (λ (b : Bool). if b then y.way.n else way_in ys x.event.n) e ∙ rest other
  where
    other : IsOneOf ys x
    other = ⊎_elim (λ (i : y ≡ x). absurd (true≢false (sym (eq-eqb y.event.n x.event.n
        (ap (λ (z : Edge). z.event.n) i)) ∙ e))) (λ q. q) (one_cases y ys x o)

-- the way of an event's edge
pub first_way : (edges : List Edge) → HaveOneWay edges → (x : Edge) → IsOneOf edges x → way_in edges x.event.n ≡ x.way.n
first_way [] one x o = absurd (one_none x o)
first_way (y ∷ ys) one x o =
    first_step y ys one x o (λ q. first_way ys (record {
      one = λ a b r t. one.one a b (one_rest y ys a r)
          (one_rest y ys b t);
    }) x q) (y.event.n == x.event.n) refl

pub known_way : (edges : List Edge) → HaveOneWay edges → (e : ℕ) (h : HasEdge edges e) → way_in edges e ≡ h.edge.way.n
known_way edges one e h =
    ap (way_in edges) (sym h.is_event) ∙ first_way edges one h.edge h.is_edge

module _ (edges : List Edge) (one : HaveOneWay edges) (ways : List WayId) (are : HasEdgeWays edges ways) where
  pub same_way : (e : ℕ) → HasEdge edges e → way_at ways e ≡ way_in edges e
  same_way e h =
      let w = are.each h.edge h.is_edge in
      ap (way_at ways) (sym h.is_event) ∙ ap way_found w.1 ∙ w.2 ∙ sym (known_way edges one e h)

  -- by event
  pub same_map : {A : Type 0} (F : ℕ → A) (events : List ℕ) → ((e : ℕ) → IsOneOf events e → HasEdge edges e)
      → map (λ e. F (way_at ways e)) events ≡ map (λ e. F (way_in edges e)) events
  same_map F [] h = refl
  same_map F (e ∷ es) h =
      ap (λ z. z ∷ map (λ e. F (way_at ways e)) es) (ap F (same_way e (h e (one_first e es))))
      ∙ ap (λ z. F (way_in edges e) ∷ z) (same_map F es (λ x o. h x (one_rest e es x o)))

  pub same_lines : (p : GtsParts) (sets : List (List ℕ)) → AreOfEdges edges sets
      → lines_at p ways sets ≡ sets_text p edges sets
  same_lines p [] h = refl
  same_lines p (s ∷ ss) h =
      ap (λ (z : List (List ℕ)). line (braced z) ++ lines_at p ways ss)
      (same_map (way_label p) s (h.each s (one_first s ss)))
      ∙ ap (λ (z : List ℕ). line (braced (map (λ e. way_label p (way_in edges e)) s)) ++ z)
      (same_lines p ss (record { each = λ x o. h.each x (one_rest s ss x o) }))

module _ (p : GtsParts) (ts : List ModeTree) (own : OwnTheirWays p ts) (ways : List WayId)
    (are : HasEdgeWays (forest_edges ts) ways) where
  -- the event of an edge has a way
  pub has_way : (e : ℕ) → HasEdge (forest_edges ts) e → HasWay p ways e
  has_way e h =
      let w = are.each h.edge h.is_edge in
      let t = tree_of_edge ts h.edge h.is_edge in
      let o = (own.each t.0 t.1).each h.edge t.2 in
      record {
        way = w.0;
        stands = subst (λ (z : ℕ). Stands ways z w.0) h.is_event w.1;
        inside = subst (λ (z : ℕ). z < length p.ways.items) (sym w.2)
            (stands_within p.ways.items h.edge.way.n o.way o.stands);
      }

  pub have_ways : (sets : List (List ℕ)) → AreOfEdges (forest_edges ts) sets → AllHaveWays p ways sets
  have_ways sets h = record { each = λ events o. record { each = λ e q. has_way e (h.each events o e q) } }

-- the set that is given is the first
module _ (edges : List Edge) (one : HaveOneWay edges) (ways : List WayId) (are : HasEdgeWays edges ways) (p : GtsParts)
    (sets : List (List ℕ)) (known : AreOfEdges edges sets) (given events : List ℕ) (rest later : List (List ℕ))
    (e : sets ≡ given ∷ rest) (h : sets ≡ events ∷ later) where
  same_events : given ≡ events
  same_events = let i : ◌≡◌ {A = List (List ℕ)} (given ∷ rest) (events ∷ later) = sym e ∙ h in cc

  known_events : (x : ℕ) → IsOneOf events x → HasEdge edges x
  known_events = known.each events (subst (λ (z : List (List ℕ)). IsOneOf z events) (sym h) (one_first events later))

  pub same_labels : labels_at p ways given ≡ labels_in p edges events
  same_labels = ap (labels_at p ways) same_events ∙ same_map edges one ways are (numbered_label p) events known_events

  pub conflict_here : (sys : System ℕ) (dropped : List ℕ) (f : FlowFault)
      → Conflicts sys dropped (reverse (labels_in p edges events)) f → Conflicts sys dropped
      (reverse (labels_at p ways given)) f
  conflict_here sys dropped f c = subst (λ (z : List Label). Conflicts sys dropped (reverse z) f) (sym same_labels) c

  pub same_text : (g f : FlowFault) → g ≡ f
      → fault_line (braced (texts_at p ways given)) (flow_fault_text (naming_of_parts p) g) ≡ conflict_text p edges
      events f
  same_text g f k =
      ap (λ (z : List ℕ). fault_line (braced (texts_at p ways z)) (flow_fault_text (naming_of_parts p) g)) same_events
      ∙ ap (λ (z : List (List ℕ)). fault_line (braced z) (flow_fault_text (naming_of_parts p) g))
      (same_map edges one ways are (way_label p) events known_events)
      ∙ ap (λ (z : FlowFault). conflict_text p edges events z) k
