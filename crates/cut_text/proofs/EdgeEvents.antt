-- The events of a forest's edges are the events that have a live edge, each once.
use Rattle.std.proofs.Common.{◌≡◌, ⊎_elim, ℕ, zero, suc, List, [], ◌∷◌, ◌++◌, map, refl, sym, ◌∙◌, subst, arith}
use Rattle.domains.specs.declared.Value.{Value}
use Rattle.ar_base.specs.Lists.{Stands, IsOneOf, AreDifferent}
use Rattle.ar_base.proofs.Standing.{stands_map, stands_map_back, stands_none, one_here, one_left, one_right, one_split, one_none}
use Rattle.ar_base.proofs.Items.{different_both}
use Rattle.ar_meaning.specs.Systems.{System}
use Rattle.ar_meaning.specs.FactsInside.{AreKeyed}
use Rattle.ar_meaning.specs.Runs.{Label}
use Rattle.ar_firing.specs.Fragment.{Edge, IsLive, IsModeOf, named, first}
use Rattle.ar_firing.specs.Static.{IsStatic}
use Rattle.ar_firing.specs.Forest.{Row, ModeTree, IsForest, IsModeVariable}
use Rattle.ar_firing.specs.Rules.{IsLiveEvent}
use Rattle.ar_firing.specs.Trees.{AreTrees}
use Rattle.ar_firing.proofs.TreeEdges.{row_is_live, live_is_row}
use Rattle.ar_firing.proofs.Shapes.{are_trees}
use Rattle.cut_text.specs.ForestTexts.{AreLiveEvents}

-- the event of an edge
abbrev pub event_of : Row → ℕ
event_of r = r.label.event

-- the events of the edges of these trees, tree by tree
abbrev pub events_of : List ModeTree → List ℕ
events_of [] = []
events_of (t ∷ ts) = map event_of t.edges ++ events_of ts

-- the tree of an event
found : (ts : List ModeTree) (e : ℕ) → IsOneOf (events_of ts) e
    → (k : ℕ) × (t : ModeTree) × Stands ts k t × IsOneOf (map event_of t.edges) e
found [] e o = absurd (one_none e o)
found (t ∷ ts) e o = ⊎_elim (λ x. (zero, t, refl, x)) (λ y. let r = found ts e y in (suc r.0, r.1, r.2, r.3))
    (one_split (map event_of t.edges) (events_of ts) e o)

placed : (ts : List ModeTree) (k : ℕ) (t : ModeTree) (e : ℕ) → Stands ts k t → IsOneOf (map event_of t.edges) e
    → IsOneOf (events_of ts) e
placed [] k t e s o = absurd (stands_none k t s)
placed (u ∷ ts) zero t e s o =
    let i : u ≡ t = cc in
    one_left (map event_of u.edges) (events_of ts) e
    (subst (λ (z : ModeTree). IsOneOf (map event_of z.edges) e) (sym i) o)
placed (u ∷ ts) (suc k) t e s o = one_right (map event_of u.edges) (events_of ts) e (placed ts k t e s o)

all_different : (ts : List ModeTree) → ((k : ℕ) (t : ModeTree) → Stands ts k t → AreDifferent (map event_of t.edges))
    → ((j k : ℕ) (s t : ModeTree) (e : ℕ) → Stands ts j s → Stands ts k t → IsOneOf (map event_of s.edges) e
    → IsOneOf (map event_of t.edges) e → j ≡ k)
    → AreDifferent (events_of ts)
all_different [] each apart = record { one = λ m n a s t. absurd (stands_none m a s) }
all_different (t ∷ ts) each apart = different_both (map event_of t.edges) (events_of ts) (each zero t refl)
    (all_different ts (λ k u s. each (suc k) u s)
    (λ j k s u e x y p q. let i = apart (suc j) (suc k) s u e x y p q in omega (arith, i)))
    (λ e p q. let f = found ts e q in let i = apart zero (suc f.0) t f.1 e refl f.2 p f.3 in omega (arith, i))

-- the row of an event
row_of_event : (rows : List Row) (e : ℕ) → IsOneOf (map event_of rows) e → (r : Row) × IsOneOf rows r × (event_of r ≡ e)
row_of_event rows e o =
    let b = stands_map_back event_of rows o.place e o.stands in
    (b.0, record { place = o.place; stands = b.1 }, b.2)

-- an edge is of a mode variable
module _ {V : Type 0} {sys : System V} {dropped : List ℕ} {l : Label} {n : ℕ} {from to : Value}
    (e : Edge sys dropped l n from to) where
  mode_of : (unit : ℕ) → e.is_open.is_kept.is_way.event.unit ≡ unit → IsModeOf sys unit e.way n
      → IsModeVariable sys dropped n
  mode_of unit i (named f) = record {
    variable = f.item;
    stands = f.stands;
    is_state = f.has.is_state;
    moves = record { label = l; way = e.way; is_kept = e.is_open.is_kept; is_unit = i ∙ sym f.has.is_unit };
  }
  mode_of unit i (first h f) = record {
    variable = f.item;
    stands = f.stands;
    is_state = f.has.is_state;
    moves = record { label = l; way = e.way; is_kept = e.is_open.is_kept; is_unit = i ∙ sym f.has.is_unit };
  }

  pub is_of_mode : IsModeVariable sys dropped n
  is_of_mode = mode_of e.is_open.is_kept.is_way.event.unit refl e.is_mode

module _ {V : Type 0} (sys : System V) (dropped : List ℕ) (keyed : AreKeyed sys.net) (static : IsStatic sys dropped)
    (trees : List ModeTree) (forest : IsForest sys dropped trees) where
  shapes : AreTrees trees
  shapes = are_trees sys dropped keyed static trees forest

  each_different : (k : ℕ) (t : ModeTree) → Stands trees k t → AreDifferent (map event_of t.edges)
  each_different k t s = record {
    one = λ m n a x y.
        let b = stands_map_back event_of t.edges m a x in
        let c = stands_map_back event_of t.edges n a y in
        (shapes.each k t s).event m n b.0 c.0 b.1 c.1 (b.2 ∙ sym c.2);
  }

  trees_apart : (j k : ℕ) (s t : ModeTree) (e : ℕ) → Stands trees j s → Stands trees k t
      → IsOneOf (map event_of s.edges) e
      → IsOneOf (map event_of t.edges) e → j ≡ k
  trees_apart j k s t e x y p q =
      let b = row_of_event s.edges e p in
      let c = row_of_event t.edges e q in
      let u : Row = b.0 in
      let v : Row = c.0 in
      shapes.apart.one j k s t u.from u.to v.from v.to u.label v.label x y b.1 c.1 (b.2 ∙ sym c.2)

  live_row : (e : ℕ) → IsOneOf (events_of trees) e → IsLiveEvent sys dropped e
  live_row e o =
      let f = found trees e o in
      let t : ModeTree = f.1 in
      let b = row_of_event t.edges e f.3 in
      let r : Row = b.0 in
      record {
        number = t.variable;
        live = record {
          label = r.label;
          is_event = b.2;
          from = r.from;
          to = r.to;
          is_live = row_is_live sys dropped keyed static t (forest.sound f.0 t f.2) r b.1;
        };
      }

  row_live : (e : ℕ) → IsLiveEvent sys dropped e → IsOneOf (events_of trees) e
  row_live e h =
      let l = h.live in
      let w = forest.whole h.number (is_of_mode l.is_live.edge) in
      let t : ModeTree = w.0 in
      let r : Row = record { from = l.from; label = l.label; to = l.to } in
      let o = live_is_row sys dropped keyed static t (forest.sound w.1.place t w.1.stands) r
      (subst (λ (z : ℕ). IsLive sys dropped l.label z l.from l.to) (sym w.2) l.is_live) in
      placed trees w.1.place t e w.1.stands
      (subst (λ z. IsOneOf (map event_of t.edges) z) l.is_event
      (one_here (map event_of t.edges) o.place (event_of r) (stands_map event_of t.edges o.place r o.stands)))

  -- the events of the edges are the live events
  pub are_live : AreLiveEvents sys dropped (events_of trees)
  are_live = record { sound = live_row; whole = row_live; different = all_different trees each_different trees_apart }
