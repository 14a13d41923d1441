-- The trees of the code are the forest of the system.
use Rattle.std.proofs.Common.{◌≡◌, ℕ, inl, inr, Bool, true, false, List, [], ◌∷◌, ◌++◌, length, map, refl, sym, ap, ◌∙◌, subst, arith}
use Rattle.std.proofs.lemmas.List.{map-append}
use Rattle.ar_base.specs.Lists.{Stands, IsOneOf, AreDifferent}
use Rattle.ar_base.specs.Numbers.{WayId}
use Rattle.ar_base.proofs.Standing.{stands_one, stands_within, stands_map, stands_map_back, along_back, one_none, one_cases, one_split}
use Rattle.domains.specs.declared.Value.{Value}
use Rattle.ar_meaning.specs.Systems.{System}
use Rattle.ar_meaning.specs.Runs.{Label}
use Rattle.ar_firing.specs.Fragment.{root, edge, IsReached}
use Rattle.ar_firing.specs.Fragment as f
use Rattle.ar_firing.specs.Forest.{Row, Under, no_more, next, IsModeTree, IsForest}
use Rattle.ar_firing.specs.Forest as firing
use Rattle.ar_firing.specs.Rules.{KeepsS1, KeepsS2}
use Rattle.gts_core.specs.View.{Views}
use Rattle.gts_core.specs.Sound.{IsSound}
use Rattle.gts_core.specs.declared.system.Variable.{Variable}
use Rattle.gts_core.specs.declared.system.GtsParts.{GtsParts}
use Rattle.mode_search.specs.Events.{AreMarks, AreMoving}
use Rattle.mode_search.specs.declared.kept.KeptWay.{KeptWay}
use Rattle.mode_trees.specs.Views.{edge_row, tree_of, trees_of, number_in}
use Rattle.mode_trees.specs.Ways.{HasOwnWay, OwnTheirWays}
use Rattle.mode_trees.specs.declared.forests.Edge.{Edge}
use Rattle.mode_trees.specs.declared.forests.ModeTree.{ModeTree}
use Rattle.mode_trees.specs.declared.forests.Forest.{Forest}
use Rattle.mode_trees.specs.Below.{AreEdgesBelow}
use Rattle.mode_trees.specs.Below as below
use Rattle.mode_search.specs.Reached.{HasModeAgain}
use Rattle.mode_search.specs.declared.searching.Reach.{Reach}
use Rattle.mode_search.specs.declared.listing.Live.{Live}
use Rattle.mode_search.specs.Live.{AreLive, AreEdgesApart}
use Rattle.mode_search.specs.Sharing.{HaveEventsWithin}
use Rattle.static_fragment.proofs.Units.{moving_mode, mode_moving, value_there}
use Rattle.static_fragment.specs.Setting.{AreReached, label_in}
use Rattle.static_fragment.proofs.Leading.{row_with, in_row, live_there, live_back}
use Rattle.static_fragment.specs.Stages.{AreFromWays, NoneAgain}
use Rattle.static_fragment.specs.Trees.{IsTreeAt, AreTreesBelow}

-- edges below a mode are some of the list
below_one : (edges : List Edge) {m : Value} {low : ℕ} {es : List Edge} → AreEdgesBelow edges m low es → {e : Edge}
    → IsOneOf es e → IsOneOf edges e
below_one edges (below.no_more h) {e = e} o = absurd (one_none e o)
below_one edges (below.next {es = es} {fs = fs} x i f l least d c) {e = e} o = elim (one_cases x (es ++ fs) e o) [
  | inl same ↦ subst (λ (z : Edge). IsOneOf edges z) same i
  | inr later ↦ elim (one_split es fs e later) [ inl h ↦ below_one edges d h | inr h ↦ below_one edges c h ]
]

module _ {p : GtsParts} {reaches : List Reach} (w : AreFromWays p reaches) where
  -- no variable has two edges by one way from one mode
  pub all_apart : AreEdgesApart reaches
  all_apart = record { one = λ n r st. (w.are.each n r st).is.apart }

  -- the events of live edges are events of the parts
  pub all_within : (live : List Live) → AreLive reaches (length reaches) live → (count : ℕ)
      → count ≡ length p.events.items → HaveEventsWithin count live
  all_within live a count e = record {
    within = λ x l st.
        let h = a.sound x l st in
        let q = w.are.each l.variable.n h.reach h.stands in
        let g = (q.is.edges_sound l.edge h.is_one).1 in
        let i = in_row w.kept l.variable.n g.place g.way g.stands in
        let b = along_back w.listed.are.labels w.kept w.listed.are.are i.place g.way i.stands in
        let there = stands_within p.events.items b.0.event b.2.event b.2.is_event in
        let same : l.edge.event.n ≡ b.0.event = ap (λ z. z.n) g.is_event ∙ (ap (λ z. z.n) b.2.is.is_event ∙ b.2.number)
        in
        omega (arith, there, same, e);
  }

  -- an edge that a variable reaches has a way of its own event
  own_way : IsSound p → (n : ℕ) (r : Reach) → Stands reaches n r → (e : Edge) → IsOneOf r.edges.items e → HasOwnWay p e
  own_way sound n r st e o =
      let q = w.are.each n r st in
      let g = (q.is.edges_sound e o).1 in
      let i = in_row w.kept n g.place g.way g.stands in
      let b = along_back w.listed.are.labels w.kept w.listed.are.are i.place g.way i.stands in
      let l : Label = b.0 in
      let at = b.2 in
      let listed = sound.event_ways l.event l.way at.event at.way at.is_event at.has in
      let same : e.event.n ≡ l.event = ap (λ z. z.n) g.is_event ∙ (ap (λ z. z.n) at.is.is_event ∙ at.number) in
      record {
        way = listed.way;
        stands = subst (λ (z : WayId). Stands p.ways.items z.n listed.way) (sym (g.is_way ∙ at.is.is_way))
            listed.stands;
        is_event = listed.event ∙ sym same;
      }

  pub own_ways : IsSound p → (moving : List Bool) (count : ℕ) (trees : List ModeTree)
      → AreTreesBelow p moving reaches count trees → OwnTheirWays p trees
  own_ways sound moving count trees t = record {
    each = λ tree o.
        let h = t.sound o.place tree o.stands in
        record {
          each = λ e q. own_way sound tree.variable.n h.reach h.stands e
              (below_one h.reach.edges.items h.edges q);
        };
  }

  -- where no edge enters a mode again, the first mode and those that edges enter are different
  pub all_once : NoneAgain reaches → (n : ℕ) (x : Variable) (r : Reach) → Stands p.variables.items n x
      → Stands reaches n r → AreDifferent (x.value ∷ map (λ (z : Edge). z.to) r.edges.items)
  all_once none n x r sx st =
      let q = w.are.each n r st in
      let same : q.variable.value ≡ x.value = ap (λ (z : Variable). z.value)
      (stands_one p.variables.items n q.variable x q.stands sx) in
      subst (λ (z : Value). AreDifferent (z ∷ map (λ (y : Edge). y.to) r.edges.items)) same
      (subst (λ (z : List Value). AreDifferent z) (once q.variable.value r.again refl q.is.again) q.is.different)
    where
      once : (first : Value) (b : Bool) → r.again ≡ b → HasModeAgain first r.modes.items r.edges.items b
          → r.modes.items ≡ first ∷ map (λ (y : Edge). y.to) r.edges.items
      once first true e h = absurd (none n (record { reach = r; stands = st; again = e }))
      once first false e h = h

module _ {p : GtsParts} {system : System ℕ} {dropped : List ℕ} {kept : List KeptWay} {reaches : List Reach}
    (a : AreReached p system dropped kept reaches)
    (k1 : KeepsS1 system) (k2 : KeepsS2 system dropped) where
  module _ (n : ℕ) (r : Reach) (st : Stands reaches n r) where
    -- an edge of the system from a mode that is reached is one of the list
    record Leaving (m : Value) (l : Label) (to : Value) : Type 0 where
      pub one : Edge
      pub is_one : IsOneOf r.edges.items one
      pub is_from : one.from ≡ m
      pub event : one.event.n ≡ l.event

    leaving : (m : Value) → IsReached system dropped n m → (l : Label) (to : Value) → f.Edge system dropped l n m to
        → Leaving m l to
    leaving m reached l to g =
        let b = live_back a k1 k2 l n m to (record { reached = reached; edge = g }) in
        record {
          one = b.edge;
          is_one = subst (λ (z : Reach). IsOneOf z.edges.items b.edge) (stands_one reaches n b.reach r b.stands st)
              b.is_one;
          is_from = b.is_from;
          event = ap (λ (z : Label). z.event) b.label;
        }

    abbrev row : Edge → Row
    row = edge_row (number_in p)

    rows : (e : Edge) (m : Value) (es fs : List Edge) → e.from ≡ m
        → map row (e ∷ (es ++ fs)) ≡ row_with m (label_in p e) e.to ∷ (map row es ++ map row fs)
    rows e m es fs i = ap (λ (z : Value). row_with z (label_in p e) e.to ∷ map row (es ++ fs)) i ∙ ap
        (λ (z : List Row). row_with m (label_in p e) e.to ∷ z) (map-append row es fs)

    pub under : {m : Value} {low : ℕ} {es : List Edge} → IsReached system dropped n m → AreEdgesBelow r.edges.items m low es
        → Under system dropped n m low (map row es)
    under {m = m} {low = low} reached (below.no_more h) = no_more (λ l to late g.
        let b = leaving m reached l to g in h b.one b.is_one b.is_from (omega (arith, late, b.event)))
    under {m = m} {low = low} reached (below.next {es = es} {fs = fs} e o i late least d d') =
        let g : f.Edge system dropped (label_in p e) n m e.to = subst
        (λ (z : Value). f.Edge system dropped (label_in p e) n z e.to) i (live_there a n r st e o).edge in
        let on : IsReached system dropped n e.to = record {
          labels = label_in p e ∷ reached.labels;
          path = edge
              reached.path g;
        } in
        subst (λ (z : List Row). Under system dropped n m low z) (sym (rows e m es fs i))
        (next {l = label_in p e} late g
        (λ l to l_late l_before h. let b = leaving m reached l to h in least b.one b.is_one b.is_from
        (omega (arith, l_late, b.event)) (omega (arith, l_before, b.event)))
        (under on d) (under reached d'))

  module _ (views : Views p system) (sound : IsSound p) (marks moving : List Bool)
      (are : AreMarks (length p.events.items) dropped marks) (move : AreMoving p marks (length p.events.items) moving)
      (trees : Forest) (t : AreTreesBelow p moving reaches (length p.variables.items) trees.trees.items) where
    is_tree : (tree : ModeTree) → IsTreeAt p moving reaches (length p.variables.items) tree
        → IsModeTree system dropped (tree_of (number_in p) tree)
    is_tree tree h =
        let m = moving_mode p system views dropped marks are moving move tree.variable.n h.state in
        let same : m.variable.value ≡ h.state.variable.value = value_there p system views dropped tree.variable.n m
        h.state.variable h.state.stands in
        let first : tree.first ≡ m.variable.value = h.first ∙ sym same in
        record {
          is_mode = m;
          first = first;
          edges = under tree.variable.n h.reach h.stands (record
              { labels = []; path = root m.stands m.is_state (sym first) }) h.edges;
        }

    pub is_forest : IsForest system dropped (trees_of (number_in p) trees)
    is_forest = record {
      sound = λ k tree st.
          let b = stands_map_back (tree_of (number_in p)) trees.trees.items k tree st in
          subst (λ (z : firing.ModeTree). IsModeTree system dropped z) b.2 (is_tree b.0 (t.sound k b.0 b.1));
      whole = λ n m.
          let s = mode_moving p system views dropped marks are moving move sound n m in
          let w = t.whole n (stands_within p.variables.items n s.variable s.stands) s in (
            tree_of (number_in p) w.1,
            record {
              place = w.0;
              stands = stands_map (tree_of (number_in p))
                  trees.trees.items w.0 w.1 w.2;
            },
            w.3,
          );
      ascends = λ j k x y l u v.
          let b = stands_map_back (tree_of (number_in p)) trees.trees.items j x u in
          let c = stands_map_back (tree_of (number_in p)) trees.trees.items k y v in
          let d = t.ascend j k b.0 c.0 l b.1 c.1 in
          omega (arith, d, ap (λ (z : firing.ModeTree). z.variable) b.2, ap (λ (z : firing.ModeTree). z.variable) c.2);
    }

-- the trees, where the flags of units were read from another place
pub trees_as : (p : GtsParts) (moving read : List Bool) (reaches : List Reach) (trees : Forest) → read ≡ moving
    → AreTreesBelow p read reaches (length p.variables.items) trees.trees.items
    → AreTreesBelow p moving reaches (length p.variables.items) trees.trees.items
trees_as p moving read reaches trees i t = subst (λ (z : List Bool). AreTreesBelow p z reaches
    (length p.variables.items) trees.trees.items) i t
