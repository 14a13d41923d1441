-- One tree more over new numbers, and one edge of it more.
use Rattle.std.proofs.Common.{◌≡◌, ⊎_elim, inl, inr, ℕ, ◌+◌, ◌<◌, ◌≤◌, List, [], ◌∷◌, ◌++◌, Some, None, length, take, drop, refl, sym, ap, ◌∙◌, subst, arith, length-append, append_assoc}
use Rattle.std.specs.HashMap.{HashMap}
use Rattle.std.proofs.lemmas.List.{map-append, length-map, length-take-le, take-append-drop}
use Rattle.ar_base.specs.Lists.{Stands}
use Rattle.ar_base.specs.NumbersInside.{EventId}
use Rattle.ar_base.proofs.Standing.{stands_none, stands_one, stands_within, stands_left, stands_map_back, along_back}
use Rattle.diagram_steps.specs.declared.trees.NumberedEdge.{NumberedEdge}
use Rattle.diagram_steps.specs.declared.trees.NumberedTree.{NumberedTree}
use Rattle.diagram_steps.specs.Trees.{edges_of, TreeHasEvent}
use Rattle.mode_diagrams.specs.Trees.{AreApart}
use Rattle.mode_diagrams.specs.Costs.{HasDifferentEvents}
use Rattle.mode_diagrams.specs.Lacking.{tree_place_of, HavePlacedEvents}
use Rattle.event_order.specs.Renumbered.{AreDistinct, IsNamed, IsRenumbered, AreRenumbered}
use Rattle.event_order.specs.Taking.{AreNumbersOf, events_of, IsNew, IsFrom, names_in, AreTaken, IsOfTreeAt, AreOfOneTree, Takes, Meets}
use Rattle.event_order.specs.declared.numbering.Numbering.{Numbering}
use Rattle.event_order.proofs.Naming.{named_left, named_split}
use Rattle.event_order.proofs.Taken.{old_event, new_named, renumbered_none, renumbered_more}

-- ---- one edge more
-- an event of the first so many edges is that of an edge before them
early : (edges : List NumberedEdge) (i : ℕ) → i ≤ length edges → (e : ℕ) → IsNamed (events_of (take i edges)) e
    → (k : ℕ) × (a : NumberedEdge) × (k < i) × Stands edges k a × (a.event.n ≡ e)
early edges i h e n =
    let a = stands_map_back (λ (x : NumberedEdge). x.event) (take i edges) n.number n.name n.stands in (
      n.number,
      a.0,
      (let w = stands_within (take i edges) n.number a.0 a.1 in omega (arith, w, length-take-le i edges h)),
      subst (λ es. Stands es n.number a.0) (take-append-drop i edges)
          (stands_left (take i edges) (drop i edges) n.number a.0 a.1),
      ap (λ (x : EventId). x.n) a.2 ∙ n.is,
    )

-- the event of the next edge has no number yet
pub edge_fresh : (names now : List EventId) (tree : NumberedTree) (i : ℕ) (a : NumberedEdge)
    → now ≡ names ++ events_of (take i (edges_of tree)) → HasDifferentEvents tree → IsNew names tree
    → Stands (edges_of tree) i a → IsNamed now a.event.n → ⊥
edge_fresh names now tree i a is d f st n = ⊎_elim
    (λ l. f.none a.event.n (record { edge = a; one = record { place = i; stands = st }; is = refl }) l)
    (λ r.
    let within = stands_within (edges_of tree) i a st in
    let w = early (edges_of tree) i (omega (arith, within)) a.event.n r in
    let same = d.one w.0 i w.1 a w.3 st w.4 in
    let wrong : ⊥ = omega (arith, same, w.2) in wrong)
    (named_split names (events_of (take i (edges_of tree))) a.event.n (subst (λ ns. IsNamed ns a.event.n) is n))

-- the names with the event of the next edge
pub names_step : (names now new : List EventId) (edges : List NumberedEdge) (i : ℕ) (a : NumberedEdge)
    → now ≡ names ++ events_of (take i edges) → new ≡ now ++ a.event ∷ [] → take (i + 1) edges ≡ take i edges ++ a ∷ []
    → new ≡ names ++ events_of (take (i + 1) edges)
names_step names now new edges i a p q t =
    q ∙ ap (λ ns. ns ++ a.event ∷ []) p ∙ append_assoc names (events_of (take i edges)) (a.event ∷ [])
    ∙ ap (λ ns. names ++ ns)
    (sym (ap events_of t ∙ map-append (λ (e : NumberedEdge). e.event) (take i edges) (a ∷ [])))

-- as many names more as there were edges
pub names_long : (names now : List EventId) (edges : List NumberedEdge) (i : ℕ)
    → now ≡ names ++ events_of (take i edges) → i ≤ length edges → length now ≡ length names + i
names_long names now edges i p h =
    ap length p
    ∙ omega (
      arith,
      length-append names (events_of (take i edges)),
      length-map (take i edges) (λ (e : NumberedEdge). e.event),
      length-take-le i edges h,
    )

-- ---- no trees
pub taken_none : (trees : List NumberedTree) (n : Numbering) → n.trees.items ≡ [] → names_in n ≡ []
    → AreNumbersOf (names_in n) n.numbers.numbers → AreTaken trees n
taken_none trees n t e a = record {
  trees_are = subst (λ ns. AreRenumbered ns trees n.trees.items) (sym e)
      (subst (λ ts. AreRenumbered [] trees ts) (sym t) (renumbered_none trees));
  numbers_are = a;
}

-- ---- one tree more
of_edges : (tree : NumberedTree) (x : ℕ) → IsNamed (events_of (edges_of tree)) x → TreeHasEvent tree x
of_edges tree x n =
    let a = stands_map_back (λ (e : NumberedEdge). e.event) (edges_of tree) n.number n.name n.stands in
    record {
      edge = a.0;
      one = record { place = n.number; stands = a.1 };
      is = ap (λ (y : EventId). y.n) a.2 ∙ n.is;
    }

pub takes_more : (trees : List NumberedTree) (place : ℕ) (old new : Numbering) (tree made : NumberedTree)
    → AreTaken trees old → Stands trees place tree → IsNew (names_in old) tree
    → names_in new ≡ names_in old ++ events_of (edges_of tree) → AreNumbersOf (names_in new) new.numbers.numbers
    → IsRenumbered (names_in new) tree made → IsFrom (length (names_in old)) made
    → new.trees.items ≡ old.trees.items ++ made ∷ [] → Takes trees place old new
takes_more trees place old new tree made t stands fresh names numbers is from pushed = record {
  taken = record {
    trees_are = subst (λ ns. AreRenumbered ns trees new.trees.items) (sym names)
        (subst (λ ts. AreRenumbered (names_in old ++ events_of (edges_of tree)) trees ts) (sym pushed)
        (renumbered_more (names_in old) trees old.trees.items t.trees_are place tree made stands fresh
        (subst AreDistinct names numbers.distinct)
        (subst (λ ns. IsRenumbered ns tree made) names is) from));
    numbers_are = numbers;
  };
  kept = λ x n. subst (λ ns. IsNamed ns x) (sym names) (named_left (names_in old) (events_of (edges_of tree)) x n);
  met = λ u e st h.
      new_named (names_in new) u made
      (subst (λ y. IsRenumbered (names_in new) y made) (stands_one trees place tree u stands st) is) e h;
  fresh = λ x n. ⊎_elim
      (λ l. inl l)
      (λ r. inr (record { tree = tree; stands = stands; has = of_edges tree x r }))
      (named_split (names_in old) (events_of (edges_of tree)) x (subst (λ ns. IsNamed ns x) names n));
}

-- where one event of a tree has no number, none has
pub tree_fresh : (names : List EventId) (olds news : List NumberedTree) → AreRenumbered names olds news → AreApart olds
    → (place : ℕ) (tree : NumberedTree) → Stands olds place tree → (e : ℕ) → TreeHasEvent tree e → (IsNamed names e → ⊥)
    → IsNew names tree
tree_fresh names olds news r apart place tree st e h unnamed = record {
  some = e;
  has_some = h;
  none = λ x hx n.
      let u = r.used n.number n.name n.stands in
      let w = along_back r.places news r.trees u.0 u.1 u.2 in
      let o = old_event names w.2.old u.1 w.2.is n.number u.3 in
      let same : o.0 ≡ n.name = stands_one names n.number o.0 n.name o.1 n.stands in
      let has : TreeHasEvent w.2.old x =
      subst (λ k. TreeHasEvent w.2.old k) (ap (λ (y : EventId). y.n) same ∙ n.is) o.2 in
      let at : w.0 ≡ place = apart.one w.0 place w.2.old tree x w.2.stands st has hx in
      let is : w.2.old ≡ tree =
      stands_one olds place w.2.old tree (subst (λ k. Stands olds k w.2.old) at w.2.stands) st in
      unnamed (new_named names w.2.old u.1 w.2.is e (subst (λ y. TreeHasEvent y e) (sym is) h));
}

-- the tree that is taken is the only one with its events
pub meets_one : (trees : List NumberedTree) (e place : ℕ) (old new : Numbering) (tree : NumberedTree) → AreApart trees
    → Stands trees place tree → TreeHasEvent tree e → Takes trees place old new → Meets trees e old new
meets_one trees e place old new tree apart stands has t = record {
  taken = t.taken;
  kept = t.kept;
  met = λ k u st h.
      let at : k ≡ place = apart.one k place u tree e st stands h has in
      t.met u e (subst (λ j. Stands trees j u) at st) h;
  fresh = λ x n. ⊎_elim
      (λ l. inl l)
      (λ r. inr (record {
        place = place;
        tree = tree;
        stands = stands;
        first = has;
        second = subst (λ y. TreeHasEvent y x) (stands_one trees place r.tree tree r.stands stands) r.has;
      }))
      (t.fresh x n);
}

-- where no place is put for an event, no tree has it
pub meets_none : {S : Type 0} (trees : List NumberedTree) (e : EventId) (places : HashMap EventId ℕ S) (n : Numbering)
    → HavePlacedEvents trees (length trees) places → tree_place_of places e ≡ None → AreTaken trees n → Meets trees e.n n n
meets_none trees e places n placed lacks t = record {
  taken = t;
  kept = λ x named. named;
  met = λ k u st h.
      let w = placed.whole k u e (stands_within trees k u st) st h in
      let wrong : None ≡ Some w.0 = sym lacks ∙ w.1 in cc;
  fresh = λ x n. inl n;
}

-- the event has a number already, so nothing is taken
pub meets_named : (trees : List NumberedTree) (e : ℕ) (n : Numbering) → AreTaken trees n → IsNamed (names_in n) e
    → Meets trees e n n
meets_named trees e n t named = record {
  taken = t;
  kept = λ x h. h;
  met = λ k u st h. named;
  fresh = λ x h. inl h;
}

-- where there are no trees, no event has a number
pub none_named : (n : Numbering) → AreTaken [] n → (e : ℕ) → IsNamed (names_in n) e → ⊥
none_named n t e m =
    let r = t.trees_are in
    let u = r.used m.number m.name m.stands in
    let w = along_back r.places n.trees.items r.trees u.0 u.1 u.2 in
    stands_none w.0 w.2.old w.2.stands
