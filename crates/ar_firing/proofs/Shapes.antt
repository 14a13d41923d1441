-- The trees of a static system's forest are trees by their edges alone.
use Rattle.std.proofs.Common.{◌≡◌, ◌⊎◌, inl, inr, ⊎_elim, ℕ, zero, suc, ◌+◌, ◌<◌, ◌≤◌, List, [], ◌∷◌, ◌++◌, length, Some, refl, sym, ap, ◌∙◌, subst, arith, length-append, append_assoc}
use Rattle.std.proofs.lemmas.Bool.{cases_order}
use Rattle.ar_base.specs.Lists.{Stands}
use Rattle.ar_base.proofs.Standing.{stands_left, stands_right, stands_split, stands_next}
use Rattle.domains.specs.declared.Value.{Value}
use Rattle.ar_meaning.specs.Systems.{System}
use Rattle.ar_meaning.specs.FactsInside.{AreKeyed}
use Rattle.ar_meaning.specs.Runs.{Label}
use Rattle.ar_firing.specs.Fragment.{Path, root, edge, Edge, IsLive}
use Rattle.ar_firing.specs.Static.{IsStatic}
use Rattle.ar_firing.specs.Forest.{Row, Under, no_more, next, ModeTree, IsModeTree, IsForest}
use Rattle.ar_firing.proofs.Ends.{path_unique, end_same, label_same}
use Rattle.ar_firing.proofs.TreeEdges.{row_is_live}
use Rattle.ar_firing.specs.Trees.{IsTree, AreTrees, HaveOwnEvents}

module _ {V : Type 0} (sys : System V) (dropped : List ℕ) (keyed : AreKeyed sys.net)
    (static : IsStatic sys dropped) where
  -- the path to the mode that a row below this mode enters: it goes on from the mode by an edge from `low` on
  record Goes_on (n : ℕ) (ls : List Label) (low : ℕ) (to : Value) : Type 0 where
    pub front : List Label
    pub step : Label
    pub late : low ≤ step.event
    pub path : Path sys dropped n (front ++ step ∷ ls) to

  goes_on : {n : ℕ} {m : Value} {low : ℕ} {rows : List Row} {ls : List Label} → Path sys dropped n ls m
      → Under sys dropped n m low rows → (k : ℕ) (r : Row) → Stands rows k r → Goes_on n ls low r.to
  goes_on p (no_more h) k r s = cc
  goes_on {n = n} {low = low} {ls = ls} p (next {to = to} {l = l} b e h d f) zero r s =
      let i : to ≡ r.to = cc in subst (Goes_on n ls low) i (record { front = []; step = l; late = b; path = edge p e })
  goes_on {n = n} {low = low} {ls = ls} p (next {to = to} {l = l} {es = es} {fs = fs} b e h d f) (suc k) r s = ⊎_elim
      (λ q. let g = goes_on (edge p e) d k r q in
      record {
        front = g.front ++ g.step ∷ [];
        step = l;
        late = b;
        path = subst (λ z. Path sys dropped n z r.to) (sym (append_assoc g.front (g.step ∷ []) (l ∷ ls))) g.path;
      })
      (λ q. let g = goes_on p f q.0 r q.2 in record { front = g.front; step = g.step; late = omega (arith, b, g.late); path = g.path })
      (stands_split es fs k r s)

  -- no mode is entered by two rows
  entered_once : {n : ℕ} {m : Value} {low : ℕ} {rows : List Row} {ls : List Label} → Path sys dropped n ls m
      → Under sys dropped n m low rows
      → (j k : ℕ) (q r : Row) → j < k → Stands rows j q → Stands rows k r → q.to ≡ r.to → ⊥
  entered_once p (no_more h) j k q r l s t w = cc
  entered_once p (next b e h d f) zero zero q r l s t w = omega (arith, l)
  entered_once p (next b e h d f) (suc j) zero q r l s t w = omega (arith, l)
  entered_once {n = n} {ls = ls} p (next {to = to} {l = x} {es = es} {fs = fs} b e h d f) zero (suc k) q r l s t w =
      let i : to ≡ r.to = let a : to ≡ q.to = cc in a ∙ w in
      ⊎_elim
      (λ y. let g = goes_on (edge p e) d k r y in
      let u = path_unique sys dropped keyed static (subst (Path sys dropped n (x ∷ ls)) i (edge p e)) g.path in
      omega (arith, ap length u, length-append g.front (g.step ∷ x ∷ ls)))
      (λ y. let g = goes_on p f y.0 r y.2 in
      let u = path_unique sys dropped keyed static (subst (Path sys dropped n (x ∷ ls)) i (edge p e)) g.path in
      let z : length g.front ≡ 0 = omega (arith, ap length u, length-append g.front (g.step ∷ ls)) in
      let v : Stands (x ∷ ls) 0 g.step =
      subst (λ c. Stands c 0 g.step) (sym u)
      (subst (λ c. Stands (g.front ++ g.step ∷ ls) c g.step) z (stands_next g.front g.step ls)) in
      let c : x ≡ g.step = cc in
      omega (arith, g.late, ap (λ (a : Label). a.event) c))
      (stands_split es fs k r t)
  entered_once {n = n} {ls = ls} p (next {to = to} {l = x} {es = es} {fs = fs} b e h d f) (suc j) (suc k) q r l s t w =
      ⊎_elim
      (λ y. ⊎_elim
      (λ z. entered_once (edge p e) d j k q r (omega (arith, l)) y z w)
      (λ z. across q r (goes_on (edge p e) d j q y) (goes_on p f z.0 r z.2) w)
      (stands_split es fs k r t))
      (λ y. ⊎_elim
      (λ z. across r q (goes_on (edge p e) d k r z) (goes_on p f y.0 q y.2) (sym w))
      (λ z. entered_once p f y.0 z.0 q r (omega (arith, l, y.1, z.1)) y.2 z.2 w)
      (stands_split es fs k r t))
      (stands_split es fs j q s)
    where
      across : (q r : Row) → Goes_on n (x ∷ ls) 0 q.to → Goes_on n ls (x.event + 1) r.to → q.to ≡ r.to → ⊥
      across q r g o w =
          let u =
          path_unique sys dropped keyed static
          (subst (Path sys dropped n (g.front ++ g.step ∷ x ∷ ls)) w g.path) o.path in
          let z : length o.front ≡ length (g.front ++ g.step ∷ []) =
          omega (
            arith,
            ap length u,
            length-append g.front (g.step ∷ x ∷ ls),
            length-append o.front (o.step ∷ ls),
            length-append g.front (g.step ∷ []),
          ) in
          let v : Stands ((g.front ++ g.step ∷ []) ++ x ∷ ls) (length (g.front ++ g.step ∷ [])) o.step =
          subst (λ c. Stands c (length (g.front ++ g.step ∷ [])) o.step)
          (sym (append_assoc g.front (g.step ∷ []) (x ∷ ls) ∙ u))
          (subst (λ c. Stands (o.front ++ o.step ∷ ls) c o.step) z (stands_next o.front o.step ls)) in
          let a : Some x ≡ Some o.step = sym (stands_next (g.front ++ g.step ∷ []) x ls) ∙ v in
          let c : x ≡ o.step = cc in
          omega (arith, o.late, ap (λ (a : Label). a.event) c)

  -- each row leaves the mode or one that an earlier row enters
  leaves : {n : ℕ} {m : Value} {low : ℕ} {rows : List Row} → Under sys dropped n m low rows → (k : ℕ) (r : Row)
      → Stands rows k r → (r.from ≡ m) ⊎ ((j : ℕ) × (q : Row) × (j < k) × Stands rows j q × (q.to ≡ r.from))
  leaves (no_more h) k r s = cc
  leaves {m = m} (next b e h d f) zero r s = let i : m ≡ r.from = cc in inl (sym i)
  leaves {m = m} (next {to = to} {l = l} {es = es} {fs = fs} b e h d f) (suc k) r s = ⊎_elim
      (λ y. ⊎_elim (λ i. inr (zero, record { from = m; label = l; to = to }, omega arith, refl, sym i))
      (λ o. inr (suc o.0, o.1, omega (arith, o.2), stands_left es fs o.0 o.1 o.3, o.4)) (leaves d k r y))
      (λ y. ⊎_elim (λ i. inl i)
      (λ o. inr (
        suc (length es + o.0),
        o.1,
        omega (arith, o.2, y.1),
        stands_right es fs o.0 (length es + o.0) o.1 refl
            o.3,
        o.4,
      ))
      (leaves f y.0 r y.2))
      (stands_split es fs k r s)

  pub is_tree : (tree : ModeTree) → IsModeTree sys dropped tree → IsTree tree
  is_tree tree h = record {
    from = leaves h.edges;
    begins = λ k r s w.
        static.enters_once.begins r.label tree.variable r.from h.is_mode.variable h.is_mode.stands
        (subst (λ z. IsLive sys dropped r.label tree.variable r.from z) (w ∙ h.first)
        (row_is_live sys dropped keyed static tree h r (record { place = k; stands = s })));
    enters = λ j k q r s t w.
        ⊎_elim (λ e. e)
        (λ o. ⊎_elim (λ l. absurd (entered_once here h.edges j k q r l s t w))
        (λ l. absurd (entered_once here h.edges k j r q l t s (sym w))) o)
        (cases_order j k);
    event = λ j k q r s t w.
        let a = row_is_live sys dropped keyed static tree h q (record { place = j; stands = s }) in
        let b = row_is_live sys dropped keyed static tree h r (record { place = k; stands = t }) in
        let u = static.one_edge.one q.label r.label tree.variable tree.variable q.from r.from q.to r.to a b w in
        let g : q.to ≡ r.to =
        end_same sys dropped keyed static
        (subst (λ z. Edge sys dropped z tree.variable q.from q.to) (label_same q.label r.label w u.0) a.edge)
        (subst (λ z. Edge sys dropped r.label tree.variable z r.to) (sym u.2) b.edge) in
        ⊎_elim (λ e. e)
        (λ o. ⊎_elim (λ l. absurd (entered_once here h.edges j k q r l s t g))
        (λ l. absurd (entered_once here h.edges k j r q l t s (sym g))) o)
        (cases_order j k);
  }
    where
      here : Path sys dropped tree.variable [] tree.first
      here = root h.is_mode.stands h.is_mode.is_state (sym h.first)

  module _ (trees : List ModeTree) (forest : IsForest sys dropped trees) where
    one_tree : (j k : ℕ) (s t : ModeTree) → Stands trees j s → Stands trees k t → s.variable ≡ t.variable → j ≡ k
    one_tree j k s t i h e = ⊎_elim (λ x. x) (λ o. ⊎_elim
        (λ l. let a = forest.ascends j k s t l i h in absurd (omega (arith, a, e)))
        (λ l. let a = forest.ascends k j t s l h i in absurd (omega (arith, a, e))) o) (cases_order j k)

    -- no event has edges in two trees
    pub forest_apart : HaveOwnEvents trees
    forest_apart = record {
      one = λ j k s t a b c d l m i h x y e.
          let u =
          row_is_live sys dropped keyed static s (forest.sound j s i) (record { from = a; label = l; to = b }) x in
          let v =
          row_is_live sys dropped keyed static t (forest.sound k t h) (record { from = c; label = m; to = d }) y in
          one_tree j k s t i h (static.one_edge.one l m s.variable t.variable a c b d u v e).1;
    }

    pub are_trees : AreTrees trees
    are_trees = record { each = λ k tree i. is_tree tree (forest.sound k tree i); apart = forest_apart }
