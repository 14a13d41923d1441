-- Sets with the paths to their events, and events on no one path.
use Rattle.std.proofs.Common.{◌≡◌, ◌<◌, ◌≤◌, ◌⊎◌, inl, inr, ⊎_elim, ℕ, zero, suc, Bool, true, false, List, [], ◌∷◌, length, map, get_or, refl, sym, ap, ◌∙◌, subst, arith, true≢false}
use Rattle.std.proofs.lemmas.Bool.{cases_eq}
use Rattle.ar_base.specs.Lists.{Stands, IsOneOf}
use Rattle.ar_base.proofs.Standing.{stands_one, stands_get, stands_map, stands_within}
use Rattle.zdd_nodes.specs.Families.{holds}
use Rattle.zdd_nodes.proofs.Members.{holds_law}
use Rattle.mode_nodes.specs.Diagrams.{mode_of}
use Rattle.diagram_steps.specs.declared.trees.NumberedEdge.{NumberedEdge}
use Rattle.diagram_steps.specs.declared.trees.NumberedTree.{NumberedTree}
use Rattle.diagram_steps.specs.Trees.{edges_of}
use Rattle.diagram_steps.proofs.TreeOrder.{stands_is}
use Rattle.mode_diagrams.specs.Trees.{IsOnPath, last, earlier, IsNumberedTree, AreNumbered, AreApart, IsSetFrom}
use Rattle.mode_diagrams.specs.Costs.{HasDifferentEvents, HaveDifferentEvents}
use Rattle.coherent_cuts.specs.Exclusive.{HasExclusivePair}
use Rattle.coherent_cuts.specs.Gates.{IsWithPathOf, HasPaths}

-- what is read past the end
abbrev pub no_edge : NumberedEdge
no_edge = record { event = record { n = 0; of = record {} }; from = 0 }

-- ---- one tree
pub no_path : (edges : List NumberedEdge) (e m : ℕ) → m ≡ 0 → IsOnPath edges e m → ⊥
no_path edges e m z (last n st is) = let wrong : ⊥ = omega (arith, z, n) in wrong
no_path edges e m z (earlier n st p) = let wrong : ⊥ = omega (arith, z, n) in wrong

-- where an event on a path has its edge
pub record IsPlaceOn (edges : List NumberedEdge) (x n : ℕ) : Type 0 where
  pub at : ℕ
  pub edge : NumberedEdge
  pub stands : Stands edges at edge
  pub event : edge.event.n ≡ x
  pub below : at < n
  pub path : (y : ℕ) → IsOnPath edges y (suc at) → IsOnPath edges y n

module _ (tree : NumberedTree) (numbered : IsNumberedTree tree) where
  pub place_on : (x n : ℕ) → IsOnPath (edges_of tree) x n → IsPlaceOn (edges_of tree) x n
  place_on x n (last {m = m} {edge = edge} q st is) = record {
    at = m;
    edge = edge;
    stands = st;
    event = is;
    below = omega (arith, q);
    path = λ y p. subst (IsOnPath (edges_of tree) y) (sym q) p;
  }
  place_on x n (earlier {m = m} {edge = edge} q st p) =
      let r = place_on x edge.from p in
      let low = numbered.each m edge st in
      let b = r.below in record {
        at = r.at;
        edge = r.edge;
        stands = r.stands;
        event = r.event;
        below = omega (arith, q, low, b);
        path = λ y w. earlier q st (r.path y w);
      }

  decide_from : (fuel x n : ℕ) → n ≤ fuel
      → IsOnPath (edges_of tree) x n ⊎ (IsOnPath (edges_of tree) x n → ⊥)
  decide_from fuel x zero h = inr (no_path (edges_of tree) x 0 refl)
  decide_from zero x (suc n) h = absurd (omega (arith, h))
  decide_from (suc fuel) x (suc n) h = ⊎_elim
      (λ inside. at (λ m l. decide_from fuel x m l) (get_or (edges_of tree) n no_edge)
      (stands_get (edges_of tree) n no_edge inside))
      (λ out. inr (past out))
      (side_of n (length (edges_of tree)))
    where
      side_of : (a b : ℕ) → (a < b) ⊎ (b ≤ a)
      side_of a b = grind arith

      past : length (edges_of tree) ≤ n → IsOnPath (edges_of tree) x (suc n) → ⊥
      past out (last {m = m} {edge = edge} q st is) =
          let w = stands_within (edges_of tree) m edge st in omega (arith, w, q, out)
      past out (earlier {m = m} {edge = edge} q st p) =
          let w = stands_within (edges_of tree) m edge st in omega (arith, w, q, out)

      one_edge : (edge : NumberedEdge) → Stands (edges_of tree) n edge → (m : ℕ) (other : NumberedEdge)
          → suc n ≡ suc m → Stands (edges_of tree) m other → other ≡ edge
      one_edge edge st m other q so =
          let same : m ≡ n = omega (arith, q) in
          stands_one (edges_of tree) n other edge (subst (λ i. Stands (edges_of tree) i other) same so) st

      not_there : (edge : NumberedEdge) → Stands (edges_of tree) n edge → (edge.event.n ≡ x → ⊥)
          → (IsOnPath (edges_of tree) x edge.from → ⊥) → IsOnPath (edges_of tree) x (suc n) → ⊥
      not_there edge st differs away (last {m = m} {edge = other} q so is) =
          differs (ap (λ (y : NumberedEdge). y.event.n) (sym (one_edge edge st m other q so)) ∙ is)
      not_there edge st differs away (earlier {m = m} {edge = other} q so p) =
          away (subst (λ (y : NumberedEdge). IsOnPath (edges_of tree) x y.from) (one_edge edge st m other q so) p)

      at : ((m : ℕ) → m ≤ fuel → IsOnPath (edges_of tree) x m ⊎ (IsOnPath (edges_of tree) x m → ⊥))
          → (edge : NumberedEdge) → Stands (edges_of tree) n edge
          → IsOnPath (edges_of tree) x (suc n) ⊎ (IsOnPath (edges_of tree) x (suc n) → ⊥)
      at go edge st = ⊎_elim
          (λ e. inl (last refl st e))
          (λ differs. let low = numbered.each n edge st in
          ⊎_elim (λ p. inl (earlier refl st p)) (λ away. inr (not_there edge st differs away))
          (go edge.from (omega (arith, low, h))))
          (cases_eq edge.event.n x)

  pub on_path_or_not : (x n : ℕ) → IsOnPath (edges_of tree) x n ⊎ (IsOnPath (edges_of tree) x n → ⊥)
  on_path_or_not x n = decide_from n x n (omega arith)

  -- of two events on one path that of the earlier edge is on the path to that of the later
  module _ (different : HasDifferentEvents tree) (i j : ℕ) (a b : NumberedEdge) (ai : Stands (edges_of tree) i a)
      (bj : Stands (edges_of tree) j b) (less : i < j) where
    too_low : (m n : ℕ) → m ≡ i → n ≤ m → IsOnPath (edges_of tree) b.event.n n → ⊥
    too_low m n e low p =
        let r = place_on b.event.n n p in
        let same = different.one r.at j r.edge b r.stands bj r.event in
        let under = r.below in omega (arith, same, under, low, e, less)

    pub through : (n : ℕ) → IsOnPath (edges_of tree) b.event.n n → IsOnPath (edges_of tree) a.event.n n
        → IsOnPath (edges_of tree) a.event.n (suc j)
    through n (last {m = m} {edge = e} q st is) pa =
        let same : m ≡ j = different.one m j e b st bj is in
        let end : n ≡ suc j = omega (arith, q, same) in
        subst (IsOnPath (edges_of tree) a.event.n) end pa
    through n (earlier {m = m} {edge = e} q st pb) (last {m = k} {edge = f} r sf is) =
        let here = different.one k i f a sf ai is in
        let low = numbered.each m e st in
        absurd (too_low m e.from (omega (arith, here, q, r)) low pb)
    through n (earlier {m = m} {edge = e} q st pb) (earlier {m = k} {edge = f} r sf pa) =
        let same : k ≡ m = omega (arith, q, r) in
        let one = stands_one (edges_of tree) m f e (subst (λ z. Stands (edges_of tree) z f) same sf) st in
        through e.from pb (subst (λ (z : NumberedEdge). IsOnPath (edges_of tree) a.event.n z.from) one pa)

-- ---- all trees
module _ (ns : List NumberedTree) (numbered : AreNumbered ns) (apart : AreApart ns) (different : HaveDifferentEvents ns)
  where
    -- with an event of this edge the set has what is on the path to it
    pub with_path_at : (set : List ℕ) (e k m : ℕ) (tree : NumberedTree) (edge : NumberedEdge) → IsWithPathOf ns set e
        → Stands ns k tree → Stands (edges_of tree) m edge → edge.event.n ≡ e
        → (x : ℕ) → IsOnPath (edges_of tree) x (suc m) → IsOneOf set x
    with_path_at set e k m tree edge w st so is x p =
        let here = apart.one w.place k w.tree tree e w.stands st
        (record { edge = w.edge; one = record { place = w.at; stands = w.edge_stands }; is = w.event })
        (record { edge = edge; one = record { place = m; stands = so }; is = is }) in
        let same = stands_one ns k w.tree tree (subst (λ z. Stands ns z w.tree) here w.stands) st in
        let stands = subst (λ (t : NumberedTree). Stands (edges_of t) w.at w.edge) same w.edge_stands in
        let at = (different.each k tree st).one w.at m w.edge edge stands so (w.event ∙ sym is) in
        w.path x (subst (λ (t : NumberedTree). IsOnPath (edges_of t) x (suc w.at)) (sym same)
        (subst (λ z. IsOnPath (edges_of tree) x (suc z)) (sym at) p))

    -- a set of the events on paths has the paths to its events
    pub set_has_paths : (modes set : List ℕ) → IsSetFrom ns 0 modes set → HasPaths ns set
    set_has_paths modes set s = record {
      each = λ e one.
          let w = s.sound e one in
          let r = place_on w.1 (numbered.each w.0 w.1 w.3) e (mode_of modes w.0) w.4 in record {
            place = w.0;
            tree = w.1;
            stands = w.3;
            at = r.at;
            edge = r.edge;
            edge_stands = r.stands;
            event = r.event;
            path = λ x p. s.whole w.0 w.1 x w.2 w.3 (r.path x p);
          };
    }

    on_its_path : (modes set : List ℕ) → IsSetFrom ns 0 modes set → (k m : ℕ) (tree : NumberedTree) (edge : NumberedEdge)
        → Stands ns k tree → Stands (edges_of tree) m edge → holds edge.event.n set ≡ true
        → IsOnPath (edges_of tree) edge.event.n (mode_of modes k)
    on_its_path modes set s k m tree edge st so h =
        let e = edge.event.n in
        let w = s.sound e ((holds_law e set).0 h) in
        let r = place_on w.1 (numbered.each w.0 w.1 w.3) e (mode_of modes w.0) w.4 in
        let here = apart.one w.0 k w.1 tree e w.3 st
        (record { edge = r.edge; one = record { place = r.at; stands = r.stands }; is = r.event })
        (record { edge = edge; one = record { place = m; stands = so }; is = refl }) in
        let same = stands_one ns k w.1 tree (subst (λ z. Stands ns z w.1) here w.3) st in
        subst (λ z. IsOnPath (edges_of tree) e (mode_of modes z)) here
        (subst (λ (t : NumberedTree). IsOnPath (edges_of t) e (mode_of modes w.0)) same w.4)

    -- no two of its events are on no one path
    pub no_pair : (modes set : List ℕ) → IsSetFrom ns 0 modes set → HasExclusivePair ns set → ⊥
    no_pair modes set s h =
        let p = h.pair in
        p.not_on_path (through h.tree (numbered.each h.place h.tree h.stands) (different.each h.place h.tree h.stands)
        h.first h.second p.one p.other p.one_stands p.other_stands p.before (mode_of modes h.place)
        (on_its_path modes set s h.place h.second h.tree p.other h.stands p.other_stands p.has_other)
        (on_its_path modes set s h.place h.first h.tree p.one h.stands p.one_stands p.has_one))

-- ---- the deepest event of a set in a tree
pub record IsDeepest (set : List ℕ) (edges : List NumberedEdge) (n d : ℕ) : Type 0 where
  pub low : d ≤ n
  pub is : (d ≡ 0)
      ⊎ ((m : ℕ) × (edge : NumberedEdge) × (d ≡ suc m) × Stands edges m edge × (holds edge.event.n set ≡ true))
  pub top : (m : ℕ) (edge : NumberedEdge) → m < n → Stands edges m edge → holds edge.event.n set ≡ true → suc m ≤ d

deepest_in : (set : List ℕ) (edges : List NumberedEdge) (n : ℕ) → n ≤ length edges → (d : ℕ) × IsDeepest set edges n d
deepest_in set edges zero h =
    (0, record { low = omega arith; is = inl refl; top = λ m edge lt st k. absurd (omega (arith, lt)) })
deepest_in set edges (suc n) h =
    by (deepest_in set edges n (omega (arith, h))) (get_or edges n no_edge)
    (stands_get edges n no_edge (omega (arith, h))) (holds (get_or edges n no_edge).event.n set) refl
  where
    by : (d : ℕ) × IsDeepest set edges n d → (edge : NumberedEdge) → Stands edges n edge → (b : Bool)
        → holds edge.event.n set ≡ b → (d : ℕ) × IsDeepest set edges (suc n) d
    by r edge st true e = (
      suc n,
      record {
        low = omega arith;
        is = inr (n, edge, refl, st, e);
        top = λ m other lt so k. omega (arith, lt);
      },
    )
    by r edge st false e = let l = r.1.low in (
      r.0,
      record {
        low = omega (arith, l);
        is = r.1.is;
        top = λ m other lt so k. ⊎_elim
            (λ (q : m ≡ n).
            let same = stands_one edges n other edge (subst (λ z. Stands edges z other) q so) st in
            absurd (true≢false (sym k ∙ ap (λ (y : NumberedEdge). holds y.event.n set) same ∙ e)))
            (λ q. r.1.top m other (let x : m < n = grind (arith, lt, q) in x) so k)
            (cases_eq m n);
      },
    )

pub deepest_of : (set : List ℕ) (tree : NumberedTree)
    → (d : ℕ) × IsDeepest set (edges_of tree) (length (edges_of tree)) d
deepest_of set tree = deepest_in set (edges_of tree) (length (edges_of tree)) (omega arith)

deepest : List ℕ → NumberedTree → ℕ
deepest set tree = (deepest_of set tree).0

mode_past : (g : NumberedTree → ℕ) (trees : List NumberedTree) (k : ℕ) → length trees ≤ k → mode_of (map g trees) k ≡ 0
mode_past g [] k h = refl
mode_past g (t ∷ trees) zero h = absurd (omega (arith, h))
mode_past g (t ∷ trees) (suc k) h = mode_past g trees k (omega (arith, h))

module _ (ns : List NumberedTree) (numbered : AreNumbered ns) (apart : AreApart ns) (different : HaveDifferentEvents ns)
    (set : List ℕ) (paths : HasPaths ns set) (free : HasExclusivePair ns set → ⊥) where
  modes_are : List ℕ
  modes_are = map (λ t. (deepest_of set t).0) ns

  mode_is : (k : ℕ) (tree : NumberedTree) → Stands ns k tree
      → IsDeepest set (edges_of tree) (length (edges_of tree)) (mode_of (map (λ t. (deepest_of set t).0) ns) k)
  mode_is k tree st = subst (IsDeepest set (edges_of tree) (length (edges_of tree)))
      (stands_is (map (λ t. (deepest_of set t).0) ns) k (deepest_of set tree).0 0
      (stands_map (λ t. (deepest_of set t).0) ns k tree st))
      (deepest_of set tree).1

  reached : (k : ℕ) (tree : NumberedTree) (d at : ℕ) (edge : NumberedEdge) → Stands ns k tree
      → IsDeepest set (edges_of tree) (length (edges_of tree)) d → Stands (edges_of tree) at edge
      → holds edge.event.n set ≡ true → IsOnPath (edges_of tree) edge.event.n d
  reached k tree d at edge st deep so h = ⊎_elim
      (λ z. let t = deep.top at edge (stands_within (edges_of tree) at edge so) so h in absurd (omega (arith, t, z)))
      (λ w. subst (IsOnPath (edges_of tree) edge.event.n) (sym w.2) (up w.0 w.1 w.2 w.3 w.4))
      deep.is
    where
      up : (m : ℕ) (end : NumberedEdge) → d ≡ suc m → Stands (edges_of tree) m end → holds end.event.n set ≡ true
          → IsOnPath (edges_of tree) edge.event.n (suc m)
      up m end q se he = ⊎_elim
          (λ (e : at ≡ m). last refl (subst (λ z. Stands (edges_of tree) z edge) e so) refl)
          (λ differs. ⊎_elim (λ p. p) (λ away. absurd (free (record {
            place = k;
            tree = tree;
            stands = st;
            first = at;
            second = m;
            pair = record {
              before =
                  let t = deep.top at edge (stands_within (edges_of tree) at edge so) so h in
                  let x : at < m = grind (arith, t, q, differs) in x;
              one = edge;
              other = end;
              one_stands = so;
              other_stands = se;
              not_on_path = away;
              has_one = h;
              has_other = he;
            };
          })))
          (on_path_or_not tree (numbered.each k tree st) edge.event.n (suc m)))
          (cases_eq at m)

  back : (k : ℕ) (tree : NumberedTree) (d e : ℕ) → Stands ns k tree
      → IsDeepest set (edges_of tree) (length (edges_of tree)) d → IsOnPath (edges_of tree) e d → IsOneOf set e
  back k tree d e st deep p = ⊎_elim
      (λ z. absurd (no_path (edges_of tree) e d z p))
      (λ w. with_path_at ns numbered apart different set w.1.event.n k w.0 tree w.1
      (paths.each w.1.event.n ((holds_law w.1.event.n set).0 w.4)) st w.3 refl e
      (subst (IsOnPath (edges_of tree) e) w.2 p))
      deep.is

  -- the set has the events on the paths to the deepest of them in each tree
  pub set_of_paths : (modes : List ℕ) × IsSetFrom ns 0 modes set
  set_of_paths = (
    map (λ t. (deepest_of set t).0) ns,
    record {
      ends = λ k h. mode_past (λ t. (deepest_of set t).0) ns k h;
      within = λ k tree l st. (mode_is k tree st).low;
      sound = λ e one.
          let w = paths.each e one in (
            w.place,
            w.tree,
            omega arith,
            w.stands,
            subst (λ z. IsOnPath (edges_of w.tree) z (mode_of (map (λ t. (deepest_of set t).0) ns) w.place)) w.event
                (reached w.place w.tree (mode_of (map (λ t. (deepest_of set t).0) ns) w.place) w.at w.edge w.stands
                (mode_is w.place w.tree w.stands) w.edge_stands
                (subst (λ z. holds z set ≡ true) (sym w.event) ((holds_law e set).1 one))),
          );
      whole = λ k tree e l st p.
          back k tree (mode_of (map (λ t. (deepest_of set t).0) ns) k) e st (mode_is k tree st) p;
    },
  )
