-- One step of the family of a diagram, and its ends.
use Rattle.std.proofs.Common.{◌≡◌, ◌⊎◌, ⊎_elim, inl, inr, ℕ, zero, suc, ◌+◌, ◌-◌, ◌<◌, ◌≤◌, Bool, true, false, cond, ◌||◌, List, [], ◌∷◌, ◌++◌, length, refl, sym, ap, ◌∙◌, subst, arith, true≢false}
use Rattle.std.specs.Int.{from_bool}
use Rattle.ar_base.specs.Lists.{Stands, IsOneOf}
use Rattle.ar_base.specs.Sets.{Within}
use Rattle.ar_base.proofs.Comparing.{side, lt_or_same}
use Rattle.ar_base.proofs.Standing.{stands_one, stands_within, stands_some, stands_none, one_none, one_cases, one_first, one_rest, one_split, one_left, one_right}
use Rattle.zdd_nodes.specs.Families.{Family, has}
use Rattle.zdd_nodes.specs.FamiliesInside.{union}
use Rattle.zdd_nodes.proofs.Members.{has-union}
use Rattle.zdd_nodes.specs.Nodes as nodes
use Rattle.mode_nodes.specs.Diagrams.{mode_of, value, IsDiagramNumber, IsFrom, IsSoundDiagramStore}
use Rattle.mode_nodes.specs.Cuts.{IsLeftAt}
use Rattle.mode_nodes.proofs.Values.{value-false}
use Rattle.mode_nodes.specs.Bounds.{Bounded, cost}
use Rattle.mode_nodes.proofs.Asking.{asks}
use Rattle.mode_nodes.proofs.Totals.{one, total_none, total_same, left_enough, too_much}
use Rattle.diagram_steps.specs.declared.trees.NumberedEdge.{NumberedEdge}
use Rattle.diagram_steps.specs.declared.trees.NumberedTree.{NumberedTree}
use Rattle.diagram_steps.specs.Trees.{edges_of}
use Rattle.mode_diagrams.specs.Trees.{IsOnPath, last, earlier, IsNumberedTree, AreNumbered, IsSetFrom}
use Rattle.mode_diagrams.specs.Sets.{HasSets, HasPathEvents, IsWithPath, with_most, IsTrueFrom, IsTrueAtMode, IsTrueBelow}

-- ---- a list of modes with another mode of one tree
pub put_mode : List ℕ → ℕ → ℕ → List ℕ
put_mode [] zero m = m ∷ []
put_mode [] (suc i) m = 0 ∷ put_mode [] i m
put_mode (x ∷ xs) zero m = m ∷ xs
put_mode (x ∷ xs) (suc i) m = x ∷ put_mode xs i m

mode_put : (xs : List ℕ) (i m : ℕ) → mode_of (put_mode xs i m) i ≡ m
unfolding put_mode
mode_put [] zero m = refl
mode_put [] (suc i) m = mode_put [] i m
mode_put (x ∷ xs) zero m = refl
mode_put (x ∷ xs) (suc i) m = mode_put xs i m

mode_other : (xs : List ℕ) (i m k : ℕ) → (k ≡ i → ⊥) → mode_of (put_mode xs i m) k ≡ mode_of xs k
unfolding put_mode
mode_other [] zero m zero d = absurd (d refl)
mode_other [] zero m (suc k) d = refl
mode_other [] (suc i) m zero d = refl
mode_other [] (suc i) m (suc k) d = mode_other [] i m k (λ e. d (ap suc e))
mode_other (x ∷ xs) zero m zero d = absurd (d refl)
mode_other (x ∷ xs) zero m (suc k) d = refl
mode_other (x ∷ xs) (suc i) m zero d = refl
mode_other (x ∷ xs) (suc i) m (suc k) d = mode_other xs i m k (λ e. d (ap suc e))

-- ---- the events on the path to a mode, as a list
record PathList (edges : List NumberedEdge) (m : ℕ) : Type 0 where
  pub set : List ℕ
  pub sound : (e : ℕ) → IsOneOf set e → IsOnPath edges e m
  pub whole : (e : ℕ) → IsOnPath edges e m → IsOneOf set e

path_list : (tree : NumberedTree) → IsNumberedTree tree → (fuel m : ℕ) → m < fuel → m ≤ length (edges_of tree)
    → PathList (edges_of tree) m
path_list tree numbered zero m f h = absurd (omega (arith, f))
path_list tree numbered (suc fuel) zero f h = record {
  set = [];
  sound = λ e o. absurd (one_none e o);
  whole = λ e p. absurd (none e 0 refl p);
}
  where
    none : (e m : ℕ) → m ≡ 0 → IsOnPath (edges_of tree) e m → ⊥
    none e m z (last n st is) = let wrong : ⊥ = omega (arith, z, n) in wrong
    none e m z (earlier n st p) = let wrong : ⊥ = omega (arith, z, n) in wrong
path_list tree numbered (suc fuel) (suc k) f h =
    let found = stands_some (edges_of tree) k (omega (arith, h)) in
    let edge = found.0 in
    let low = numbered.each k edge found.1 in
    let up = path_list tree numbered fuel edge.from (omega (arith, f, low)) (omega (arith, h, low)) in
    made found.0 found.1 up
  where
    made : (edge : NumberedEdge) → Stands (edges_of tree) k edge → PathList (edges_of tree) edge.from
        → PathList (edges_of tree) (suc k)
    made edge st up = record {
      set = edge.event.n ∷ up.set;
      sound = λ e o. ⊎_elim
          (λ q. last refl st q)
          (λ r. earlier refl st (up.sound e r))
          (one_cases edge.event.n up.set e o);
      whole = λ e p. on e (suc k) refl p;
    }
      where
        on : (e m : ℕ) → m ≡ suc k → IsOnPath (edges_of tree) e m → IsOneOf (edge.event.n ∷ up.set) e
        on e m q (last {m = j} {edge = other} r so is) =
            let same : j ≡ k = omega (arith, q, r) in
            let is_edge = stands_one (edges_of tree) k other edge (subst (λ i. Stands (edges_of tree) i other) same so) st in
            subst (λ z. IsOneOf (edge.event.n ∷ up.set) z) (ap (λ (x : NumberedEdge). x.event.n) (sym is_edge) ∙ is)
            (one_first edge.event.n up.set)
        on e m q (earlier {m = j} {edge = other} r so p) =
            let same : j ≡ k = omega (arith, q, r) in
            let is_edge = stands_one (edges_of tree) k other edge (subst (λ i. Stands (edges_of tree) i other) same so) st in
            one_rest edge.event.n up.set e
            (up.whole e (subst (λ (x : NumberedEdge). IsOnPath (edges_of tree) e x.from) is_edge p))

-- ---- a set for each list of modes
record SetOf (ts : List NumberedTree) (i base : ℕ) (modes : List ℕ) : Type 0 where
  pub set : List ℕ
  pub sound : (e : ℕ) → IsOneOf set e
      → (k : ℕ) × (tree : NumberedTree) × (i ≤ base + k) × Stands ts k tree
      × IsOnPath (edges_of tree) e (mode_of modes (base + k))
  pub whole : (k : ℕ) (tree : NumberedTree) (e : ℕ) → i ≤ base + k → Stands ts k tree
      → IsOnPath (edges_of tree) e (mode_of modes (base + k)) → IsOneOf set e

set_of : (ts : List NumberedTree) (i base : ℕ) (modes : List ℕ) → AreNumbered ts
    → ((k : ℕ) (tree : NumberedTree) → i ≤ base + k → Stands ts k tree → mode_of modes (base + k) ≤ length (edges_of tree))
    → SetOf ts i base modes
set_of [] i base modes numbered within = record {
  set = [];
  sound = λ e o. absurd (one_none e o);
  whole = λ k tree e h st p. absurd (stands_none k tree st);
}
set_of (t ∷ ts) i base modes numbered within =
    let rest = set_of ts i (suc base) modes (record { each = λ k tree st. numbered.each (suc k) tree st })
    (λ k tree h st. subst (λ j. mode_of modes j ≤ length (edges_of tree)) (shift k)
    (within (suc k) tree (omega (arith, h)) st)) in
    ⊎_elim (λ here. with_tree here rest) (λ past. without_tree past rest) (side i base)
  where
    shift : (k : ℕ) → base + suc k ≡ suc base + k
    shift k = omega arith

    base_is : base + 0 ≡ base
    base_is = omega arith

    with_tree : i ≤ base → SetOf ts i (suc base) modes → SetOf (t ∷ ts) i base modes
    with_tree here rest =
        let low : mode_of modes base ≤ length (edges_of t) =
        subst (λ j. mode_of modes j ≤ length (edges_of t)) base_is (within 0 t (omega (arith, here)) refl) in
        let path = path_list t (numbered.each 0 t refl) (suc (mode_of modes base)) (mode_of modes base) (omega arith) low in
        record {
          set = path.set ++ rest.set;
          sound = λ e o. ⊎_elim
              (λ p. (
                0,
                t,
                omega (arith, here),
                refl,
                subst (λ j. IsOnPath (edges_of t) e (mode_of modes j)) (sym base_is) (path.sound e p),
              ))
              (λ r. let w = rest.sound e r in (
                suc w.0,
                w.1,
                omega (arith, w.2),
                w.3,
                subst (λ j. IsOnPath (edges_of w.1) e (mode_of modes j)) (sym (shift w.0)) w.4,
              ))
              (one_split path.set rest.set e o);
          whole = λ k tree e h st p. on path rest k tree e h st p;
        }
      where
        on : (path : PathList (edges_of t) (mode_of modes base)) (rest : SetOf ts i (suc base) modes)
            → (k : ℕ) (tree : NumberedTree) (e : ℕ) → i ≤ base + k → Stands (t ∷ ts) k tree
            → IsOnPath (edges_of tree) e (mode_of modes (base + k)) → IsOneOf (path.set ++ rest.set) e
        on path rest zero tree e h st p =
            let same : t ≡ tree = cc in
            one_left path.set rest.set e (path.whole e (subst (λ (x : NumberedTree).
            IsOnPath (edges_of x) e (mode_of modes base)) (sym same)
            (subst (λ j. IsOnPath (edges_of tree) e (mode_of modes j)) base_is p)))
        on path rest (suc k) tree e h st p =
            one_right path.set rest.set e (rest.whole k tree e (omega (arith, h)) st
            (subst (λ j. IsOnPath (edges_of tree) e (mode_of modes j)) (shift k) p))

    without_tree : base < i → SetOf ts i (suc base) modes → SetOf (t ∷ ts) i base modes
    without_tree past rest = record {
      set = rest.set;
      sound = λ e r. let w = rest.sound e r in (
        suc w.0,
        w.1,
        omega (arith, w.2),
        w.3,
        subst (λ j. IsOnPath (edges_of w.1) e (mode_of modes j)) (sym (shift w.0)) w.4,
      );
      whole = λ k tree e h st p. on rest k tree e h st p;
    }
      where
        on : (rest : SetOf ts i (suc base) modes) → (k : ℕ) (tree : NumberedTree) (e : ℕ) → i ≤ base + k
            → Stands (t ∷ ts) k tree → IsOnPath (edges_of tree) e (mode_of modes (base + k)) → IsOneOf rest.set e
        on rest zero tree e h st p = absurd (omega (arith, h, past))
        on rest (suc k) tree e h st p = rest.whole k tree e (omega (arith, h)) st
            (subst (λ j. IsOnPath (edges_of tree) e (mode_of modes j)) (shift k) p)

-- for modes of the trees from place i on there is a set
set_from : (trees : List NumberedTree) (i : ℕ) (modes : List ℕ) → AreNumbered trees
    → ((k : ℕ) → length trees ≤ k → mode_of modes k ≡ 0)
    → ((k : ℕ) (tree : NumberedTree) → i ≤ k → Stands trees k tree → mode_of modes k ≤ length (edges_of tree))
    → (set : List ℕ) × IsSetFrom trees i modes set
set_from trees i modes numbered ends within =
    let zero_plus : (k : ℕ) → 0 + k ≡ k = λ k. omega arith in
    let w = set_of trees i 0 modes numbered
    (λ k tree h st. subst (λ j. mode_of modes j ≤ length (edges_of tree)) (sym (zero_plus k))
    (within k tree (omega (arith, h)) st)) in (
      w.set,
      record {
        ends = ends;
        within = within;
        sound = λ e o. let x = w.sound e o in (
          x.0,
          x.1,
          omega (arith, x.2),
          x.3,
          subst (λ j. IsOnPath (edges_of x.1) e (mode_of modes j)) (zero_plus x.0) x.4,
        );
        whole = λ k tree e h st p. w.whole k tree e (omega (arith, h)) st
            (subst (λ j. IsOnPath (edges_of tree) e (mode_of modes j)) (sym (zero_plus k)) p);
      },
    )

-- ---- one step
module _ (trees : List NumberedTree) (numbered : AreNumbered trees) (i : ℕ) (tree : NumberedTree)
    (stands : Stands trees i tree) (s : Bounded) (sound : IsSoundDiagramStore s.store) (n m r : ℕ)
    (taken : IsLeftAt s.store i m n r) (from : IsFrom s.store.nodes (i + 1) r) (m_in : m ≤ length (edges_of tree))
    (paid : cost s.costs i m ≤ s.most) (f g : Family)
    (later : HasSets (IsTrueFrom trees (i + 1) (with_most s (s.most - cost s.costs i m)) r) f)
    (here : HasPathEvents (edges_of tree) m f g) where
  step_sound : (t : List ℕ) → has g t ≡ true → IsTrueAtMode trees i s n m t
  step_sound t h =
      let x = here.sound t h in
      let y = later.sound x.0 x.1 in
      let modes = put_mode y.modes i m in
      let at_i : mode_of modes i ≡ m = mode_put y.modes i m in
      let other : (k : ℕ) → (k ≡ i → ⊥) → mode_of modes k ≡ mode_of y.modes k = λ k d. mode_other y.modes i m k d in
      let i_in = stands_within trees i tree stands in
      let alike : (u : ℕ) → i + 1 ≤ u → mode_of modes u ≡ mode_of y.modes u = λ u l. other u (λ e. omega (arith, l, e)) in
      let kept = asks s.store (i + 1) modes y.modes sound alike r taken.number from in
      let here_is : cost s.costs i (mode_of modes i) ≡ cost s.costs i m = ap (cost s.costs i) at_i in
      let later_is = total_same s.costs (i + 1) modes y.modes alike in
      record {
        modes = modes;
        mode = at_i;
        are = record {
          ends = λ k l. other k (λ e. omega (arith, l, e, i_in)) ∙ y.are.ends k l;
          within = λ k other_tree l st. ⊎_elim
              (λ lt. subst (λ z. z ≤ length (edges_of other_tree)) (sym (other k (λ e. omega (arith, lt, e))))
              (y.are.within k other_tree (omega (arith, lt)) st))
              (λ same. subst (λ z. z ≤ length (edges_of other_tree)) (sym (ap (mode_of modes) (sym same) ∙ at_i))
              (subst (λ (z : NumberedTree). m ≤ length (edges_of z)) (stands_one trees i tree other_tree stands
              (subst (λ j. Stands trees j other_tree) (sym same) st)) m_in))
              (lt_or_same i k l);
          sound = λ e o. ⊎_elim
              (λ p. (i, tree, omega arith, stands, subst (IsOnPath (edges_of tree) e) (sym at_i) p))
              (λ q. let z = y.are.sound e q in (
                z.0,
                z.1,
                omega (arith, z.2),
                z.3,
                subst (IsOnPath (edges_of z.1) e) (sym (other z.0 (λ w. omega (arith, z.2, w)))) z.4,
              ))
              ((x.2.each e).0 o);
          whole = λ k other_tree e l st p. ⊎_elim
              (λ lt. (x.2.each e).1 (inr (y.are.whole k other_tree e (omega (arith, lt)) st
              (subst (IsOnPath (edges_of other_tree) e) (other k (λ w. omega (arith, lt, w))) p))))
              (λ same. (x.2.each e).1 (inl (subst (λ (z : NumberedTree). IsOnPath (edges_of z) e m)
              (stands_one trees i other_tree tree (subst (λ j. Stands trees j other_tree) (sym same) st) stands)
              (subst (IsOnPath (edges_of other_tree) e) (ap (mode_of modes) (sym same) ∙ at_i) p))))
              (lt_or_same i k l);
        };
        cheap = omega (arith, one s.costs i modes, here_is, later_is, y.cheap, paid);
        holds = taken.value modes at_i ∙ kept ∙ y.holds;
      }

  step_whole : (set : List ℕ) → IsTrueAtMode trees i s n m set
      → (t : List ℕ) × (has g t ≡ true) × Within set t × Within t set
  step_whole set x =
      let w = set_from trees (i + 1) x.modes numbered x.are.ends
      (λ k other l st. x.are.within k other (omega (arith, l)) st) in
      let rest = w.0 in
      let is_rest = w.1 in
      let y = later.whole rest (record {
        modes = x.modes;
        are = is_rest;
        cheap = left_enough s.costs s.most i i x.modes (omega arith) x.cheap m x.mode;
        holds = sym (taken.value x.modes x.mode) ∙ x.holds;
      }) in
      let z = here.whole y.0 y.1 in
      (z.0, z.1, record { each = λ e o. to e o w y.2 z.2 }, record { each = λ e o. back e o w y.3 z.2 })
    where
      to : (e : ℕ) → IsOneOf set e → (w : (rest : List ℕ) × IsSetFrom trees (i + 1) x.modes rest) → {u t : List ℕ}
          → Within w.0 u → IsWithPath (edges_of tree) m u t → IsOneOf t e
      to e o w a b =
          let p = x.are.sound e o in
          ⊎_elim
          (λ lt. (b.each e).1 (inr (a.each e (w.1.whole p.0 p.1 e (omega (arith, lt)) p.3 p.4))))
          (λ same. (b.each e).1 (inl (subst (IsOnPath (edges_of tree) e) (ap (mode_of x.modes) (sym same) ∙ x.mode)
          (subst (λ (q : NumberedTree). IsOnPath (edges_of q) e (mode_of x.modes p.0))
          (stands_one trees i p.1 tree (subst (λ j. Stands trees j p.1) (sym same) p.3) stands) p.4))))
          (lt_or_same i p.0 p.2)

      back : (e : ℕ) → {u t : List ℕ} → IsOneOf t e → (w : (rest : List ℕ) × IsSetFrom trees (i + 1) x.modes rest)
          → Within u w.0 → IsWithPath (edges_of tree) m u t → IsOneOf set e
      back e o w a b = ⊎_elim
          (λ p. x.are.whole i tree e (omega arith) stands (subst (IsOnPath (edges_of tree) e) (sym x.mode) p))
          (λ q. let p = w.1.sound e (a.each e q) in x.are.whole p.0 p.1 e (omega (arith, p.2)) p.3 p.4)
          ((b.each e).0 o)

  pub step : HasSets (IsTrueAtMode trees i s n m) g
  step = record { sound = step_sound; whole = step_whole }

-- ---- mode after mode
pub below_none : (trees : List NumberedTree) (i : ℕ) (s : Bounded) (n : ℕ) (f : Family) → f ≡ []
    → HasSets (IsTrueBelow trees i s n 0) f
below_none trees i s n f z = record {
  sound = λ t h. absurd (true≢false (sym h ∙ ap (λ g. has g t) z));
  whole = λ t x. absurd (omega (arith, x.1));
}

-- a mode that costs more than there is
pub below_dear : (trees : List NumberedTree) (i : ℕ) (s : Bounded) (n m : ℕ) (f : Family) → s.most < cost s.costs i m
    → HasSets (IsTrueBelow trees i s n m) f → HasSets (IsTrueBelow trees i s n (m + 1)) f
below_dear trees i s n m f dear a = record {
  sound = λ t o. let x = a.sound t o in (x.0, omega (arith, x.1), x.2);
  whole = λ t x. ⊎_elim
      (λ lt. a.whole t (x.0, lt, x.2))
      (λ same. absurd (too_much s.costs s.most i i x.2.modes (omega arith) x.2.cheap m dear (x.2.mode ∙ same)))
      (lt_or_same x.0 m (omega (arith, x.1)));
}

pub below_more : (trees : List NumberedTree) (i : ℕ) (s : Bounded) (n mode : ℕ) (f g h : Family)
    → HasSets (IsTrueBelow trees i s n mode) f → HasSets (IsTrueAtMode trees i s n mode) g → h ≡ union f g
    → HasSets (IsTrueBelow trees i s n (mode + 1)) h
below_more trees i s n mode f g h a b is = record {
  sound = λ t p. from t (cases (has f t) (has g t) (sym (has-union f g t) ∙ ap (λ z. has z t) (sym is) ∙ p));
  whole = λ t x. ⊎_elim
      (λ lt. let w = a.whole t (x.0, lt, x.2) in
      (w.0, ap (λ z. has z w.0) is ∙ has-union f g w.0 ∙ left (has f w.0) (has g w.0) w.1, w.2, w.3))
      (λ same. let w = b.whole t (subst (λ k. IsTrueAtMode trees i s n k t) same x.2) in
      (w.0, ap (λ z. has z w.0) is ∙ has-union f g w.0 ∙ right (has f w.0) (has g w.0) w.1, w.2, w.3))
      (lt_or_same x.0 mode (omega (arith, x.1)));
}
  where
    cases : (p q : Bool) → (p || q) ≡ true → (p ≡ true) ⊎ (q ≡ true)
    cases true q e = inl refl
    cases false q e = inr e

    left : (p q : Bool) → p ≡ true → (p || q) ≡ true
    left p q e = ap (λ z. z || q) e

    right : (p q : Bool) → q ≡ true → (p || q) ≡ true
    right true q e = refl
    right false q e = e

    from : (t : List ℕ) → (has f t ≡ true) ⊎ (has g t ≡ true) → IsTrueBelow trees i s n (mode + 1) t
    from t c = ⊎_elim
        (λ p. let x = a.sound t p in (x.0, omega (arith, x.1), x.2))
        (λ q. (mode, omega arith, b.sound t q))
        c

pub below_all : (trees : List NumberedTree) (i : ℕ) (tree : NumberedTree) (s : Bounded) (n mode : ℕ) (f : Family)
    → Stands trees i tree → mode ≡ length (edges_of tree) + 1 → HasSets (IsTrueBelow trees i s n mode) f
    → HasSets (IsTrueFrom trees i s n) f
below_all trees i tree s n mode f st e a = record {
  sound = λ t h. let x = a.sound t h in record { modes = x.2.modes; are = x.2.are; cheap = x.2.cheap; holds = x.2.holds };
  whole = λ t x. a.whole t (
    mode_of x.modes i,
    omega (arith, e, x.are.within i tree (omega arith) st),
    record { modes = x.modes; mode = refl; are = x.are; cheap = x.cheap; holds = x.holds },
  );
}

-- ---- where no tree is left, and where the diagram is false
pub no_tree : (trees : List NumberedTree) (i : ℕ) (s : Bounded) (sound : IsSoundDiagramStore s.store) (n : ℕ) (f : Family)
    → i ≡ length trees → length s.costs ≤ length trees → IsDiagramNumber s.store n → IsFrom s.store.nodes i n → (holds : Bool)
    → holds ≡ value s.store [] n → f ≡ cond holds ([] ∷ []) [] → HasSets (IsTrueFrom trees i s n) f
no_tree trees i s sound n f e short number from true h is = record {
  sound = λ t p.
      let nil : t ≡ [] = empty t (ap (λ z. has z t) (sym is) ∙ p) in
      subst (IsTrueFrom trees i s n) (sym nil) (record {
        modes = [];
        are = record {
          ends = λ k l. refl;
          within = λ k tree l st. absurd (omega (arith, l, e, stands_within trees k tree st));
          sound = λ x o. absurd (one_none x o);
          whole = λ k tree x l st q. absurd (omega (arith, l, e, stands_within trees k tree st));
        };
        cheap = (let nothing = total_none s.costs i [] (omega (arith, short, e)) in omega (arith, nothing));
        holds = sym h;
      });
  whole = λ t x. (
    [],
    ap (λ z. has z []) is,
    record { each = λ y o. let w = x.are.sound y o in absurd (omega (arith, w.2, e, stands_within trees w.0 w.1 w.3)) },
    record { each = λ y o. absurd (one_none y o) },
  );
}
  where
    empty : (t : List ℕ) → has ([] ∷ []) t ≡ true → t ≡ []
    empty [] h = refl
    empty (x ∷ t) h = absurd (true≢false (sym h))
no_tree trees i s sound n f e short number from false h is = record {
  sound = λ t p. absurd (true≢false (sym p ∙ ap (λ z. has z t) is));
  whole = λ t x.
      let same = asks s.store i x.modes [] sound (λ u l. x.are.ends u (omega (arith, l, e))) n number from in
      absurd (true≢false (sym x.holds ∙ same ∙ sym h));
}

pub never : (trees : List NumberedTree) (i : ℕ) (s : Bounded) (n : ℕ) (f : Family) → n ≡ 0 → f ≡ []
    → HasSets (IsTrueFrom trees i s n) f
never trees i s n f z is = record {
  sound = λ t p. absurd (true≢false (sym p ∙ ap (λ g. has g t) is));
  whole = λ t x. absurd (true≢false (sym x.holds ∙ ap (value s.store x.modes) z ∙ value-false s.store.nodes x.modes));
}

-- a truth as a number
pub from_truth : (holds : Bool) (n : ℕ) → n ≡ from_bool holds → n ≡ cond holds 1 0
from_truth true n e = e
from_truth false n e = e

-- the families of the first two numbers
pub unit_family : (s : nodes.Stored) (holds : Bool) (n : ℕ) → n ≡ cond holds 1 0
    → nodes.family s n ≡ cond holds ([] ∷ []) []
unit_family s true n e = ap (nodes.family s) e
unit_family s false n e = ap (nodes.family s) e
