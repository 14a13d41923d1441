-- What modes cost is how many events their paths have, so that it is enough exactly at the small sets.
use Rattle.std.proofs.Common.{◌≡◌, ⊎_elim, ℕ, zero, suc, ◌+◌, ◌-◌, ◌≤◌, List, [], ◌∷◌, ◌++◌, get_or, length, length-append, Some, None, sym, ap, ◌∙◌, subst, arith}
use Rattle.std.proofs.lemmas.Option.{get_or_from_slice_get}
use Rattle.ar_base.specs.Lists.{Stands, IsOneOf}
use Rattle.ar_base.proofs.Comparing.{lt_or_same}
use Rattle.ar_base.proofs.Few.{AllDiffer, nothing, new, all_differ}
use Rattle.ar_base.proofs.Standing.{stands_one, stands_within, stands_some, one_none, one_first, one_rest, one_split, one_left, one_right}
use Rattle.ar_firing.specs.Cuts.{HasAtMost}
use Rattle.firable_families.proofs.Few.{no_more}
use Rattle.mode_nodes.specs.Diagrams.{mode_of}
use Rattle.mode_nodes.specs.Bounds.{Costs, Bounded, cost, total_cost}
use Rattle.mode_nodes.proofs.Totals.{one, total_none, nothing_costs}
use Rattle.diagram_steps.specs.declared.trees.NumberedTree.{NumberedTree}
use Rattle.diagram_steps.specs.Trees.{edges_of}
use Rattle.mode_diagrams.specs.Trees.{IsOnPath, AreApart, IsSetFrom}
use Rattle.mode_diagrams.specs.Costs.{IsPathList, AreCostsOf, IsEnoughFor}
use Rattle.mode_diagrams.proofs.Laws.{path_event}

differ_append : (xs ys : List ℕ) → AllDiffer xs → AllDiffer ys → ((x : ℕ) → IsOneOf xs x → IsOneOf ys x → ⊥)
    → AllDiffer (xs ++ ys)
differ_append [] ys d e n = e
differ_append (x ∷ xs) ys (new f d) e n =
    new (λ i. ⊎_elim f (λ j. n x (one_first x xs) j) (one_split xs ys x i))
    (differ_append xs ys d e (λ y a b. n y (one_rest x xs y a) b))

-- the events on the paths to the modes, each once
record Spread (trees : List NumberedTree) (i : ℕ) (modes : List ℕ) (size : ℕ) : Type 0 where
  pub list : List ℕ
  pub differ : AllDiffer list
  pub long : length list ≡ size
  pub sound : (e : ℕ) → IsOneOf list e
      → (k : ℕ) × (tree : NumberedTree) × (i ≤ k) × Stands trees k tree × IsOnPath (edges_of tree) e (mode_of modes k)
  pub whole : (k : ℕ) (tree : NumberedTree) (e : ℕ) → i ≤ k → Stands trees k tree
      → IsOnPath (edges_of tree) e (mode_of modes k) → IsOneOf list e

module _ (costs : Costs) (trees : List NumberedTree) (modes : List ℕ) (are : AreCostsOf trees (length trees) costs)
    (apart : AreApart trees) where
  -- what the mode of a tree costs is how many events are on its path
  path_at : (i : ℕ) (tree : NumberedTree) (m : ℕ) → Stands trees i tree → m ≤ length (edges_of tree)
      → (path : List ℕ) × IsPathList (edges_of tree) m path × (length path ≡ cost costs i m)
  unfolding cost
  path_at i tree m st low =
      let found = stands_some costs i (let inside = stands_within trees i tree st in omega (arith, are.long, inside)) in
      let path = (are.each i tree found.0 st found.1).each m low in
      (path.0, path.1, path.2 ∙ ap (λ (cs : List ℕ). get_or cs m 0) (sym (get_or_from_slice_get costs i found.0 [] found.1)))

  more : (i : ℕ) (tree : NumberedTree) → Stands trees i tree → (path : List ℕ)
      → IsPathList (edges_of tree) (mode_of modes i) path → length path ≡ cost costs i (mode_of modes i)
      → Spread trees (i + 1) modes (total_cost costs (i + 1) modes) → Spread trees i modes (total_cost costs i modes)
  more i tree st path is long rest = record {
    list = path ++ rest.list;
    differ = differ_append path rest.list (all_differ path is.different) rest.differ
        (λ e a b.
        let w = rest.sound e b in
        let same = apart.one i w.0 tree w.1 e st w.3 (path_event tree e (mode_of modes i) (is.sound e a))
        (path_event w.1 e (mode_of modes w.0) w.4) in
        omega (arith, same, w.2));
    long = omega (arith, length-append path rest.list, rest.long, long, one costs i modes);
    sound = λ e o. ⊎_elim
        (λ p. (i, tree, omega arith, st, is.sound e p))
        (λ r. let w = rest.sound e r in (w.0, w.1, omega (arith, w.2), w.3, w.4))
        (one_split path rest.list e o);
    whole = λ k other e l so p. ⊎_elim
        (λ lt. one_right path rest.list e (rest.whole k other e (omega (arith, lt)) so p))
        (λ same. one_left path rest.list e (is.whole e (subst (λ (z : NumberedTree).
        IsOnPath (edges_of z) e (mode_of modes i))
        (stands_one trees i other tree (subst (λ j. Stands trees j other) (sym same) so) st)
        (subst (λ j. IsOnPath (edges_of other) e (mode_of modes j)) (sym same) p))))
        (lt_or_same i k l);
  }

  spread : (d i : ℕ) → i + d ≡ length trees
      → ((k : ℕ) (tree : NumberedTree) → i ≤ k → Stands trees k tree → mode_of modes k ≤ length (edges_of tree))
      → Spread trees i modes (total_cost costs i modes)
  spread zero i e within = record {
    list = [];
    differ = nothing;
    long = sym (total_none costs i modes (omega (arith, e, are.long)));
    sound = λ x o. absurd (one_none x o);
    whole = λ k tree x l st p. let small = stands_within trees k tree st in absurd (omega (arith, l, e, small));
  }
  spread (suc d) i e within =
      let found = stands_some trees i (omega (arith, e)) in
      let path = path_at i found.0 (mode_of modes i) found.1 (within i found.0 (omega arith) found.1) in
      more i found.0 found.1 path.0 path.1 path.2
      (spread d (i + 1) (omega (arith, e)) (λ k tree l st. within k tree (omega (arith, l)) st))

  module _ (i k : ℕ) (set : List ℕ) (inside : i ≤ length trees) (is : IsSetFrom trees i modes set) where
    all : Spread trees i modes (total_cost costs i modes)
    all = spread (length trees - i) i (omega (arith, inside)) is.within

    pub few_of_cheap : total_cost costs i modes ≤ k → HasAtMost k set
    few_of_cheap h = record {
      list = all.list;
      within = record { each = λ e o. let w = is.sound e o in all.whole w.0 w.1 e w.2 w.3 w.4 };
      few = omega (arith, all.long, h);
    }

    pub cheap_of_few : HasAtMost k set → total_cost costs i modes ≤ k
    cheap_of_few h =
        let l = no_more all.list h.list all.differ
        (λ e o. let w = all.sound e o in h.within.each e (is.whole w.0 w.1 e w.2 w.3 w.4)) in
        omega (arith, l, all.long, h.few)

-- where nothing costs anything, all is enough for all sets
pub enough_for_all : (trees : List NumberedTree) (s : Bounded) → s.costs ≡ [] → IsEnoughFor None trees s
enough_for_all trees s e = record {
  short = (let none = ap length e in omega (arith, none));
  few = λ modes set is h. tt;
  all = λ modes set is u. nothing_costs s.costs 0 s.most modes e;
}

pub enough_for_few : (trees : List NumberedTree) (s : Bounded) (k : ℕ) → AreCostsOf trees (length trees) s.costs
    → AreApart trees → s.most ≡ k → IsEnoughFor (Some k) trees s
enough_for_few trees s k are apart e = record {
  short = (let long = are.long in omega (arith, long));
  few = λ modes set is h. few_of_cheap s.costs trees modes are apart 0 k set (omega arith) is
      (subst (λ m. total_cost s.costs 0 modes ≤ m) e h);
  all = λ modes set is u. subst (λ m. total_cost s.costs 0 modes ≤ m) (sym e)
      (cheap_of_few s.costs trees modes are apart 0 k set (omega arith) is u);
}
