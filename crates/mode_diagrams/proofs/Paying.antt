-- What the modes of a tree cost, edge by edge.
use Rattle.std.proofs.Common.{◌≡◌, ⊎_elim, ℕ, zero, suc, ◌+◌, ◌<◌, ◌≤◌, List, [], ◌∷◌, ◌++◌, length, length-append, get_or, refl, sym, ap, ◌∙◌, subst, arith}
use Rattle.std.proofs.Math.ListN.{get_or-append}
use Rattle.std.proofs.Math.Seq.{get_or-append_seam}
use Rattle.ar_base.specs.Lists.{Stands, IsOneOf, AreDifferent}
use Rattle.ar_base.proofs.Comparing.{lt_or_same}
use Rattle.ar_base.proofs.Standing.{stands_one, stands_none, stands_split, one_here, one_none, one_cases, one_first, one_rest}
use Rattle.diagram_steps.specs.declared.trees.NumberedEdge.{NumberedEdge}
use Rattle.diagram_steps.specs.declared.trees.NumberedTree.{NumberedTree}
use Rattle.diagram_steps.specs.Trees.{edges_of}
use Rattle.mode_diagrams.specs.Trees.{IsOnPath, last, earlier, IsNumberedTree}
use Rattle.mode_diagrams.specs.Costs.{IsPathList, AreModeCosts, AreCostsOf, HasDifferentEvents}
use Rattle.mode_nodes.specs.Bounds.{Costs}

different_more : (x : ℕ) (xs : List ℕ) → (IsOneOf xs x → ⊥) → AreDifferent xs → AreDifferent (x ∷ xs)
different_more x xs f d = record { one = λ m n a s t. at m n a s t }
  where
    at : (m n a : ℕ) → Stands (x ∷ xs) m a → Stands (x ∷ xs) n a → m ≡ n
    at zero zero a s t = refl
    at zero (suc n) a s t = let e : a ≡ x = cc in absurd (f (subst (IsOneOf xs) e (one_here xs n a t)))
    at (suc m) zero a s t = let e : a ≡ x = cc in absurd (f (subst (IsOneOf xs) e (one_here xs m a s)))
    at (suc m) (suc n) a s t = ap suc (d.one m n a s t)

pub costs_none : (edges : List NumberedEdge) → AreModeCosts edges 0 (0 ∷ [])
costs_none edges = record {
  long = refl;
  each = λ m h. at m h;
  small = λ m h. low m h;
}
  where
    off : (e m : ℕ) → m ≡ 0 → IsOnPath edges e m → ⊥
    off e m z (last n st is) = let wrong : ⊥ = omega (arith, z, n) in wrong
    off e m z (earlier n st p) = let wrong : ⊥ = omega (arith, z, n) in wrong

    at : (m : ℕ) → m ≤ 0 → (path : List ℕ) × IsPathList edges m path × (length path ≡ get_or (0 ∷ []) m 0)
    at zero h = (
      [],
      record {
        different = record { one = λ m n a s t. absurd (stands_none m a s) };
        sound = λ e o. absurd (one_none e o);
        whole = λ e p. absurd (off e 0 refl p);
      },
      refl,
    )
    at (suc m) h = absurd (omega (arith, h))

    low : (m : ℕ) → m ≤ 0 → get_or (0 ∷ []) m 0 ≤ m
    low zero h = omega arith
    low (suc m) h = absurd (omega (arith, h))

module _ (tree : NumberedTree) (numbered : IsNumberedTree tree) (different : HasDifferentEvents tree) where
  -- what is on the path to a mode is the event of an edge before it
  before : (e m : ℕ) → IsOnPath (edges_of tree) e m
      → (j : ℕ) × (x : NumberedEdge) × (j < m) × Stands (edges_of tree) j x × (x.event.n ≡ e)
  before e m (last {m = k} {edge = edge} n st is) = (k, edge, omega (arith, n), st, is)
  before e m (earlier {m = k} {edge = edge} n st p) =
      let r = before e edge.from p in
      let low = numbered.each k edge st in
      (r.0, r.1, omega (arith, n, r.2, low), r.3, r.4)

  module _ (k : ℕ) (edge : NumberedEdge) (st : Stands (edges_of tree) k edge) (path : List ℕ)
      (is : IsPathList (edges_of tree) edge.from path) where
    fresh : IsOneOf path edge.event.n → ⊥
    fresh o =
        let r = before edge.event.n edge.from (is.sound edge.event.n o) in
        let same = different.one r.0 k r.1 edge r.3 st r.4 in
        let low = numbered.each k edge st in
        omega (arith, same, r.2, low)

    back : (e m : ℕ) → m ≡ suc k → IsOnPath (edges_of tree) e m → IsOneOf (edge.event.n ∷ path) e
    back e m z (last {m = j} {edge = x} n other at) =
        let place : j ≡ k = omega (arith, z, n) in
        let one = stands_one (edges_of tree) k x edge (subst (λ i. Stands (edges_of tree) i x) place other) st in
        subst (IsOneOf (edge.event.n ∷ path)) (ap (λ (y : NumberedEdge). y.event.n) (sym one) ∙ at)
        (one_first edge.event.n path)
    back e m z (earlier {m = j} {edge = x} n other p) =
        let place : j ≡ k = omega (arith, z, n) in
        let one = stands_one (edges_of tree) k x edge (subst (λ i. Stands (edges_of tree) i x) place other) st in
        one_rest edge.event.n path e (is.whole e (subst (λ (y : NumberedEdge). IsOnPath (edges_of tree) e y.from) one p))

    longer : IsPathList (edges_of tree) (suc k) (edge.event.n ∷ path)
    longer = record {
      different = different_more edge.event.n path fresh is.different;
      sound = λ e o. ⊎_elim (λ q. last refl st q) (λ r. earlier refl st (is.sound e r))
          (one_cases edge.event.n path e o);
      whole = λ e p. back e (suc k) refl p;
    }

  pub costs_more : (k : ℕ) (costs : List ℕ) (edge : NumberedEdge) (c : ℕ) → Stands (edges_of tree) k edge
      → AreModeCosts (edges_of tree) k costs → c ≡ get_or costs edge.from 0 + 1
      → AreModeCosts (edges_of tree) (k + 1) (costs ++ c ∷ [])
  costs_more k costs edge c st a is =
      let low = numbered.each k edge st in
      let up : k + 1 ≡ suc k = omega arith in
      let end : k + 1 ≡ length costs = omega (arith, a.long) in
      let there : get_or (costs ++ c ∷ []) (k + 1) 0 ≡ c =
      ap (λ i. get_or (costs ++ c ∷ []) i 0) end ∙ get_or-append_seam costs c [] 0 in
      record {
        long = omega (arith, a.long, length-append costs (c ∷ []));
        each = λ m h. ⊎_elim
            (λ lt.
            let p = a.each m (omega (arith, lt)) in
            (p.0, p.1, p.2 ∙ sym (get_or-append costs (c ∷ []) 0 m (omega (arith, lt, a.long)))))
            (λ same.
            let p = a.each edge.from low in
            let m_is : suc k ≡ m = omega (arith, same) in (
              edge.event.n ∷ p.0,
              subst (λ i. IsPathList (edges_of tree) i (edge.event.n ∷ p.0)) m_is (longer k edge st p.0 p.1),
              (let one_more : suc (length p.0) ≡ c = omega (arith, p.2, is) in one_more)
                  ∙ sym (ap (λ i. get_or (costs ++ c ∷ []) i 0) same ∙ there),
            ))
            (lt_or_same m (k + 1) h);
        small = λ m h. ⊎_elim
            (λ lt.
            let p = a.small m (omega (arith, lt)) in
            let same = get_or-append costs (c ∷ []) 0 m (omega (arith, lt, a.long)) in
            omega (arith, p, same))
            (λ same.
            let p = a.small edge.from low in
            let v : get_or (costs ++ c ∷ []) m 0 ≡ c = ap (λ i. get_or (costs ++ c ∷ []) i 0) same ∙ there in
            omega (arith, p, v, is, low, same))
            (lt_or_same m (k + 1) h);
      }

-- ---- tree by tree
pub costs_of_none : (trees : List NumberedTree) → AreCostsOf trees 0 []
costs_of_none trees = record { long = refl; each = λ k tree modes st sc. absurd (stands_none k modes sc) }

pub costs_of_more : (trees : List NumberedTree) (k : ℕ) (tree : NumberedTree) (costs : Costs) (modes : List ℕ)
    → Stands trees k tree → AreCostsOf trees k costs → AreModeCosts (edges_of tree) (length (edges_of tree)) modes
    → AreCostsOf trees (k + 1) (costs ++ modes ∷ [])
costs_of_more trees k tree costs modes st a is = record {
  long = omega (arith, a.long, length-append costs (modes ∷ []));
  each = λ j other ms so sc. ⊎_elim
      (λ p. a.each j other ms so p)
      (λ r. last j other ms so r.0 r.1 r.2)
      (stands_split costs (modes ∷ []) j ms sc);
}
  where
    last : (j : ℕ) (other : NumberedTree) (ms : List ℕ) → Stands trees j other → (i : ℕ) → j ≡ length costs + i
        → Stands (modes ∷ []) i ms → AreModeCosts (edges_of other) (length (edges_of other)) ms
    last j other ms so zero e sm =
        let same : modes ≡ ms = cc in
        let here : j ≡ k = omega (arith, e, a.long) in
        let tree_is = stands_one trees k tree other st (subst (λ n. Stands trees n other) here so) in
        subst (λ (t : NumberedTree). AreModeCosts (edges_of t) (length (edges_of t)) ms) tree_is
        (subst (AreModeCosts (edges_of tree) (length (edges_of tree))) same is)
    last j other ms so (suc i) e sm = absurd (stands_none i ms sm)
