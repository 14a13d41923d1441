-- A tree's edges by number, one after the other.
use Rattle.std.proofs.Common.{◌≡◌, ⊎_elim, ℕ, zero, suc, ◌+◌, ◌≤◌, ◌==◌, true, List, [], ◌∷◌, ◌++◌, length, length-append, refl, sym, ap, ◌∙◌, subst, arith}
use Rattle.ar_base.specs.Lists.{Stands, IsOneOf}
use Rattle.ar_base.proofs.Standing.{one_none, one_cases, stands_one, stands_none, stands_split}
use Rattle.ar_firing.specs.Forest.{Row, ModeTree}
use Rattle.diagram_steps.specs.declared.trees.NumberedEdge.{NumberedEdge}
use Rattle.diagram_steps.specs.declared.trees.NumberedTree.{NumberedTree}
use Rattle.diagram_steps.specs.Trees.{edges_of}
use Rattle.std.specs.List.{All}
use Rattle.std.proofs.lemmas.List.Elements.{All-head, All-push, All-tail}
use Rattle.mode_diagrams.specs.Numbers.{AreNumberedTrees, none, passed, one_and, HasFewEdges, IsWideTree, IsModeNumber, IsNumberOf}

-- the first trees with their modes by number
pub record AreMade (trees : List ModeTree) (ns : List NumberedTree) : Type 0 where
  pub numbers : AreNumberedTrees trees ns
  pub few : All HasFewEdges ns

pub passed_push : (trees : List ModeTree) (ns : List NumberedTree) (tree : ModeTree) → tree.edges ≡ []
    → AreNumberedTrees trees ns → AreNumberedTrees (trees ++ tree ∷ []) ns
passed_push _ _ tree e none = passed e none
passed_push _ _ tree e (passed {trees = trees} {ns = ns} x are) = passed x (passed_push trees ns tree e are)
passed_push _ _ tree e (one_and {trees = trees} {ns = ns} is are) = one_and is (passed_push trees ns tree e are)

pub one_push : (trees : List ModeTree) (ns : List NumberedTree) (tree : ModeTree) (n : NumberedTree) → IsNumberOf tree n
    → AreNumberedTrees trees ns → AreNumberedTrees (trees ++ tree ∷ []) (ns ++ n ∷ [])
one_push _ _ tree n i none = one_and i none
one_push _ _ tree n i (passed {trees = trees} {ns = ns} x are) = passed x (one_push trees ns tree n i are)
one_push _ _ tree n i (one_and {trees = trees} {ns = ns} is are) = one_and is (one_push trees ns tree n i are)

pub zero_from : (n : ℕ) → (n == 0) ≡ true → n ≡ 0
zero_from n h = grind arith

-- one more tree: its first trees are these, one of them more
pub made_passed : (trees : List ModeTree) (ns : List NumberedTree) (tree : ModeTree) → tree.edges ≡ [] → AreMade trees ns
    → AreMade (trees ++ tree ∷ []) ns
made_passed trees ns tree e m = record { numbers = passed_push trees ns tree e m.numbers; few = m.few }

pub made_more : (trees : List ModeTree) (ns : List NumberedTree) (tree : ModeTree) (n : NumberedTree)
    → IsNumberOf tree n → HasFewEdges n → AreMade trees ns → AreMade (trees ++ tree ∷ []) (ns ++ n ∷ [])
made_more trees ns tree n i few m = record {
  numbers = one_push trees ns tree n i m.numbers;
  few = All-push HasFewEdges ns n m.few few;
}

-- so far: the first k edges
pub record IsSoFar (tree : ModeTree) (k : ℕ) (es : List NumberedEdge) : Type 0 where
  pub long : length es ≡ k
  pub event : (j : ℕ) (r : Row) (e : NumberedEdge) → Stands tree.edges j r → Stands es j e → e.event.n ≡ r.label.event
  pub from : (j : ℕ) (r : Row) (e : NumberedEdge) → Stands tree.edges j r → Stands es j e → IsModeNumber tree j r.from e.from

pub so_far_none : (tree : ModeTree) → IsSoFar tree 0 []
so_far_none tree = record {
  long = refl;
  event = λ j r e st so. absurd (stands_none j e so);
  from = λ j r e st so. absurd (stands_none j e so);
}

pub so_far_more : (tree : ModeTree) (k : ℕ) (es : List NumberedEdge) (r : Row) (x : NumberedEdge) → Stands tree.edges k r
    → IsSoFar tree k es → x.event.n ≡ r.label.event → IsModeNumber tree k r.from x.from
    → IsSoFar tree (k + 1) (es ++ x ∷ [])
so_far_more tree k es r x at f event from = record {
  long = omega (arith, f.long, length-append es (x ∷ []));
  event = λ j q e st so. ⊎_elim
      (λ p. f.event j q e st p)
      (λ n. new_event j q e st n.0 n.1 n.2)
      (stands_split es (x ∷ []) j e so);
  from = λ j q e st so. ⊎_elim
      (λ p. f.from j q e st p)
      (λ n. new_from j q e st n.0 n.1 n.2)
      (stands_split es (x ∷ []) j e so);
}
  where
    new_event : (j : ℕ) (q : Row) (e : NumberedEdge) → Stands tree.edges j q → (i : ℕ) → j ≡ length es + i
        → Stands (x ∷ []) i e → e.event.n ≡ q.label.event
    new_event j q e st zero n so =
        let same : x ≡ e = cc in
        let here : j ≡ k = omega (arith, n, f.long) in
        let row = stands_one tree.edges k r q at (subst (λ m. Stands tree.edges m q) here st) in
        ap (λ (y : NumberedEdge). y.event.n) (sym same) ∙ event ∙ ap (λ (y : Row). y.label.event) row
    new_event j q e st (suc i) n so = absurd (stands_none i e so)

    new_from : (j : ℕ) (q : Row) (e : NumberedEdge) → Stands tree.edges j q → (i : ℕ) → j ≡ length es + i
        → Stands (x ∷ []) i e → IsModeNumber tree j q.from e.from
    new_from j q e st zero n so =
        let same : x ≡ e = cc in
        let here : j ≡ k = omega (arith, n, f.long) in
        let row = stands_one tree.edges k r q at (subst (λ m. Stands tree.edges m q) here st) in
        subst (λ (y : NumberedEdge). IsModeNumber tree j q.from y.from) same
        (subst (λ (y : Row). IsModeNumber tree j y.from x.from) row
        (subst (λ m. IsModeNumber tree m r.from x.from) (sym here) from))
    new_from j q e st (suc i) n so = absurd (stands_none i e so)

pub so_far_all : (tree : ModeTree) (k : ℕ) (n : NumberedTree) (es : List NumberedEdge) → edges_of n ≡ es
    → k ≡ length tree.edges → IsSoFar tree k es → IsNumberOf tree n
so_far_all tree k n es same all f = record {
  long = ap length same ∙ f.long ∙ all;
  event = λ j r e st so. f.event j r e st (subst (λ z. Stands z j e) same so);
  from = λ j r e st so. f.from j r e st (subst (λ z. Stands z j e) same so);
}

-- the trees that were numbered have few edges
pub none_wide : (trees : List ModeTree) (ns : List NumberedTree) → AreNumberedTrees trees ns → All HasFewEdges ns
    → (tree : ModeTree) → IsOneOf trees tree → IsWideTree tree → ⊥
none_wide _ _ none few tree o w = one_none tree o
none_wide _ _ (passed {tree = first} {trees = trees} {ns = ns} e are) few tree o w = ⊎_elim
    (λ p. let here : tree.edges ≡ [] = ap (λ (t : ModeTree). t.edges) (sym p) ∙ e in
    let long = ap length here in omega (arith, long, w))
    (λ p. none_wide trees ns are few tree p w)
    (one_cases first trees tree o)
none_wide _ _ (one_and {tree = first} {n = n} {trees = trees} {ns = ns} is are) few tree o w = ⊎_elim
    (λ p. let h : length (edges_of n) ≤ 64 = All-head HasFewEdges n ns few in
    let long = is.long in
    let here = ap (λ (t : ModeTree). length t.edges) p in
    omega (arith, h, long, here, w))
    (λ p. none_wide trees ns are (All-tail HasFewEdges n ns few) tree p w)
    (one_cases first trees tree o)
