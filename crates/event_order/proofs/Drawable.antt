-- What is asked of trees and gates that are drawn holds of those over new numbers.
use Rattle.std.proofs.Common.{◌≡◌, ℕ, suc, ◌≤◌, ◌<◌, List, [], ◌∷◌, length, get_or, refl, sym, subst, arith}
use Rattle.std.specs.List.{All}
use Rattle.std.proofs.lemmas.List.Elements.{All-nil, All-cons, All-get_or}
use Rattle.ar_base.specs.Lists.{Stands, IsOneOf}
use Rattle.ar_base.specs.NumbersInside.{EventId}
use Rattle.ar_base.proofs.Few.{few_below}
use Rattle.ar_base.proofs.Standing.{stands_one, stands_within, stands_some, stands_get, along_on, along_back, along_length}
use Rattle.diagram_steps.specs.declared.trees.NumberedTree.{NumberedTree}
use Rattle.diagram_steps.specs.Trees.{edges_of}
use Rattle.mode_diagrams.specs.Costs.{HaveDifferentEvents}
use Rattle.mode_diagrams.specs.Numbers.{HasFewEdges}
use Rattle.mode_diagrams.specs.Trees.{AreNumbered, AreApart}
use Rattle.mode_diagrams.proofs.Arranging.{ascend_apart}
use Rattle.event_order.specs.Renumbered.{AreRenumbered}

pub new_numbered : (names : List EventId) (olds news : List NumberedTree) → AreRenumbered names olds news
    → AreNumbered olds → AreNumbered news
new_numbered names olds news r numbered = record {
  each = λ k tree st. record {
    each = λ m edge at.
        let z = along_back r.places news r.trees k tree st in
        let a = stands_some (edges_of z.2.old) m
        (let w = stands_within (edges_of tree) m edge at in omega (arith, w, z.2.is.long)) in
        let l = (numbered.each z.0 z.2.old z.2.stands).each m a.0 a.1 in
        omega (arith, l, z.2.is.from m a.0 edge a.1 at);
  };
}

pub new_apart : (names : List EventId) (olds news : List NumberedTree) → AreRenumbered names olds news → AreApart news
new_apart names olds news r = ascend_apart news r.ascend

pub new_different : (names : List EventId) (olds news : List NumberedTree) → AreRenumbered names olds news
    → HaveDifferentEvents olds → HaveDifferentEvents news
new_different names olds news r different = record {
  each = λ k tree st. record {
    one = λ i j a b p q e.
        let z = along_back r.places news r.trees k tree st in
        let m = z.2.is.next i a p in
        let n = z.2.is.next j b q in
        omega (arith, m, n, e);
  };
}

-- no more trees than before
pub new_few : (names : List EventId) (olds news : List NumberedTree) → AreRenumbered names olds news
    → length news ≤ length olds
new_few names olds news r =
    let l = few_below (length olds) r.places r.once
    along_on_place in
    omega (arith, l, along_length r.places news r.trees)
  where
    along_on_place : (p : ℕ) → IsOneOf r.places p → p < length olds
    along_on_place p o =
        let z = along_on r.places news r.trees o.place p o.stands in
        stands_within olds p z.2.old z.2.stands

-- no new tree has more edges than the old one
pub new_small : (names : List EventId) (olds news : List NumberedTree) → AreRenumbered names olds news
    → All HasFewEdges olds → All HasFewEdges news
new_small names olds news r small = all_by news (λ k new st.
    let w = along_back r.places news r.trees k new st in
    few_at new w.2.old (few_of w.0 w.2.old w.2.stands) w.2.is.long)
  where
    few_of : (p : ℕ) (old : NumberedTree) → Stands olds p old → HasFewEdges old
    few_of p old st =
        let in_olds = stands_within olds p old st in
        let same : old ≡ get_or olds p old = stands_one olds p old (get_or olds p old) st (stands_get olds p old in_olds) in
        subst (λ (t : NumberedTree). HasFewEdges t) (sym same) (All-get_or HasFewEdges olds p old in_olds small)

    few_at : (new old : NumberedTree) → HasFewEdges old → length (edges_of new) ≡ length (edges_of old) → HasFewEdges new
    few_at new old few long = omega (arith, few, long)

    all_by : (ts : List NumberedTree) → ((k : ℕ) (t : NumberedTree) → Stands ts k t → HasFewEdges t) → All HasFewEdges ts
    all_by [] each = All-nil HasFewEdges
    all_by (t ∷ ts) each = All-cons HasFewEdges t ts (each 0 t refl) (all_by ts (λ k u st. each (suc k) u st))
