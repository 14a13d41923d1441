use Rattle.std.proofs.Common.{map, IfSome, sym, subst}
use Rattle.std.specs.List.{All}
use Rattle.std.specs.List.Sorted.{IsPermutation}
use Rattle.std.proofs.lemmas.List.Sorted.{All-permutation}
use Rattle.ar_firing.specs.Trees.{AreTrees}
use Rattle.mode_trees.specs.Views.{tree_of, trees_of}
use Rattle.mode_diagrams.specs.Trees.{AreNumbered, AreApart}
use Rattle.mode_diagrams.specs.Costs.{HaveDifferentEvents}
use Rattle.mode_diagrams.specs.Numbers.{AreNumberedTrees, HasFewEdges, IsByModes}
use Rattle.diagram_steps.specs.Order.{Ascend}
use Rattle.mode_diagrams.proofs.Arranging.{firable_by_modes}
use Rattle.gate_diagrams.proofs.by_modes.as_declared.Goals as goal

pub numbered-requires : goal.numbered-requires
numbered-requires c = record {
  trees = subst (λ z. AreTrees (map (tree_of (λ n. n)) z)) (sym c.deref.ensures.value) c.requires.trees;
}

pub answer_by_modes-requires-clause-numbered : goal.answer_by_modes-requires-clause-numbered
answer_by_modes-requires-clause-numbered c =
    let view = tree_of (λ n. n) in
    let numbers = subst (λ z. AreNumberedTrees (map view z) c.in-Some.numbers.items) c.deref.ensures.value
    (subst (λ o. IfSome o (λ ns. AreNumberedTrees (map view c.deref.result.now) ns.items)) c.in-Some.is
    c.in_ok-numbers.ensures.numbers) in
    let same = subst (λ o. IfSome o (λ ns. IsPermutation c.in-Some.numbers.items ns.items)) c.in-Some-2.is
    c.in_ok-trees.ensures.same in
    let ascend = subst (λ o. IfSome o (λ ns. Ascend ns.items)) c.in-Some-2.is c.in_ok-trees.ensures.ascend in
    let by = firable_by_modes (trees_of (λ n. n) c.args.forest.now) c.in-Some.numbers.items c.in-Some-2.trees.items
    c.requires.trees numbers same ascend in
    subst AreNumbered (sym c.deref-2.ensures.value) by.numbered

pub answer_by_modes-requires-clause-apart : goal.answer_by_modes-requires-clause-apart
answer_by_modes-requires-clause-apart c =
    let view = tree_of (λ n. n) in
    let numbers = subst (λ z. AreNumberedTrees (map view z) c.in-Some.numbers.items) c.deref.ensures.value
    (subst (λ o. IfSome o (λ ns. AreNumberedTrees (map view c.deref.result.now) ns.items)) c.in-Some.is
    c.in_ok-numbers.ensures.numbers) in
    let same = subst (λ o. IfSome o (λ ns. IsPermutation c.in-Some.numbers.items ns.items)) c.in-Some-2.is
    c.in_ok-trees.ensures.same in
    let ascend = subst (λ o. IfSome o (λ ns. Ascend ns.items)) c.in-Some-2.is c.in_ok-trees.ensures.ascend in
    let by = firable_by_modes (trees_of (λ n. n) c.args.forest.now) c.in-Some.numbers.items c.in-Some-2.trees.items
    c.requires.trees numbers same ascend in
    subst AreApart (sym c.deref-2.ensures.value) by.apart

pub answer_by_modes-requires-clause-different : goal.answer_by_modes-requires-clause-different
answer_by_modes-requires-clause-different c =
    let view = tree_of (λ n. n) in
    let numbers = subst (λ z. AreNumberedTrees (map view z) c.in-Some.numbers.items) c.deref.ensures.value
    (subst (λ o. IfSome o (λ ns. AreNumberedTrees (map view c.deref.result.now) ns.items)) c.in-Some.is
    c.in_ok-numbers.ensures.numbers) in
    let same = subst (λ o. IfSome o (λ ns. IsPermutation c.in-Some.numbers.items ns.items)) c.in-Some-2.is
    c.in_ok-trees.ensures.same in
    let ascend = subst (λ o. IfSome o (λ ns. Ascend ns.items)) c.in-Some-2.is c.in_ok-trees.ensures.ascend in
    let by = firable_by_modes (trees_of (λ n. n) c.args.forest.now) c.in-Some.numbers.items c.in-Some-2.trees.items
    c.requires.trees numbers same ascend in
    subst HaveDifferentEvents (sym c.deref-2.ensures.value) by.different

pub answer_by_modes-requires-clause-small : goal.answer_by_modes-requires-clause-small
answer_by_modes-requires-clause-small c =
    let few = subst (λ o. IfSome o (λ ns. All HasFewEdges ns.items)) c.in-Some.is c.in_ok-numbers.ensures.few in
    let same = subst (λ o. IfSome o (λ ns. IsPermutation c.in-Some.numbers.items ns.items)) c.in-Some-2.is
    c.in_ok-trees.ensures.same in
    subst (All HasFewEdges) (sym c.deref-2.ensures.value)
    (All-permutation HasFewEdges c.in-Some.numbers.items c.in-Some-2.trees.items same few)

pub returns : goal.returns
returns c = λ all l.
    let view = tree_of (λ n. n) in
    let numbers = subst (λ z. AreNumberedTrees (map view z) c.in-Some.numbers.items) c.deref.ensures.value
    (subst (λ o. IfSome o (λ ns. AreNumberedTrees (map view c.deref.result.now) ns.items)) c.in-Some.is
    c.in_ok-numbers.ensures.numbers) in
    let same = subst (λ o. IfSome o (λ ns. IsPermutation c.in-Some.numbers.items ns.items)) c.in-Some-2.is
    c.in_ok-trees.ensures.same in
    let ascend = subst (λ o. IfSome o (λ ns. Ascend ns.items)) c.in-Some-2.is c.in_ok-trees.ensures.ascend in
    let by = firable_by_modes (trees_of (λ n. n) c.args.forest.now) c.in-Some.numbers.items c.in-Some-2.trees.items
    c.requires.trees numbers same ascend in
    c.answer_by_modes.ensures (trees_of (λ n. n) c.args.forest.now)
    (subst (IsByModes (trees_of (λ n. n) c.args.forest.now)) (sym c.deref-2.ensures.value) by) all l
