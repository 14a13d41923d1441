use Rattle.std.proofs.Common.{refl, rules, of_calls, subst}
use Rattle.std.proofs.lemmas.Fn.{always_returns_same}
use Rattle.std.proofs.lemmas.List.Sorted.{IsNonDecreasingBy-from_sort}
use Rattle.diagram_steps.specs.declared.trees.NumberedTree.{NumberedTree}
use Rattle.diagram_steps.specs.Trees.{edges_of}
use Rattle.diagram_steps.specs.Order.{HasOverlap, least_event}
use Rattle.diagram_steps.proofs.TreeOrder.{not_separate, separate_moved}
use Rattle.diagram_steps.proofs.ordering.in_order.Goals as goal

pub returns-else-ascend-clause-none : goal.returns-else-ascend-clause-none
returns-else-ascend-clause-none c = λ e separate.
    let trees = c.sort_by_key.new.self.items in
    let key = λ (tree : NumberedTree). least_event (edges_of tree) in
    not_separate trees
    (IsNonDecreasingBy-from_sort key _
    (c.in_ok-sort_by_key.ensures.sorted key (always_returns_same _ _ _ (λ a r f k. search (rules, of_calls)))))
    (subst HasOverlap c.deref.ensures.value (c.if-ascend.ensures.no refl))
    (separate_moved c.args.trees.items trees c.sort_by_key.ensures.permutation separate)
