use Rattle.std.proofs.Common.{◌≡◌, ◌≤◌, length, IfOk, Err, sym, ap, ◌∙◌, subst}
use Rattle.std.proofs.lemmas.Result.{err_from_is_err_and}
use Rattle.mode_trees.specs.Views.{trees_of}
use Rattle.zdd_nodes.specs.declared.NodeFault.{NodeFault}
use Rattle.zdd_nodes.specs.declared.NodeFault.TheVariants.{Full}
use Rattle.eq_core.specs.Views.{table_of}
use Rattle.gate_diagrams.specs.NodeLimits.{NodesMayUpTo}
use Rattle.gate_diagrams.specs.Answers.{store_of}
use Rattle.gate_diagrams.specs.declared.by_modes.Unanswered.{Unanswered}
use Rattle.gate_diagrams.specs.declared.by_modes.Unanswered.TheVariants.{Nodes}
use Rattle.gate_diagrams.proofs.Whole.{in_forest, all_listed, a_walk, walk_full, firable_listed, firable_in, firable_stored, limit_kept, answer_needed}
use Rattle.gate_diagrams.proofs.from_forest.diagrams_up_to.Goals as goal

pub returns-in-Ok-by_modes-clause-sets : goal.returns-in-Ok-by_modes-clause-sets
returns-in-Ok-by_modes-clause-sets c =
    let families =
    in_forest c.args.forest.now c.deref.result.now c.forest_paths.new.ops c.into_store-trees.result c.in-Ok.paths.items
    c.deref.ensures.value c.into_store-trees.ensures.same c.in-Ok.ensures.listed in
    let all = all_listed c.args.order c.into_store-trees.result c.in-Ok.paths.items families c.requires.trees.apart in
    (c.in-Ok-by_modes.ensures all.0 all.1).sets

pub returns-in-Ok-by_modes-clause-within : goal.returns-in-Ok-by_modes-clause-within
returns-in-Ok-by_modes-clause-within c =
    let families =
    in_forest c.args.forest.now c.deref.result.now c.forest_paths.new.ops c.into_store-trees.result c.in-Ok.paths.items
    c.deref.ensures.value c.into_store-trees.ensures.same c.in-Ok.ensures.listed in
    let all = all_listed c.args.order c.into_store-trees.result c.in-Ok.paths.items families c.requires.trees.apart in
    (c.in-Ok-by_modes.ensures all.0 all.1).within

pub returns-in-Err-Nodes-clause-full : goal.returns-in-Err-Nodes-clause-full
returns-in-Err-Nodes-clause-full c = λ e.
    let families =
    in_forest c.args.forest.now c.deref.result.now c.forest_paths.new.ops c.into_store-trees.result c.in-Ok.paths.items
    c.deref.ensures.value c.into_store-trees.ensures.same c.in-Ok.ensures.listed in
    let all = all_listed c.args.order c.into_store-trees.result c.in-Ok.paths.items families c.requires.trees.apart in
    let y : c.in-Err-Nodes.fault ≡ Full = cc in
    (c.in-Err-Nodes.ensures all.0 all.1).full
    (ap (λ (z : Unanswered). Err z) c.in-Err-Nodes.field-0-is ∙ ap (λ (z : NodeFault). Err (Nodes z)) y)

pub returns-in_err-firable-clause-full : goal.returns-in_err-firable-clause-full
returns-in_err-firable-clause-full c = λ e.
    let families =
    in_forest c.args.forest.now c.deref.result.now c.forest_paths.new.ops c.into_store-trees.result c.in-Ok.paths.items
    c.deref.ensures.value c.into_store-trees.ensures.same c.in-Ok.ensures.listed in
    let p = err_from_is_err_and c.from_residual.result c.from_residual.ensures.1 in
    let x = sym p.1 ∙ e in
    let y : p.0 ≡ Full = cc in
    let walk =
    a_walk c.into_store-trees.result c.in-Ok.paths.items families c.requires.trees.apart c.new-ops.ensures.families
    c.new-ops.ensures.limit c.in_err-firable.ensures.drawn in
    walk_full (table_of c.args.equations.now) walk (ap (λ (z : NodeFault). Err z) (sym p.2 ∙ y))

pub answer-requires-clause-firable_in : goal.answer-requires-clause-firable_in
answer-requires-clause-firable_in c =
    let families =
    in_forest c.args.forest.now c.deref.result.now c.forest_paths.new.ops c.into_store-trees.result c.in-Ok.paths.items
    c.deref.ensures.value c.into_store-trees.ensures.same c.in-Ok.ensures.listed in
    let walk =
    a_walk c.into_store-trees.result c.in-Ok.paths.items families c.requires.trees.apart c.new-ops.ensures.families
    c.new-ops.ensures.limit c.in_ok-firable.ensures.drawn in
    firable_in walk

pub answer-requires-clause-stored : goal.answer-requires-clause-stored
answer-requires-clause-stored c =
    let families =
    in_forest c.args.forest.now c.deref.result.now c.forest_paths.new.ops c.into_store-trees.result c.in-Ok.paths.items
    c.deref.ensures.value c.into_store-trees.ensures.same c.in-Ok.ensures.listed in
    let walk =
    a_walk c.into_store-trees.result c.in-Ok.paths.items families c.requires.trees.apart c.new-ops.ensures.families
    c.new-ops.ensures.limit c.in_ok-firable.ensures.drawn in
    firable_stored walk

pub returns-clause-sets : goal.returns-clause-sets
returns-clause-sets c =
    let families =
    in_forest c.args.forest.now c.deref.result.now c.forest_paths.new.ops c.into_store-trees.result c.in-Ok.paths.items
    c.deref.ensures.value c.into_store-trees.ensures.same c.in-Ok.ensures.listed in
    let walk =
    a_walk c.into_store-trees.result c.in-Ok.paths.items families c.requires.trees.apart c.new-ops.ensures.families
    c.new-ops.ensures.limit c.in_ok-firable.ensures.drawn in
    c.answer.ensures.sets c.args.order (trees_of (λ n. n) c.args.forest.now) (firable_listed walk)

pub returns-clause-needed : goal.returns-clause-needed
returns-clause-needed c =
    let families =
    in_forest c.args.forest.now c.deref.result.now c.forest_paths.new.ops c.into_store-trees.result c.in-Ok.paths.items
    c.deref.ensures.value c.into_store-trees.ensures.same c.in-Ok.ensures.listed in
    let walk =
    a_walk c.into_store-trees.result c.in-Ok.paths.items families c.requires.trees.apart c.new-ops.ensures.families
    c.new-ops.ensures.limit c.in_ok-firable.ensures.drawn in
    answer_needed walk (table_of c.args.equations.now) c.answer.result c.answer.ensures.needed

pub returns-clause-within : goal.returns-clause-within
returns-clause-within c =
    let families =
    in_forest c.args.forest.now c.deref.result.now c.forest_paths.new.ops c.into_store-trees.result c.in-Ok.paths.items
    c.deref.ensures.value c.into_store-trees.ensures.same c.in-Ok.ensures.listed in
    let walk =
    a_walk c.into_store-trees.result c.in-Ok.paths.items families c.requires.trees.apart c.new-ops.ensures.families
    c.new-ops.ensures.limit c.in_ok-firable.ensures.drawn in
    subst (λ n. IfOk c.answer.result (λ d. length (store_of d).families ≤ n)) (limit_kept walk) c.answer.ensures.within

pub returns-clause-full : goal.returns-clause-full
returns-clause-full c = λ e.
    let families =
    in_forest c.args.forest.now c.deref.result.now c.forest_paths.new.ops c.into_store-trees.result c.in-Ok.paths.items
    c.deref.ensures.value c.into_store-trees.ensures.same c.in-Ok.ensures.listed in
    let walk =
    a_walk c.into_store-trees.result c.in-Ok.paths.items families c.requires.trees.apart c.new-ops.ensures.families
    c.new-ops.ensures.limit c.in_ok-firable.ensures.drawn in
    let trees = trees_of (λ n. n) c.args.forest.now in
    subst (NodesMayUpTo c.args.order trees (table_of c.args.equations.now)) (limit_kept walk)
    (c.answer.ensures.full c.args.order trees (firable_listed walk) e)
