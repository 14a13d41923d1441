use Rattle.std.proofs.Common.{◌≡◌, ◌≤◌, length, take_all, sym, ap, ◌∙◌, subst}
use Rattle.std.proofs.lemmas.Result.{err_from_is_err_and}
use Rattle.zdd_nodes.specs.Sections.{IsCounted}
use Rattle.zdd_nodes.proofs.Growing.{Grows-none}
use Rattle.gate_diagrams.specs.Walked.{moving, AreNumbers, AreWalked}
use Rattle.gate_diagrams.proofs.FirableSets.{firable_drawn, none_walked}
use Rattle.gate_diagrams.proofs.Going.{DrawsLeft}
use Rattle.gate_diagrams.proofs.Moving.{moving_numbers, moving_drawn}
use Rattle.gate_diagrams.proofs.Tables.{memory_drawn}
use Rattle.gate_diagrams.proofs.firable.firable_sets.Goals as goal

pub returns-in_err-push-clause-drawn : goal.returns-in_err-push-clause-drawn
returns-in_err-push-clause-drawn c =
    let p = err_from_is_err_and c.from_residual.result c.from_residual.ensures.1 in
    rw (p.1, p.2) (λ forest families apart all listed. memory_drawn (IsCounted all) all c.args.ops.now c.args.ops.now
    (Grows-none (IsCounted all) c.args.ops.now))

pub walk-requires-clause-walked : goal.walk-requires-clause-walked
walk-requires-clause-walked c =
    subst (λ z. AreWalked c.args.trees.now c.args.ops.now z) (sym c.new-walked.ensures)
    (none_walked c.args.trees.now c.args.ops.now)

pub walk-requires-clause-in_store : goal.walk-requires-clause-in_store
walk-requires-clause-in_store c =
    let whole : c.loop-tree.left.items ≡ moving c.args.paths.items =
    c.loop-tree.invariant ∙ ap moving (take_all c.loop-tree.tree-index c.args.paths.items
    (subst (λ z. length z ≤ c.loop-tree.tree-index) c.deref-tree-items.ensures.value c.loop-tree-test.false)) in
    subst (AreNumbers c.args.trees.now) (sym whole)
    (moving_numbers c.args.trees.now c.args.paths.items c.requires.in_store)

pub returns-clause-drawn : goal.returns-clause-drawn
returns-clause-drawn c =
    let whole : c.loop-tree.left.items ≡ moving c.args.paths.items =
    c.loop-tree.invariant ∙ ap moving (take_all c.loop-tree.tree-index c.args.paths.items
    (subst (λ z. length z ≤ c.loop-tree.tree-index) c.deref-tree-items.ensures.value c.loop-tree-test.false)) in
    firable_drawn c.args.order c.args.trees.now c.args.paths.items c.args.ops.now c.walk.new.ops c.walk.result
    (moving_drawn c.args.order c.args.trees.now c.args.paths.items c.args.ops.now c.walk.new.ops c.walk.result
    (subst (λ z. DrawsLeft c.args.order c.args.trees.now z c.args.ops.now c.walk.new.ops c.walk.result)
    whole c.walk.ensures.drawn))
