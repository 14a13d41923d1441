use Rattle.std.proofs.Common.{List, ap}
use Rattle.gts_core.specs.declared.system.GtsParts.{GtsParts}
use Rattle.ar_io.proofs.Writing.{writes_exit, writes_on, writes_front, writes_as, leaves_all, leaves_on, leaves_front, leaves_none, next_item, no_item}
use Rattle.mode_trees.specs.declared.forests.Edge.{Edge}
use Rattle.mode_trees.specs.declared.forests.ModeTree.{ModeTree}
use Rattle.cut_text.specs.ForestPrinted.{tree_line, edge_lines, trees_text}
use Rattle.cut_text.proofs.forest_printing.trees.Goals as goal

pub loop-one-init : goal.loop-one-init
loop-one-init g c = leaves_all _ _

pub returns-in_err-root : goal.returns-in_err-root
returns-in_err-root g c =
    writes_exit _ _ c.from_residual.ensures.1
    (leaves_front _ _ c.loop-one.invariant (writes_front _ _ (writes_as _ _ (ap (λ (z : GtsParts). tree_line z c.one-item.result) c.parts.ensures.parts)
    c.in_err-root.ensures))
    (next_item (λ (xs : List ModeTree). trees_text c.args.gts.now xs) c.args.trees.now c.loop-one.one-index
    c.one-item.result c.loop-one-test.true c.one-item.is))

pub returns-in_err-edges : goal.returns-in_err-edges
returns-in_err-edges g c =
    writes_exit _ _ c.from_residual-in_err-edges.ensures.1
    (leaves_front _ _ c.loop-one.invariant (writes_on (writes_as _ _ (ap (λ (z : GtsParts). tree_line z c.one-item.result) c.parts.ensures.parts)
    c.in_ok-root.ensures)
    (writes_as _ _ (ap (λ (z : List Edge). edge_lines c.args.gts.now z) c.deref.ensures.value) c.in_err-edges.ensures))
    (next_item (λ (xs : List ModeTree). trees_text c.args.gts.now xs) c.args.trees.now c.loop-one.one-index
    c.one-item.result c.loop-one-test.true c.one-item.is))

pub loop-one-preserved : goal.loop-one-preserved
loop-one-preserved g c =
    leaves_on _ _ c.loop-one.invariant (writes_on (writes_as _ _ (ap (λ (z : GtsParts). tree_line z c.one-item.result) c.parts.ensures.parts)
    c.in_ok-root.ensures)
    (writes_as _ _ (ap (λ (z : List Edge). edge_lines c.args.gts.now z) c.deref.ensures.value) c.in_ok-edges.ensures))
    (next_item (λ (xs : List ModeTree). trees_text c.args.gts.now xs) c.args.trees.now c.loop-one.one-index
    c.one-item.result c.loop-one-test.true c.one-item.is)

pub returns : goal.returns
returns g c =
    leaves_none _ c.loop-one.invariant
    (no_item (λ (xs : List ModeTree). trees_text c.args.gts.now xs) c.args.trees.now c.loop-one.one-index
    c.loop-one-test.false)
