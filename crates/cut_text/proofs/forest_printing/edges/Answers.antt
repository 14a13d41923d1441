use Rattle.std.proofs.Common.{List}
use Rattle.ar_base.proofs.Standing.{one_here, stands_get}
use Rattle.ar_io.proofs.Writing.{writes_exit, leaves_all, leaves_on, leaves_front, leaves_none, next_read, no_item}
use Rattle.mode_trees.specs.declared.forests.Edge.{Edge}
use Rattle.cut_text.specs.ForestPrinted.{edge_lines}
use Rattle.cut_text.proofs.forest_printing.edges.Goals as goal

pub loop-edge-init : goal.loop-edge-init
loop-edge-init g c = leaves_all _ _

pub returns-in_err-edge_line : goal.returns-in_err-edge_line
returns-in_err-edge_line g c =
    writes_exit _ _ c.from_residual.ensures.1
    (leaves_front _ _ c.loop-edge.invariant c.in_err-edge_line.ensures
    (next_read (λ (xs : List Edge). edge_lines c.args.gts.now xs) c.args.edges.now c.loop-edge.edge-index _
    c.loop-edge-test.true))

pub loop-edge-preserved : goal.loop-edge-preserved
loop-edge-preserved g c =
    leaves_on _ _ c.loop-edge.invariant c.in_ok-edge_line.ensures
    (next_read (λ (xs : List Edge). edge_lines c.args.gts.now xs) c.args.edges.now c.loop-edge.edge-index _
    c.loop-edge-test.true)

pub returns : goal.returns
returns g c =
    leaves_none _ c.loop-edge.invariant
    (no_item (λ (xs : List Edge). edge_lines c.args.gts.now xs) c.args.edges.now c.loop-edge.edge-index
    c.loop-edge-test.false)

pub edge_line-requires : goal.edge_line-requires
edge_line-requires g c =
    c.requires.each _ (one_here c.args.edges.now c.loop-edge.edge-index _
    (stands_get c.args.edges.now c.loop-edge.edge-index _ c.loop-edge-test.true))
