use Rattle.std.proofs.Common.{List, ap, ◌∙◌}
use Rattle.ar_io.proofs.Writing.{writes_exit, writes_on, writes_front, writes_as}
use Rattle.mode_trees.specs.declared.forests.ModeTree.{ModeTree}
use Rattle.cut_text.specs.ForestPrinted.{trees_text, edge_count}
use Rattle.cut_text.specs.ForestTexts.{events_line}
use Rattle.cut_text.proofs.ForestPieces.{events_pieces}
use Rattle.cut_text.proofs.forest_printing.print_forest.Goals as goal

pub returns-in_err-write_text : goal.returns-in_err-write_text
returns-in_err-write_text g c =
    writes_exit _ _ c.from_residual-in_err-write_text.ensures.1 (writes_on
    (writes_as _ _ (ap (λ (z : List ModeTree). trees_text c.args.gts.now z) c.deref.ensures.value)
    c.in_ok-trees.ensures)
    (writes_as _ _ (ap events_line (c.edges_in-edges.ensures ∙ ap edge_count c.deref-2.ensures.value))
    (writes_as _ _ (events_pieces _)
    (writes_front _ _ c.in_err-write_text.ensures))))

pub returns-in_err-write_count : goal.returns-in_err-write_count
returns-in_err-write_count g c =
    writes_exit _ _ c.from_residual-in_err-write_count.ensures.1 (writes_on
    (writes_as _ _ (ap (λ (z : List ModeTree). trees_text c.args.gts.now z) c.deref.ensures.value)
    c.in_ok-trees.ensures)
    (writes_as _ _ (ap events_line (c.edges_in-edges.ensures ∙ ap edge_count c.deref-2.ensures.value))
    (writes_as _ _ (events_pieces _)
    (writes_on c.in_ok-write_text.ensures (writes_front _ _ c.in_err-write_count.ensures)))))

pub returns : goal.returns
returns g c =
    writes_on
    (writes_as _ _ (ap (λ (z : List ModeTree). trees_text c.args.gts.now z) c.deref.ensures.value)
    c.in_ok-trees.ensures)
    (writes_as _ _ (ap events_line (c.edges_in-edges.ensures ∙ ap edge_count c.deref-2.ensures.value))
    (writes_as _ _ (events_pieces _)
    (writes_on c.in_ok-write_text.ensures (writes_on c.in_ok-write_count.ensures c.write_text-2.ensures))))
