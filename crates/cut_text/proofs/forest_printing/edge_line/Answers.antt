use Rattle.ar_io.proofs.Writing.{writes_exit, writes_on, writes_front, writes_as}
use Rattle.cut_text.proofs.ForestPieces.{edge_written}
use Rattle.cut_text.proofs.forest_printing.edge_line.Goals as goal

pub returns-in_err-write_text : goal.returns-in_err-write_text
returns-in_err-write_text g c =
    writes_exit _ _ c.from_residual.ensures.1
    (writes_as _ _ (edge_written c.args.gts.now c.parts-parts.result.now c.args.edge c.parts-parts.ensures.parts)
    (writes_front _ _ c.in_err-write_text.ensures))

pub returns-in_err-write_value : goal.returns-in_err-write_value
returns-in_err-write_value g c =
    writes_exit _ _ c.from_residual-in_err-write_value.ensures.1
    (writes_as _ _ (edge_written c.args.gts.now c.parts-parts.result.now c.args.edge c.parts-parts.ensures.parts)
    (writes_on c.in_ok-write_text.ensures (writes_front _ _ c.in_err-write_value.ensures)))

pub returns-in_err-write_text-2 : goal.returns-in_err-write_text-2
returns-in_err-write_text-2 g c =
    writes_exit _ _ c.from_residual-in_err-write_text-2.ensures.1
    (writes_as _ _ (edge_written c.args.gts.now c.parts-parts.result.now c.args.edge c.parts-parts.ensures.parts)
    (writes_on c.in_ok-write_text.ensures (writes_on c.in_ok-write_value.ensures (writes_front _ _ c.in_err-write_text-2.ensures))))

pub returns-in_err-print_label : goal.returns-in_err-print_label
returns-in_err-print_label g c =
    writes_exit _ _ c.from_residual-in_err-print_label.ensures.1
    (writes_as _ _ (edge_written c.args.gts.now c.parts-parts.result.now c.args.edge c.parts-parts.ensures.parts)
    (writes_on c.in_ok-write_text.ensures (writes_on c.in_ok-write_value.ensures
    (writes_on c.in_ok-write_text-2.ensures (writes_front _ _ c.in_err-print_label.ensures)))))

pub returns-in_err-write_text-3 : goal.returns-in_err-write_text-3
returns-in_err-write_text-3 g c =
    writes_exit _ _ c.from_residual-in_err-write_text-3.ensures.1
    (writes_as _ _ (edge_written c.args.gts.now c.parts-parts.result.now c.args.edge c.parts-parts.ensures.parts)
    (writes_on c.in_ok-write_text.ensures (writes_on c.in_ok-write_value.ensures
    (writes_on c.in_ok-write_text-2.ensures (writes_on c.in_ok-print_label.ensures
    (writes_front _ _ c.in_err-write_text-3.ensures))))))

pub returns-in_err-write_value-2 : goal.returns-in_err-write_value-2
returns-in_err-write_value-2 g c =
    writes_exit _ _ c.from_residual-in_err-write_value-2.ensures.1
    (writes_as _ _ (edge_written c.args.gts.now c.parts-parts.result.now c.args.edge c.parts-parts.ensures.parts)
    (writes_on c.in_ok-write_text.ensures (writes_on c.in_ok-write_value.ensures
    (writes_on c.in_ok-write_text-2.ensures (writes_on c.in_ok-print_label.ensures
    (writes_on c.in_ok-write_text-3.ensures (writes_front _ _ c.in_err-write_value-2.ensures)))))))

pub returns : goal.returns
returns g c =
    writes_as _ _ (edge_written c.args.gts.now c.parts-parts.result.now c.args.edge c.parts-parts.ensures.parts)
    (writes_on c.in_ok-write_text.ensures (writes_on c.in_ok-write_value.ensures
    (writes_on c.in_ok-write_text-2.ensures (writes_on c.in_ok-print_label.ensures
    (writes_on c.in_ok-write_text-3.ensures (writes_on c.in_ok-write_value-2.ensures c.write_text-4.ensures))))))
