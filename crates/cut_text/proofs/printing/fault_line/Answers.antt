use Rattle.ar_io.proofs.Writing.{writes_exit, writes_on, writes_front, writes_as}
use Rattle.ar_meaning.specs.TraceText.{flow_fault_text}
use Rattle.flow_propagate.specs.Answers.{fault_of}
use Rattle.gts_flatten.specs.Flat.{naming_of_parts}
use Rattle.min_cuts.specs.Kept.{numbers_of_set}
use Rattle.cut_text.specs.Tables.{texts_at}
use Rattle.cut_text.specs.Texts.{braced}
use Rattle.cut_text.proofs.Pieces.{fault_pieces}
use Rattle.cut_text.proofs.printing.fault_line.Goals as goal

pub returns-in_err-write_text : goal.returns-in_err-write_text
returns-in_err-write_text g c =
    writes_exit _ _ c.from_residual.ensures.1
    (writes_as _ _ (fault_pieces (braced (texts_at c.args.gts.now c.args.ways.now (numbers_of_set c.args.events.now)))
    (flow_fault_text (naming_of_parts c.args.gts.now) (fault_of c.args.fault)))
    (writes_front _ _ c.in_err-write_text.ensures))

pub returns-in_err-write_set : goal.returns-in_err-write_set
returns-in_err-write_set g c =
    writes_exit _ _ c.from_residual-in_err-write_set.ensures.1
    (writes_as _ _ (fault_pieces (braced (texts_at c.args.gts.now c.args.ways.now (numbers_of_set c.args.events.now)))
    (flow_fault_text (naming_of_parts c.args.gts.now) (fault_of c.args.fault)))
    (writes_on c.in_ok-write_text.ensures (writes_front _ _ c.in_err-write_set.ensures)))

pub returns-in_err-write_text-2 : goal.returns-in_err-write_text-2
returns-in_err-write_text-2 g c =
    writes_exit _ _ c.from_residual-in_err-write_text-2.ensures.1
    (writes_as _ _ (fault_pieces (braced (texts_at c.args.gts.now c.args.ways.now (numbers_of_set c.args.events.now)))
    (flow_fault_text (naming_of_parts c.args.gts.now) (fault_of c.args.fault)))
    (writes_on c.in_ok-write_text.ensures (writes_on c.in_ok-write_set.ensures (writes_front _ _ c.in_err-write_text-2.ensures))))

pub returns-in_err-print_flow_fault : goal.returns-in_err-print_flow_fault
returns-in_err-print_flow_fault g c =
    writes_exit _ _ c.from_residual-in_err-print_flow_fault.ensures.1
    (writes_as _ _ (fault_pieces (braced (texts_at c.args.gts.now c.args.ways.now (numbers_of_set c.args.events.now)))
    (flow_fault_text (naming_of_parts c.args.gts.now) (fault_of c.args.fault)))
    (writes_on c.in_ok-write_text.ensures (writes_on c.in_ok-write_set.ensures
    (writes_on c.in_ok-write_text-2.ensures (writes_front _ _ c.in_err-print_flow_fault.ensures)))))

pub returns : goal.returns
returns g c =
    writes_as _ _ (fault_pieces (braced (texts_at c.args.gts.now c.args.ways.now (numbers_of_set c.args.events.now)))
    (flow_fault_text (naming_of_parts c.args.gts.now) (fault_of c.args.fault)))
    (writes_on c.in_ok-write_text.ensures (writes_on c.in_ok-write_set.ensures
    (writes_on c.in_ok-write_text-2.ensures (writes_on c.in_ok-print_flow_fault.ensures c.write_text-3.ensures))))
