use Rattle.ar_io.proofs.Writing.{writes_exit, writes_on, writes_front, writes_as}
use Rattle.gts_flatten.specs.Flat.{naming_of_parts}
use Rattle.flow_reasons.specs.Answers.{reason_of}
use Rattle.reason_text.proofs.Pieces.{reason_pieces}
use Rattle.reason_text.proofs.lines.reason_line.Goals as goal

pub returns-in_err-write_text : goal.returns-in_err-write_text
returns-in_err-write_text g c =
    writes_exit _ _ c.from_residual.ensures.1
    (writes_as _ _ (reason_pieces (naming_of_parts c.args.parts.now) (reason_of c.args.reason.now)
    c.variable_path.result.now c.variable_path.ensures)
    (writes_front _ _ c.in_err-write_text.ensures))

pub returns-in_err-write_text-2 : goal.returns-in_err-write_text-2
returns-in_err-write_text-2 g c =
    writes_exit _ _ c.from_residual-in_err-write_text-2.ensures.1
    (writes_as _ _ (reason_pieces (naming_of_parts c.args.parts.now) (reason_of c.args.reason.now)
    c.variable_path.result.now c.variable_path.ensures)
    (writes_on c.in_ok-write_text.ensures (writes_front _ _ c.in_err-write_text-2.ensures)))

pub returns-in_err-write_value : goal.returns-in_err-write_value
returns-in_err-write_value g c =
    writes_exit _ _ c.from_residual-in_err-write_value.ensures.1
    (writes_as _ _ (reason_pieces (naming_of_parts c.args.parts.now) (reason_of c.args.reason.now)
    c.variable_path.result.now c.variable_path.ensures)
    (writes_on c.in_ok-write_text.ensures (writes_on c.in_ok-write_text-2.ensures (writes_front _ _ c.in_err-write_value.ensures))))

pub returns-in_err-why : goal.returns-in_err-why
returns-in_err-why g c =
    writes_exit _ _ c.from_residual-in_err-why.ensures.1
    (writes_as _ _ (reason_pieces (naming_of_parts c.args.parts.now) (reason_of c.args.reason.now)
    c.variable_path.result.now c.variable_path.ensures)
    (writes_on c.in_ok-write_text.ensures (writes_on c.in_ok-write_text-2.ensures
    (writes_on c.in_ok-write_value.ensures (writes_front _ _ c.in_err-why.ensures)))))

pub returns : goal.returns
returns g c =
    writes_as _ _ (reason_pieces (naming_of_parts c.args.parts.now) (reason_of c.args.reason.now)
    c.variable_path.result.now c.variable_path.ensures)
    (writes_on c.in_ok-write_text.ensures (writes_on c.in_ok-write_text-2.ensures
    (writes_on c.in_ok-write_value.ensures (writes_on c.in_ok-why.ensures c.write_text-3.ensures))))
