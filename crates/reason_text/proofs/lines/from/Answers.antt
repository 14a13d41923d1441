use Rattle.ar_base.specs.Texts.{text_at}
use Rattle.std.proofs.Common.{refl}
use Rattle.ar_io.proofs.Writing.{writes_exit, writes_on, writes_front, writes_as}
use Rattle.gts_flatten.specs.Flat.{naming_of_parts}
use Rattle.reason_text.proofs.Pieces.{from_pieces}
use Rattle.reason_text.proofs.lines.from.Goals as goal

pub returns-in_err-write_text : goal.returns-in_err-write_text
returns-in_err-write_text g c =
    let names = naming_of_parts c.args.parts.now in
    writes_exit _ _ c.from_residual.ensures.1
    (writes_as _ _ (from_pieces names c.args.variables.now c.in-Some.first.now c.in-Some.others.now
    (text_at names.variables c.in-Some.first.now.n) c.in-Some.ensures.cases.0 refl)
    (writes_front _ _ c.in_err-write_text.ensures))

pub returns-in_err-write_text-2 : goal.returns-in_err-write_text-2
returns-in_err-write_text-2 g c =
    writes_exit _ _ c.from_residual-in_err-write_text-2.ensures.1
    (writes_as _ _ (from_pieces (naming_of_parts c.args.parts.now) c.args.variables.now c.in-Some.first.now
    c.in-Some.others.now c.variable_path.result.now c.in-Some.ensures.cases.0 c.variable_path.ensures)
    (writes_on c.in_ok-write_text.ensures (writes_front _ _ c.in_err-write_text-2.ensures)))

pub returns : goal.returns
returns g c =
    writes_as _ _ (from_pieces (naming_of_parts c.args.parts.now) c.args.variables.now c.in-Some.first.now
    c.in-Some.others.now c.variable_path.result.now c.in-Some.ensures.cases.0 c.variable_path.ensures)
    (writes_on c.in_ok-write_text.ensures (writes_on c.in_ok-write_text-2.ensures c.more_paths.ensures))
