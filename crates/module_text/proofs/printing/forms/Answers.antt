use Rattle.std.proofs.Common.{List}
use Rattle.ar_base.proofs.Standing.{one_here, stands_item}
use Rattle.ar_io.proofs.Writing.{writes_exit, writes_on, writes_front, leaves_all, leaves_on, leaves_front, leaves_none, next_item, no_item}
use Rattle.module_text.specs.Arranged.{form_lines}
use Rattle.module_text.specs.declared.arranging.Line.{Line}
use Rattle.module_text.proofs.printing.forms.Goals as goal

pub loop-one-init : goal.loop-one-init
loop-one-init g c = leaves_all _ _

pub between_braces-requires : goal.between_braces-requires
between_braces-requires g c = c.requires.each _
    (one_here c.args.lines.now c.loop-one.one-index c.one-item.result
    (stands_item c.args.lines.now c.loop-one.one-index c.one-item.result c.loop-one-test.true c.one-item.is))

pub returns-in_err-between_braces : goal.returns-in_err-between_braces
returns-in_err-between_braces g c =
    writes_exit _ _ c.from_residual.ensures.1
    (leaves_front _ _ c.loop-one.invariant (writes_front _ _ c.in_err-between_braces.ensures)
    (next_item (λ (xs : List Line). form_lines c.args.gts.now xs) c.args.lines.now c.loop-one.one-index
    c.one-item.result c.loop-one-test.true c.one-item.is))

pub returns-in_err-write_text : goal.returns-in_err-write_text
returns-in_err-write_text g c =
    writes_exit _ _ c.from_residual-in_err-write_text.ensures.1
    (leaves_front _ _ c.loop-one.invariant (writes_on c.in_ok-between_braces.ensures c.in_err-write_text.ensures)
    (next_item (λ (xs : List Line). form_lines c.args.gts.now xs) c.args.lines.now c.loop-one.one-index
    c.one-item.result c.loop-one-test.true c.one-item.is))

pub loop-one-preserved : goal.loop-one-preserved
loop-one-preserved g c =
    leaves_on _ _ c.loop-one.invariant (writes_on c.in_ok-between_braces.ensures c.in_ok-write_text.ensures)
    (next_item (λ (xs : List Line). form_lines c.args.gts.now xs) c.args.lines.now c.loop-one.one-index
    c.one-item.result c.loop-one-test.true c.one-item.is)

pub returns : goal.returns
returns g c = leaves_none _ c.loop-one.invariant
    (no_item (λ (xs : List Line). form_lines c.args.gts.now xs) c.args.lines.now c.loop-one.one-index
    c.loop-one-test.false)
