use Rattle.std.proofs.Common.{◌+◌, List, codes, drop, get_or}
use Rattle.ar_io.proofs.Writing.{writes_exit, writes_on, writes_front, leaves_all, leaves_on, leaves_front, leaves_none, next_read, no_item}
use Rattle.ar_base.specs.Numbers.{WayId}
use Rattle.ar_base.specs.Texts.{line}
use Rattle.text_pieces.specs.WayLabels.{way_label}
use Rattle.replayer.specs.Printing.{way_lines}
use Rattle.replayer.proofs.enabled.way_lines.Goals as goal

pub loop-way-init : goal.loop-way-init
loop-way-init g c = leaves_all _ _

pub returns-in_err-write_text : goal.returns-in_err-write_text
returns-in_err-write_text g c =
    let ways = c.args.ways.now in
    let i = c.loop-way.way-index in
    let none : WayId = record { n = 0; of = record {} } in
    let rest = line (way_label c.args.gts.now (get_or ways i none).n) in
    writes_exit _ _ c.from_residual.ensures.1
    (leaves_front _ (way_lines c.args.gts.now (drop (i + 1) ways)) c.loop-way.invariant
    (writes_front (codes "  ") rest c.in_err-write_text.ensures)
    (next_read (λ (xs : List WayId). way_lines c.args.gts.now xs) ways i none c.loop-way-test.true))

pub returns-in_err-print_label : goal.returns-in_err-print_label
returns-in_err-print_label g c =
    writes_exit _ _ c.from_residual-in_err-print_label.ensures.1
    (leaves_front _ _ c.loop-way.invariant (writes_on c.in_ok-write_text.ensures (writes_front _ _
    c.in_err-print_label.ensures))
    (next_read (λ (xs : List WayId). way_lines c.args.gts.now xs) c.args.ways.now c.loop-way.way-index _
    c.loop-way-test.true))

pub returns-in_err-write_text-2 : goal.returns-in_err-write_text-2
returns-in_err-write_text-2 g c =
    writes_exit _ _ c.from_residual-in_err-write_text-2.ensures.1
    (leaves_front _ _ c.loop-way.invariant (writes_on c.in_ok-write_text.ensures
    (writes_on c.in_ok-print_label.ensures c.in_err-write_text-2.ensures))
    (next_read (λ (xs : List WayId). way_lines c.args.gts.now xs) c.args.ways.now c.loop-way.way-index _
    c.loop-way-test.true))

pub loop-way-preserved : goal.loop-way-preserved
loop-way-preserved g c =
    leaves_on _ _ c.loop-way.invariant (writes_on c.in_ok-write_text.ensures
    (writes_on c.in_ok-print_label.ensures c.in_ok-write_text-2.ensures))
    (next_read (λ (xs : List WayId). way_lines c.args.gts.now xs) c.args.ways.now c.loop-way.way-index _
    c.loop-way-test.true)

pub returns : goal.returns
returns g c =
    leaves_none _ c.loop-way.invariant
    (no_item (λ (xs : List WayId). way_lines c.args.gts.now xs) c.args.ways.now c.loop-way.way-index
    c.loop-way-test.false)
