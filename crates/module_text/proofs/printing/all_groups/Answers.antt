use Rattle.std.proofs.Common.{List, ap, sym, subst}
use Rattle.ar_base.specs.Texts.{text_at}
use Rattle.ar_base.proofs.Standing.{one_here, stands_item}
use Rattle.ar_io.proofs.Writing.{writes_exit, writes_on, writes_front, writes_as, leaves_all, leaves_on, leaves_front, leaves_none, next_item, no_item}
use Rattle.gts_core.specs.declared.system.GtsParts.{GtsParts}
use Rattle.module_text.specs.Arranged.{part_lines, groups_lines, LinesInside}
use Rattle.module_text.specs.Texts.{module_line}
use Rattle.module_text.specs.declared.arranging.Line.{Line}
use Rattle.module_text.specs.declared.arranging.Group.{Group}
use Rattle.module_text.proofs.printing.all_groups.Goals as goal

pub loop-one-init : goal.loop-one-init
loop-one-init g c = leaves_all _ _

pub parts-requires-in-loop-one : goal.parts-requires-in-loop-one
parts-requires-in-loop-one g c = subst (λ (z : List Line). LinesInside c.args.gts.now z) (sym c.deref.ensures.value)
    (c.requires.each _
    (one_here c.args.groups.now c.loop-one.one-index c.one-item.result
    (stands_item c.args.groups.now c.loop-one.one-index c.one-item.result c.loop-one-test.true c.one-item.is)))

pub returns-in_err-head : goal.returns-in_err-head
returns-in_err-head g c =
    writes_exit _ _ c.from_residual.ensures.1
    (leaves_front _ _ c.loop-one.invariant (writes_front _ _ (writes_as _ _ (ap (λ (z : GtsParts). module_line (text_at z.units.items c.one-item.result.unit.n)) c.parts.ensures.parts)
    c.in_err-head.ensures))
    (next_item (λ (xs : List Group). groups_lines c.args.gts.now xs) c.args.groups.now c.loop-one.one-index
    c.one-item.result c.loop-one-test.true c.one-item.is))

pub returns-in_err-parts : goal.returns-in_err-parts
returns-in_err-parts g c =
    writes_exit _ _ c.from_residual-in_err-parts.ensures.1
    (leaves_front _ _ c.loop-one.invariant (writes_on (writes_as _ _ (ap (λ (z : GtsParts). module_line (text_at z.units.items c.one-item.result.unit.n)) c.parts.ensures.parts)
    c.in_ok-head.ensures) (writes_as _ _ (ap (λ (z : List Line). part_lines c.args.gts.now z) c.deref.ensures.value) c.in_err-parts.ensures))
    (next_item (λ (xs : List Group). groups_lines c.args.gts.now xs) c.args.groups.now c.loop-one.one-index
    c.one-item.result c.loop-one-test.true c.one-item.is))

pub loop-one-preserved : goal.loop-one-preserved
loop-one-preserved g c =
    leaves_on _ _ c.loop-one.invariant (writes_on (writes_as _ _ (ap (λ (z : GtsParts). module_line (text_at z.units.items c.one-item.result.unit.n)) c.parts.ensures.parts)
    c.in_ok-head.ensures) (writes_as _ _ (ap (λ (z : List Line). part_lines c.args.gts.now z) c.deref.ensures.value) c.in_ok-parts.ensures))
    (next_item (λ (xs : List Group). groups_lines c.args.gts.now xs) c.args.groups.now c.loop-one.one-index
    c.one-item.result c.loop-one-test.true c.one-item.is)

pub returns : goal.returns
returns g c = leaves_none _ c.loop-one.invariant
    (no_item (λ (xs : List Group). groups_lines c.args.gts.now xs) c.args.groups.now c.loop-one.one-index
    c.loop-one-test.false)
