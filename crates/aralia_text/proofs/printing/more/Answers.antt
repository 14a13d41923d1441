use Rattle.std.proofs.Common.{List, map}
use Rattle.ar_io.proofs.Writing.{writes_exit, writes_on, writes_front, writes_as, leaves_all, leaves_on, leaves_front, leaves_none, next_read, no_item}
use Rattle.eq_core.specs.Views.{all_needed, operand_of}
use Rattle.eq_core.specs.declared.joints.Operand.{Operand}
use Rattle.eq_core.specs.declared.joints.Operand.TheVariants as sign
use Rattle.aralia_text.specs.Texts.{more_text}
use Rattle.aralia_text.proofs.printing.more.Goals as goal

pub loop-one-init : goal.loop-one-init
loop-one-init g c = leaves_all _ _

pub returns-in_err-write_text : goal.returns-in_err-write_text
returns-in_err-write_text g c =
    writes_exit _ _ c.from_residual.ensures.1
    (leaves_front _ _ c.loop-one.invariant
    (writes_front _ _ (writes_as _ _ c.between.ensures c.in_err-write_text.ensures))
    (next_read (λ (xs : List Operand). more_text c.args.events.now (all_needed c.args.joint) (map operand_of xs))
    c.args.operands.now c.loop-one.one-index sign.Always c.loop-one-test.true))

pub returns-in_err-operand : goal.returns-in_err-operand
returns-in_err-operand g c =
    writes_exit _ _ c.from_residual-in_err-operand.ensures.1
    (leaves_front _ _ c.loop-one.invariant
    (writes_on (writes_as _ _ c.between.ensures c.in_ok-write_text.ensures) c.in_err-operand.ensures)
    (next_read (λ (xs : List Operand). more_text c.args.events.now (all_needed c.args.joint) (map operand_of xs))
    c.args.operands.now c.loop-one.one-index _ c.loop-one-test.true))

pub loop-one-preserved : goal.loop-one-preserved
loop-one-preserved g c =
    leaves_on _ _ c.loop-one.invariant
    (writes_on (writes_as _ _ c.between.ensures c.in_ok-write_text.ensures) c.in_ok-operand.ensures)
    (next_read (λ (xs : List Operand). more_text c.args.events.now (all_needed c.args.joint) (map operand_of xs))
    c.args.operands.now c.loop-one.one-index _ c.loop-one-test.true)

pub returns : goal.returns
returns g c =
    leaves_none _ c.loop-one.invariant
    (no_item (λ (xs : List Operand). more_text c.args.events.now (all_needed c.args.joint) (map operand_of xs))
    c.args.operands.now c.loop-one.one-index c.loop-one-test.false)
