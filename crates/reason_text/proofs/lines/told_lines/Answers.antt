use Rattle.std.proofs.Common.{List, ℕ, Bool}
use Rattle.ar_base.proofs.Standing.{one_here, stands_item}
use Rattle.ar_io.proofs.Writing.{writes_exit, leaves_all, leaves_on, leaves_front, leaves_none, next_item, no_item}
use Rattle.gts_flatten.specs.Flat.{naming_of_parts}
use Rattle.gts_core.specs.declared.system.GtsParts.{GtsParts}
use Rattle.flow_reasons.specs.Answers.{reasons_of}
use Rattle.flow_reasons.specs.declared.reason.Reason.{Reason}
use Rattle.reason_text.specs.Answers.{told_lines}
use Rattle.reason_text.proofs.lines.told_lines.Goals as goal

abbrev rest : GtsParts → List Bool → List Reason → List ℕ
rest p told xs = told_lines (naming_of_parts p) told (reasons_of xs)

pub loop-reason-init : goal.loop-reason-init
loop-reason-init g c = leaves_all _ _

pub told_line-requires : goal.told_line-requires
told_line-requires g c =
    c.requires.each c.reason-item.result (one_here c.args.reasons.now c.loop-reason.reason-index c.reason-item.result
    (stands_item c.args.reasons.now c.loop-reason.reason-index c.reason-item.result c.loop-reason-test.true
    c.reason-item.is))

pub returns-in_err-told_line : goal.returns-in_err-told_line
returns-in_err-told_line g c =
    writes_exit _ _ c.from_residual.ensures.1
    (leaves_front _ _ c.loop-reason.invariant c.in_err-told_line.ensures
    (next_item (rest c.args.parts.now c.args.told.now) c.args.reasons.now c.loop-reason.reason-index
    c.reason-item.result c.loop-reason-test.true c.reason-item.is))

pub loop-reason-preserved : goal.loop-reason-preserved
loop-reason-preserved g c =
    leaves_on _ _ c.loop-reason.invariant c.in_ok-told_line.ensures
    (next_item (rest c.args.parts.now c.args.told.now) c.args.reasons.now c.loop-reason.reason-index
    c.reason-item.result c.loop-reason-test.true c.reason-item.is)

pub returns : goal.returns
returns g c = leaves_none _ c.loop-reason.invariant
    (no_item (rest c.args.parts.now c.args.told.now) c.args.reasons.now c.loop-reason.reason-index
    c.loop-reason-test.false)
