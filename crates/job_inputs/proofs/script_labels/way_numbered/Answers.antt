use Rattle.std.proofs.Common.{Option, subst}
use Rattle.ar_base.specs.NumbersInside.{EventId}
use Rattle.gts_core.specs.declared.system.GtsParts.{GtsParts}
use Rattle.job_inputs.specs.Reads.{AnswersVisible, IsNumberedWay, IsNoWayOf}
use Rattle.job_inputs.proofs.VisibleLemmas.{numbered_way, no_mark_label, no_path_label, no_way_label}
use Rattle.job_inputs.proofs.script_labels.way_numbered.Goals as goal

pub returns-in_default : goal.returns-in_default
returns-in_default c = λ x of nothing. no_mark_label c.args.gts.now c.args.label.now c.args.line nothing
    c.in_default.ensures.none

pub returns-in_default-2 : goal.returns-in_default-2
returns-in_default-2 c = λ x of nothing.
    no_path_label c.args.gts.now c.args.label.now c.in-Some.path.now c.in-Some.digits.now c.args.line
    c.in-Some.ensures.found c.in-Some.ensures.last nothing
    (subst (λ (o : Option EventId). AnswersVisible x c.args.gts.now c.in-Some.path.now o) c.in_default-2.is
    (c.in_ok-event.ensures x of))

pub returns-in-Some-way_at : goal.returns-in-Some-way_at
returns-in-Some-way_at c = λ x of nothing.
    numbered_way c.parts.ensures.sound c.args.label.now c.in-Some.path.now c.in-Some.digits.now c.in-Some-2.event
    c.in-Some-way_at.way c.args.line c.in-Some.ensures.found nothing
    (subst (λ (o : Option EventId). AnswersVisible x c.args.gts.now c.in-Some.path.now o) c.in-Some-2.is
    (c.in_ok-event.ensures x of))
    (subst (λ (p : GtsParts). IsNumberedWay p c.in-Some-2.event c.in-Some.digits.now c.in-Some-way_at.way)
    c.parts.ensures.parts c.in-Some-way_at.ensures)

pub returns-in-None : goal.returns-in-None
returns-in-None c = λ x of nothing.
    no_way_label c.args.gts.now c.args.label.now c.in-Some.path.now c.in-Some.digits.now c.in-Some-2.event c.args.line
    c.in-Some.ensures.found c.in-Some.ensures.last nothing
    (subst (λ (o : Option EventId). AnswersVisible x c.args.gts.now c.in-Some.path.now o) c.in-Some-2.is
    (c.in_ok-event.ensures x of))
    (subst (λ (p : GtsParts). IsNoWayOf p c.in-Some-2.event c.in-Some.digits.now) c.parts.ensures.parts
    c.in-None.ensures)
