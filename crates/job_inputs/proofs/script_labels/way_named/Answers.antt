use Rattle.std.proofs.Common.{Option, subst}
use Rattle.ar_base.specs.NumbersInside.{EventId}
use Rattle.gts_core.specs.declared.system.GtsParts.{GtsParts}
use Rattle.job_inputs.specs.Reads.{AnswersVisible, IsWayCount}
use Rattle.job_inputs.specs.declared.script_labels.Counted.TheVariants as count
use Rattle.job_inputs.proofs.VisibleLemmas.{only_way, no_ways}
use Rattle.job_inputs.proofs.script_labels.way_named.Goals as goal

pub returns-in-One : goal.returns-in-One
returns-in-One c = λ x of.
    only_way c.parts.ensures.sound c.args.label.now c.in-Some.event c.in-One.way c.args.line
    (subst (λ (o : Option EventId). AnswersVisible x c.args.gts.now c.args.label.now o) c.in-Some.is
    (c.in_ok-event.ensures x of))
    (subst (λ (p : GtsParts). IsWayCount p c.in-Some.event (count.One c.in-One.way)) c.parts.ensures.parts
    c.in-One.ensures)

pub returns-in-None-ways_of : goal.returns-in-None-ways_of
returns-in-None-ways_of c = λ x of.
    c.way_numbered.ensures x of
    (no_ways c.parts.ensures.sound c.args.label.now c.in-Some.event
    (subst (λ (o : Option EventId). AnswersVisible x c.args.gts.now c.args.label.now o) c.in-Some.is
    (c.in_ok-event.ensures x of))
    (subst (λ (p : GtsParts). IsWayCount p c.in-Some.event count.None) c.parts.ensures.parts c.in-None-ways_of.ensures))

pub returns-in-None : goal.returns-in-None
returns-in-None c = λ x of.
    let none = subst (λ (o : Option EventId). AnswersVisible x c.args.gts.now c.args.label.now o) c.in-None.is
    (c.in_ok-event.ensures x of) in
    c.way_numbered-in-None.ensures x of (λ f ways named. absurd (none f ways named))
