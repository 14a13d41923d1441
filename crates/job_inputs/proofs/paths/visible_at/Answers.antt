use Rattle.std.proofs.Common.{Option, subst}
use Rattle.ar_base.specs.NumbersInside.{EventId}
use Rattle.gts_core.specs.declared.system.GtsParts.{GtsParts}
use Rattle.job_inputs.specs.Reads.{AnswersEvent, IsUnlessHidden}
use Rattle.job_inputs.proofs.VisibleLemmas.{event_visible, none_visible}
use Rattle.job_inputs.proofs.paths.visible_at.Goals as goal

pub returns-in-Some : goal.returns-in-Some
returns-in-Some c = λ x of.
    event_visible of c.args.path.now c.in-Some.event c.unless_hidden.result
    (subst (λ (o : Option EventId). AnswersEvent x c.args.path.now o) c.in-Some.is (c.in_ok-event.ensures x of))
    (subst (λ (p : GtsParts). IsUnlessHidden p c.in-Some.event c.unless_hidden.result) c.parts.ensures.parts
    c.unless_hidden.ensures)

pub returns-in-None : goal.returns-in-None
returns-in-None c = λ x of.
    none_visible of c.args.path.now (subst (λ (o : Option EventId). AnswersEvent x c.args.path.now o) c.in-None.is
    (c.in_ok-event.ensures x of))
