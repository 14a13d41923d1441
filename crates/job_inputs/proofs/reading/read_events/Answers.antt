use Rattle.std.proofs.Common.{List, Option, subst, ap, map}
use Rattle.ar_base.specs.NumbersInside.{EventId}
use Rattle.ar_base.proofs.Standing.{stands_within}
use Rattle.job_inputs.specs.Reads.{AnswersEvent}
use Rattle.job_inputs.proofs.VisibleLemmas.{event_there}
use Rattle.job_inputs.proofs.ReadSoFar.{read_none, read_more, read_not, inside_none, inside_more, left_part}
use Rattle.job_inputs.proofs.reading.read_events.Goals as goal

pub loop-rest-init : goal.loop-rest-init
loop-rest-init c = λ x of. (
  read_none x _ _ (ap (λ (z : List EventId). map (λ (n : EventId). n.n) z) c.new-events.ensures.items),
  inside_none c.args.gts.now _ c.new-events.ensures.items,
)

pub returns-in_default-2 : goal.returns-in_default-2
returns-in_default-2 c = λ x of.
    let none = subst (λ (o : Option EventId). AnswersEvent x c.first_piece.result.0.now o) c.in_default-2.is
    (c.in_ok-event.ensures x of) in
    read_not x c.args.text.now _ _ _ _ (left_part _ _ _ _ c.in-Some.is c.first_piece.ensures) none
    (c.loop-rest.invariant x of).0

pub loop-rest-preserved : goal.loop-rest-preserved
loop-rest-preserved c = λ x of.
    let event = c.in-Some-2.event in
    let named = subst (λ (o : Option EventId). AnswersEvent x c.first_piece.result.0.now o) c.in-Some-2.is
    (c.in_ok-event.ensures x of) in
    let there = event_there of.flat event.n named.0.thing named.0.number in
    let inside = stands_within c.args.gts.now.events.items event.n there.part there.stands in
    let before = c.loop-rest.invariant x of in (
      read_more x _ _ _ _ _ _ event (left_part _ _ _ _ c.in-Some.is c.first_piece.ensures) c.in_ok-push.ensures.items
          named.0 before.0,
      inside_more c.args.gts.now _ _ event c.in_ok-push.ensures.items inside before.1,
    )
