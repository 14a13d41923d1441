use Rattle.bind_names.proofs.Eventful.{event_there, event_none}
use Rattle.bind_names.proofs.event_rules.no_event.Goals as goal

pub returns-in-Some : goal.returns-in-Some
returns-in-Some c = λ m units u is at. event_there units c.args.path.now c.in-Some.field-0.n
    (rw c.deref.ensures.value at (c.in-Some.ensures m units u is at))

pub returns-in-None : goal.returns-in-None
returns-in-None c = λ m units u is at. event_none units c.args.path.now
    (rw c.deref.ensures.value at (c.in-None.ensures m units u is at))
