use Rattle.bind_names.proofs.Eventful.{own_there, own_none}
use Rattle.bind_names.proofs.event_rules.no_own_event.Goals as goal

pub returns-in-Some : goal.returns-in-Some
returns-in-Some c = λ m units u is at. own_there units c.args.name c.args.at c.in-Some.field-0.n
    (c.in-Some.ensures m units u is at)

pub returns-in-None : goal.returns-in-None
returns-in-None c = λ m units u is at. own_none units c.args.name c.args.at (c.in-None.ensures m units u is at)
