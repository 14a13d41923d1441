use Rattle.event_order.proofs.Naming.{has_number, has_none}
use Rattle.event_order.proofs.numbers.Numbers.has.Goals as goal

pub returns-clause-yes : goal.returns-clause-yes
returns-clause-yes c = λ h.
    has_number c.args.self.now.names.items c.args.self.now.numbers c.requires c.args.event c.contains_key.result
    c.contains_key.ensures h

pub returns-clause-no : goal.returns-clause-no
returns-clause-no c = λ h.
    has_none c.args.self.now.names.items c.args.self.now.numbers c.requires c.args.event c.contains_key.result
    c.contains_key.ensures h
