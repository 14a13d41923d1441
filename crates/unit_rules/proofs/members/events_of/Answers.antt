use Rattle.std.proofs.Common.{sym, ap}
use Rattle.ar_syntax.specs.declared.members.Member.{out-Member}
use Rattle.unit_rules.specs.Counting.{capped}
use Rattle.unit_rules.proofs.Names.{events_none}
use Rattle.unit_rules.proofs.members.events_of.Goals as goal

pub returns-in-Declare : goal.returns-in-Declare
unfolding out-Member denote.Hole.Carrier.out
returns-in-Declare c = λ d s. rw c.in-Declare.is
    (ap capped (sym (events_none d s c.in-Declare.field-2.items c.in-Declare.field-1.items c.in-Declare.field-0.form)))
