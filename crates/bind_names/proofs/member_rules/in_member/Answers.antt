use Rattle.std.proofs.Common.{ap}
use Rattle.ar_syntax.specs.declared.members.Member.{out-Member}
use Rattle.source_meaning.specs.Tested as s
use Rattle.bind_scopes.specs.Scopes.{everything}
use Rattle.bind_names.proofs.Membered.{local_member, assert_member, other_member}
use Rattle.bind_names.proofs.member_rules.in_member.Goals as goal

pub returns-in-Local : goal.returns-in-Local
unfolding out-Member denote.Hole.Carrier.out
returns-in-Local c = λ m units u are at.
    local_member m c.args.rule u (out-Member c.args.member.now) c.in-Local.field-0 c.in-Local.field-1 c.in-Local.guard
    c.in-Local.action c.in_event-event.result c.in_expression-test.result c.in_action.result
    c.earliest.result c.earliest-in-Local.result (ap out-Member c.in-Local.is)
    (c.in_event-event.ensures m units u are.is_tree at)
    (c.in_expression-test.ensures m units u s.Everything are at everything) (c.in_action.ensures m units u are at)
    c.earliest.ensures c.earliest-in-Local.ensures

pub returns-in-Assert : goal.returns-in-Assert
unfolding out-Member denote.Hole.Carrier.out
returns-in-Assert c = λ m units u are at.
    assert_member m c.args.rule u (out-Member c.args.member.now) c.in-Assert.instr c.in_event-event.result
    c.in_assertion.result c.earliest-in-Assert.result (ap out-Member c.in-Assert.is)
    (c.in_event-event.ensures m units u are.is_tree at) (c.in_assertion.ensures m units u are at)
    c.earliest-in-Assert.ensures

pub returns-in_default : goal.returns-in_default
returns-in_default c = λ m units u are at. other_member m c.args.rule u c.args.member.now c.in_event-event.result
    c.in_default.not-Local c.in_default.not-Assert (c.in_event-event.ensures m units u are.is_tree at)
