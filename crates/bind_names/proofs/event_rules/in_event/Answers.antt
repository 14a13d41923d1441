use Rattle.std.proofs.Common.{ap}
use Rattle.ar_syntax.specs.declared.members.Member.{out-Member}
use Rattle.class_table.specs.Earliest.{nowhere}
use Rattle.bind_names.proofs.Eventful.{hide_misnamed, local_misnamed, sync_misnamed, other_misnamed}
use Rattle.bind_names.proofs.event_rules.in_event.Goals as goal

pub returns-in-Hide : goal.returns-in-Hide
unfolding out-Member denote.Hole.Carrier.out
returns-in-Hide c = λ m units u is at. rw c.in-Names.is (hide_misnamed m u (out-Member c.args.member.now) c.in-Hide.path c.no_event.result
    (ap out-Member c.in-Hide.is) (c.no_event.ensures m units u is at))

pub returns-in-Sync : goal.returns-in-Sync
unfolding out-Member denote.Hole.Carrier.out
returns-in-Sync c = λ m units u is at. rw c.in-Names.is (
    sync_misnamed m u (out-Member c.args.member.now) c.in-Sync.name c.in-Sync.at c.in-Sync.parts c.no_own_event.result
    c.no_event_in.result c.earliest.result (ap out-Member c.in-Sync.is)
    (c.no_own_event.ensures m units u is at) (rw c.deref.ensures.value at (c.no_event_in.ensures m units u is at))
    c.earliest.ensures)

pub returns-in-Local : goal.returns-in-Local
unfolding out-Member denote.Hole.Carrier.out
returns-in-Local c = λ m units u is at. rw c.in-Names.is (
    local_misnamed m u (out-Member c.args.member.now) c.in-Local.name c.in-Local.at c.in-Local.field-2
    c.in-Local.field-3 c.no_own_event-in-Local.result (ap out-Member c.in-Local.is)
    (c.no_own_event-in-Local.ensures m units u is at))

pub returns-in_default : goal.returns-in_default
returns-in_default c = λ m units u is at. rw c.in-Names.is (other_misnamed m u c.args.member.now c.in_default.not-Hide
    c.in_default.not-Sync c.in_default.not-Local)

pub returns-in-Kinds : goal.returns-in-Kinds
returns-in-Kinds c = λ m units u is at. rw c.in-Kinds.is (nowhere (λ p b. b))

pub returns-in-Targets : goal.returns-in-Targets
returns-in-Targets c = λ m units u is at. rw c.in-Targets.is (nowhere (λ p b. b))
