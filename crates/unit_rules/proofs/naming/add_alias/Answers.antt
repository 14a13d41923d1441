use Rattle.ar_syntax.specs.declared.members.Member.{out-Member}
use Rattle.unit_rules.specs.Naming.{none}
use Rattle.unit_rules.proofs.naming.add_alias.Goals as goal

pub returns-in-Extends : goal.returns-in-Extends
unfolding out-Member denote.Hole.Carrier.out
returns-in-Extends c = λ m units u a s. rw c.in-Plain.is (rw c.in-Extends.is none)

pub returns-in-Declare : goal.returns-in-Declare
unfolding out-Member denote.Hole.Carrier.out
returns-in-Declare c = λ m units u a s. rw c.in-Plain.is (rw c.in-Declare.is none)

pub returns-in-Block : goal.returns-in-Block
unfolding out-Member denote.Hole.Carrier.out
returns-in-Block c = λ m units u a s. rw c.in-Plain.is (rw c.in-Block.is none)

pub returns-in-Clones : goal.returns-in-Clones
unfolding out-Member denote.Hole.Carrier.out
returns-in-Clones c = λ m units u a s. rw c.in-Plain.is (rw c.in-Clones.is none)

pub returns-in-Parameter : goal.returns-in-Parameter
unfolding out-Member denote.Hole.Carrier.out
returns-in-Parameter c = λ m units u a s. rw c.in-Plain.is (rw c.in-Parameter.is none)

pub returns-in-Kept : goal.returns-in-Kept
unfolding out-Member denote.Hole.Carrier.out
returns-in-Kept c = λ m units u a s. rw c.in-Plain.is (rw c.in-Kept.is none)

pub returns-in-Event : goal.returns-in-Event
unfolding out-Member denote.Hole.Carrier.out
returns-in-Event c = λ m units u a s. rw c.in-Plain.is (rw c.in-Event.is none)

pub returns-in-Observer : goal.returns-in-Observer
unfolding out-Member denote.Hole.Carrier.out
returns-in-Observer c = λ m units u a s. rw c.in-Plain.is (rw c.in-Observer.is none)

pub returns-in-Hide : goal.returns-in-Hide
unfolding out-Member denote.Hole.Carrier.out
returns-in-Hide c = λ m units u a s. rw c.in-Plain.is (rw c.in-Hide.is none)

pub returns-in-Local : goal.returns-in-Local
unfolding out-Member denote.Hole.Carrier.out
returns-in-Local c = λ m units u a s. rw c.in-Plain.is (rw c.in-Local.is none)

pub returns-in-Sync : goal.returns-in-Sync
unfolding out-Member denote.Hole.Carrier.out
returns-in-Sync c = λ m units u a s. rw c.in-Plain.is (rw c.in-Sync.is none)

pub returns-in-Assert : goal.returns-in-Assert
unfolding out-Member denote.Hole.Carrier.out
returns-in-Assert c = λ m units u a s. rw c.in-Plain.is (rw c.in-Assert.is none)

pub returns-in-Nested : goal.returns-in-Nested
returns-in-Nested c = λ m units u a s. rw c.in-Nested.is none
