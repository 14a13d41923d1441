use Rattle.unit_rules.specs.Naming.{none}
use Rattle.unit_rules.proofs.naming.add_declared.Goals as goal

pub returns-in-Named : goal.returns-in-Named
returns-in-Named c = λ m units u a s. rw c.in-Named.is (c.add_all.ensures m units u a s)

pub returns-in-Boolean : goal.returns-in-Boolean
returns-in-Boolean c = λ m units u a s. rw c.in-Boolean.is none

pub returns-in-Integer : goal.returns-in-Integer
returns-in-Integer c = λ m units u a s. rw c.in-Integer.is none
