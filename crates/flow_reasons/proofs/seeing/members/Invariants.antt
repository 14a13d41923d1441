use Rattle.flow_reasons.specs.Answers.{numbers_of}
use Rattle.flow_reasons.specs.Cones.{AreMembers}
use Rattle.flow_reasons.proofs.seeing.members.Given as goal

abbrev pub invariant-loop-place : goal.invariant-loop-place
invariant-loop-place l = AreMembers l.seen l.place (numbers_of l.found.items)
