use Rattle.class_table.specs.Declaring.{Declared}
use Rattle.class_table.specs.Shown.{Shows, AreMembersListed}
use Rattle.class_table.proofs.GivenNames.{KnowsFirst}
use Rattle.class_table.proofs.given.Given.new.Given as goal

abbrev pub invariant-loop-body : goal.invariant-loop-body
invariant-loop-body l = (d : Declared) → Shows d l.bodies l.types → AreMembersListed d l.bodies
    → KnowsFirst d l.body-index l.given
