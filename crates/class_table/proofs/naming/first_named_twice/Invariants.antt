use Rattle.class_table.specs.Declaring.{Declared}
use Rattle.class_table.specs.Kinds.{KnowsTypes}
use Rattle.class_table.specs.Shown.{AreMembersListed}
use Rattle.class_table.proofs.Retested.{HasTested}
use Rattle.class_table.proofs.naming.first_named_twice.Given as goal

abbrev pub invariant-loop-body : goal.invariant-loop-body
invariant-loop-body l = (d : Declared) → KnowsTypes d l.types → AreMembersListed d l.bodies
    → HasTested d l.bodies l.body-index l.found
