use Rattle.std.proofs.Common.{length}
use Rattle.ar_grammar.specs.Parts.{transition_form}
use Rattle.ar_grammar.specs.Members.{ReadsTransition}
use Rattle.ar_grammar.specs.Results.{ends_transitions}
use Rattle.expression_grammar.proofs.Finding.{Gathers}
use Rattle.ar_grammar.proofs.members.transitions.Given as goal

abbrev pub invariant-loop-parser : goal.invariant-loop-parser
invariant-loop-parser l =
    Gathers (ReadsTransition l.left) transition_form ends_transitions l.fn.members.items l.members.items
    l.fn.parser.rest.now
    l.parser.rest.now

abbrev pub decreases-loop-parser : goal.decreases-loop-parser
decreases-loop-parser l = length l.parser.rest.now
