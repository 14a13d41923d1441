use Rattle.std.proofs.Common.{length}
use Rattle.expression_grammar.specs.Words.{deep}
use Rattle.ar_grammar.specs.Texts.{instr_tokens}
use Rattle.ar_grammar.specs.Members.{ReadsAssertion}
use Rattle.ar_grammar.specs.Results.{ends_assertions}
use Rattle.expression_grammar.proofs.Finding.{Gathers}
use Rattle.ar_grammar.proofs.members.assertions.Given as goal

abbrev pub invariant-loop-parser : goal.invariant-loop-parser
invariant-loop-parser l =
    Gathers (ReadsAssertion l.left) (instr_tokens deep) ends_assertions l.fn.members.items l.members.items
    l.fn.parser.rest.now
    l.parser.rest.now

abbrev pub decreases-loop-parser : goal.decreases-loop-parser
decreases-loop-parser l = length l.parser.rest.now
