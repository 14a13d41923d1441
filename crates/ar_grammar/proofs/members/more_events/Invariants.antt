use Rattle.std.proofs.Common.{length}
use Rattle.ar_lexer.specs.declared.token.TokenKind.TheVariants.{Sign}
use Rattle.ar_lexer.specs.declared.signs.TheConstants.{COMMA}
use Rattle.expression_grammar.specs.Words.{token, ◌▸◌}
use Rattle.ar_grammar.specs.Members.{ReadsEvent}
use Rattle.ar_grammar.specs.Results.{ends_semicolon}
use Rattle.expression_grammar.proofs.Finding.{Gathers}
use Rattle.ar_grammar.proofs.members.more_events.Given as goal
use Rattle.ar_grammar.specs.Parts.{event_tokens}

abbrev pub invariant-loop-parser : goal.invariant-loop-parser
invariant-loop-parser l =
    Gathers (λ x. token (Sign COMMA) ▸ ReadsEvent l.left x) (λ n. token (Sign COMMA) ▸ event_tokens n) ends_semicolon
    l.fn.members.items l.members.items l.fn.parser.rest.now l.parser.rest.now

abbrev pub decreases-loop-parser : goal.decreases-loop-parser
decreases-loop-parser l = length l.parser.rest.now
