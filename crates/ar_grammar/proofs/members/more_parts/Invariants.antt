use Rattle.std.proofs.Common.{length}
use Rattle.ar_lexer.specs.declared.token.TokenKind.TheVariants.{Sign}
use Rattle.ar_lexer.specs.declared.signs.TheConstants.{AMPERSAND}
use Rattle.expression_grammar.specs.Words.{token, ◌▸◌}
use Rattle.ar_grammar.specs.Members.{ReadsPart}
use Rattle.ar_grammar.specs.Results.{ends_semicolon}
use Rattle.expression_grammar.proofs.Finding.{Gathers}
use Rattle.ar_grammar.proofs.members.more_parts.Given as goal
use Rattle.ar_grammar.specs.Parts.{part_tokens}

abbrev pub invariant-loop-parser : goal.invariant-loop-parser
invariant-loop-parser l =
    Gathers (λ x. token (Sign AMPERSAND) ▸ ReadsPart x) (λ n. token (Sign AMPERSAND) ▸ part_tokens) ends_semicolon
    l.fn.parts.items l.parts.items l.fn.parser.rest.now l.parser.rest.now

abbrev pub decreases-loop-parser : goal.decreases-loop-parser
decreases-loop-parser l = length l.parser.rest.now
