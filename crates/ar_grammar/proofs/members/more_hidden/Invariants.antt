use Rattle.std.proofs.Common.{length}
use Rattle.ar_lexer.specs.declared.token.TokenKind.TheVariants.{Sign}
use Rattle.ar_lexer.specs.declared.signs.TheConstants.{COMMA}
use Rattle.expression_grammar.specs.Words.{token, ◌▸◌}
use Rattle.ar_grammar.specs.Members.{ReadsHidden}
use Rattle.ar_grammar.specs.Results.{ends_semicolon}
use Rattle.expression_grammar.proofs.Finding.{Gathers}
use Rattle.ar_grammar.proofs.members.more_hidden.Given as goal
use Rattle.expression_grammar.specs.Texts.{path_tokens}

abbrev pub invariant-loop-parser : goal.invariant-loop-parser
invariant-loop-parser l =
    Gathers (λ x. token (Sign COMMA) ▸ ReadsHidden x) (λ n. token (Sign COMMA) ▸ path_tokens) ends_semicolon
    l.fn.members.items l.members.items l.fn.parser.rest.now l.parser.rest.now

abbrev pub decreases-loop-parser : goal.decreases-loop-parser
decreases-loop-parser l = length l.parser.rest.now
