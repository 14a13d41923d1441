use Rattle.std.proofs.Common.{◌≡◌, ◌++◌, length}
use Rattle.ar_lexer.specs.declared.token.TokenKind.TheVariants.{Name, Sign}
use Rattle.ar_lexer.specs.declared.signs.TheConstants.{COMMA}
use Rattle.expression_grammar.specs.Words.{token, ◌▸◌, each}
use Rattle.expression_grammar.specs.Paths.{ReadsPlacedName}
use Rattle.expression_grammar.specs.Results.{Spans}
use Rattle.ar_grammar.specs.Results.{ends_names}
use Rattle.expression_grammar.proofs.Finding.{Loops}
use Rattle.ar_grammar.proofs.names.more_names.Given as goal

abbrev pub invariant-loop-parser : goal.invariant-loop-parser
invariant-loop-parser l =
    (more : _) × (l.names.items ≡ l.fn.names.items ++ more)
    × Spans (each (λ x. token (Sign COMMA) ▸ ReadsPlacedName x) more) l.fn.parser.rest.now l.parser.rest.now
    × Loops (λ _. token (Sign COMMA) ▸ token Name) ends_names l.fn.parser.rest.now l.parser.rest.now

abbrev pub decreases-loop-parser : goal.decreases-loop-parser
decreases-loop-parser l = length l.parser.rest.now
