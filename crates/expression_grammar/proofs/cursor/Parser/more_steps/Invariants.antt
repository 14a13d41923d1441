use Rattle.std.proofs.Common.{◌≡◌, ◌++◌, length}
use Rattle.ar_lexer.specs.declared.token.TokenKind.TheVariants.{Name, Sign}
use Rattle.ar_lexer.specs.declared.signs.TheConstants.{DOT}
use Rattle.expression_grammar.specs.Words.{token, ◌▸◌, each}
use Rattle.expression_grammar.specs.Paths.{ReadsName}
use Rattle.expression_grammar.specs.Results.{Spans, ends_path}
use Rattle.expression_grammar.proofs.Finding.{Loops}
use Rattle.expression_grammar.proofs.cursor.Parser.more_steps.Given as goal

abbrev pub invariant-loop-self : goal.invariant-loop-self
invariant-loop-self l =
    (more : _) × (l.names.items ≡ l.fn.names.items ++ more)
    × Spans (each (λ x. token (Sign DOT) ▸ ReadsName x) more) l.fn.self.rest.now l.self.rest.now
    × Loops (λ _. token (Sign DOT) ▸ token Name) ends_path l.fn.self.rest.now l.self.rest.now
    × (l.self.end ≡ l.fn.self.end)

abbrev pub decreases-loop-self : goal.decreases-loop-self
decreases-loop-self l = length l.self.rest.now
