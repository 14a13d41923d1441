use Rattle.std.proofs.Common.{length}
use Rattle.ar_lexer.specs.declared.token.TokenKind.TheVariants.{Sign}
use Rattle.ar_lexer.specs.declared.signs.TheConstants.{COMMA}
use Rattle.expression_grammar.specs.Words.{token, deep, ◌▸◌}
use Rattle.expression_grammar.specs.Texts.{expr_tokens}
use Rattle.ar_grammar.specs.Texts.{setting_tokens}
use Rattle.ar_grammar.specs.Members.{ReadsSetting}
use Rattle.expression_grammar.specs.Results.{ends_list}
use Rattle.expression_grammar.proofs.Finding.{Gathers}
use Rattle.ar_grammar.proofs.members.more_settings.Given as goal

abbrev pub invariant-loop-parser : goal.invariant-loop-parser
invariant-loop-parser l =
    Gathers (λ x. token (Sign COMMA) ▸ ReadsSetting l.left x)
    (λ n. token (Sign COMMA) ▸ setting_tokens (expr_tokens deep n))
    ends_list l.fn.settings.items l.settings.items l.fn.parser.rest.now l.parser.rest.now

abbrev pub decreases-loop-parser : goal.decreases-loop-parser
decreases-loop-parser l = length l.parser.rest.now
