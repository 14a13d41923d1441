use Rattle.std.proofs.Common.{length}
use Rattle.ar_lexer.specs.declared.token.TokenKind.TheVariants.{Sign}
use Rattle.ar_lexer.specs.declared.signs.TheConstants.{DOT}
use Rattle.expression_grammar.specs.Words.{token, ◌▸◌}
use Rattle.expression_grammar.specs.Texts.{one_of}
use Rattle.ar_grammar.specs.Texts.{is_target_word}
use Rattle.ar_grammar.specs.Members.{ReadsWord}
use Rattle.ar_grammar.specs.Results.{ends_target}
use Rattle.expression_grammar.proofs.Finding.{Gathers}
use Rattle.ar_grammar.proofs.members.more_words.Given as goal

abbrev pub invariant-loop-parser : goal.invariant-loop-parser
invariant-loop-parser l =
    Gathers (λ x. token (Sign DOT) ▸ ReadsWord x) (λ n. token (Sign DOT) ▸ one_of is_target_word) ends_target
    l.fn.target.items l.target.items l.fn.parser.rest.now l.parser.rest.now

abbrev pub decreases-loop-parser : goal.decreases-loop-parser
decreases-loop-parser l = length l.parser.rest.now
