-- Definitions beside those of Members, of which clauses inside the program speak: what the whole program promises does
-- not rest on them.
use Rattle.std.specs.Prelude.{ℕ, zero, suc}
use Rattle.ar_lexer.specs.declared.token.TokenKind.TheVariants.{Sign}
use Rattle.ar_lexer.specs.declared.signs.TheConstants.{OPEN_PARENTHESIS, CLOSE_PARENTHESIS}
use Rattle.expression_grammar.specs.Words.{Form, never, between}
use Rattle.ar_grammar.specs.Members.{unread}

-- "(" Unread ")"
abbrev pub bracketed : ℕ → Form
bracketed zero = never
bracketed (suc n) = between (Sign OPEN_PARENTHESIS) (Sign CLOSE_PARENTHESIS) (unread n)
