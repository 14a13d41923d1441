-- Names and paths.
use Rattle.std.specs.Prelude.{◌≡◌, List, [], ◌∷◌}
use Rattle.ar_base.specs.declared.places.Place.{Place}
use Rattle.ar_lexer.specs.declared.token.TokenKind.{TokenKind}
use Rattle.ar_lexer.specs.declared.token.TokenKind.TheVariants.{Name, Sign, Reserved}
use Rattle.ar_lexer.specs.declared.signs.TheConstants.{DOT, COMMA}
use Rattle.ar_lexer.specs.declared.words.TheConstants.{OWNER, MAIN}
use Rattle.ar_syntax.specs.declared.paths.Path.{Path}
use Rattle.ar_syntax.specs.declared.paths.PathStart.{PathStart}
use Rattle.ar_syntax.specs.declared.paths.PathStart.TheVariants.{Here, Owner, Main}
use Rattle.expression_grammar.specs.declared.lexeme.Lexeme.{Lexeme}
use Rattle.ar_base.specs.Numbers.{NameId}
use Rattle.expression_grammar.specs.Words.{Tokens, Form, token, nothing, ◌▸◌, separated_by, standing}

-- name
pub record ReadsName (name : NameId) (next : TokenKind) (ts : Tokens) : Type 0 where
  pub one : Lexeme
  pub alone : ts ≡ one ∷ []
  pub of_kind : one.kind ≡ Name
  pub number : name ≡ one.name

-- name, with its place
pub record ReadsPlacedName (name : NameId × Place) (next : TokenKind) (ts : Tokens) : Type 0 where
  pub one : Lexeme
  pub alone : ts ≡ one ∷ []
  pub of_kind : one.kind ≡ Name
  pub number : name.0 ≡ one.name
  pub place : name.1 ≡ one.at

-- Names = name { "," name }
abbrev pub ReadsNames : List (NameId × Place) → Form
ReadsNames names = separated_by (Sign COMMA) ReadsPlacedName names

-- Path = [ ( "owner" | "main" ) "." ] name { "." name }
abbrev pub ReadsStart : PathStart → Form
ReadsStart Here = nothing
ReadsStart Owner = token (Reserved OWNER) ▸ token (Sign DOT)
ReadsStart Main = token (Reserved MAIN) ▸ token (Sign DOT)

abbrev pub ReadsPath : Path → Form
ReadsPath p = standing p.at (ReadsStart p.start ▸ separated_by (Sign DOT) ReadsName p.names.items)
