-- What it is to read a text, and where a text that has no reading is refused.
use Rattle.std.specs.Prelude.{◌≡◌, ◌≢◌, ℕ, ◌-◌, List, [], ◌∷◌, ◌++◌, map, take, drop}
use Rattle.ar_base.specs.declared.places.Place.{Place}
use Rattle.ar_base.specs.Counts.{limit_of}
use Rattle.ar_base.specs.declared.counts.Count.TheVariants.{Nesting}
use Rattle.ar_base.specs.Lists.{Stands}
use Rattle.ar_base.specs.Texts.{Interns}
use Rattle.ar_lexer.specs.declared.token.Token.{Token}
use Rattle.ar_lexer.specs.declared.token.TokenKind.TheVariants.{Name, End}
use Rattle.ar_lexer.specs.declared.token.LexFault.{LexFault}
use Rattle.ar_lexer.specs.declared.token.LexFault.TheVariants.{Byte, OpenComment, Number, Memory}
use Rattle.ar_lexer.specs.Tokens.{AreTokens, IsFirstFault, end_of_text, place_after}
use Rattle.ar_syntax.specs.declared.items.Model.{Model}
use Rattle.expression_grammar.specs.declared.lexeme.Lexeme.{Lexeme}
use Rattle.expression_grammar.specs.Words.{Tokens, place_at}
use Rattle.ar_grammar.specs.Items.{ReadsItems}
use Rattle.ar_grammar.specs.Texts.{IsSyntaxAt, IsDepthAt}
use Rattle.ar_parser.specs.declared.fault.ParseFault.TheVariants as fault

-- a token without the number of its name
abbrev pub token_of : Lexeme → Token
token_of l = record { kind = l.kind; span = l.span; at = l.at }

-- the bytes of a token
abbrev pub text_of : List ℕ → Lexeme → List ℕ
text_of bytes l = take (l.span.to - l.span.from) (drop l.span.from bytes)

-- The table `new` is `old` with the text of this token, if it is a name, and the name's number stands for it. A token
-- that is no name has the number 0.
pub data IsNumbered (bytes : List ℕ) (old : List (List ℕ)) (l : Lexeme) (new : List (List ℕ)) : Type 0 where
  name : l.kind ≡ Name → Interns old (text_of bytes l) new → Stands new l.name.n (text_of bytes l)
      → IsNumbered bytes old l new
  other : l.kind ≢ Name → new ≡ old → l.name.n ≡ 0 → IsNumbered bytes old l new

-- The table `new` is `old` with the texts of the names, in the order of their first use, and each name's number stands
-- for its text.
abbrev pub AreNamesNumbered : List ℕ → List (List ℕ) → Tokens → List (List ℕ) → Type 0
AreNamesNumbered bytes old [] new = new ≡ old
AreNamesNumbered bytes old (l ∷ ls) new = (mid : List (List ℕ)) × IsNumbered bytes old l mid × AreNamesNumbered bytes
    mid ls new

-- The tokens of the text but for its end, with the numbers of their names, the table of these, and the place behind the
-- text.
pub record AreLexemes (bytes : List ℕ) (ls : Tokens) (names : List (List ℕ)) (end : Place) : Type 0 where
  pub tokens : AreTokens bytes (map token_of ls ++ end_of_text bytes ∷ [])
  pub names_are : AreNamesNumbered bytes [] ls names
  pub end_is : end ≡ place_after bytes

abbrev pub IsPlaceOf : LexFault → Place → Type 0
IsPlaceOf (Byte p) at = p ≡ at
IsPlaceOf (OpenComment p) at = p ≡ at
IsPlaceOf (Number p) at = p ≡ at
IsPlaceOf Memory at = ⊥

-- the text has no tokens, and its first fault stands here
pub record HasFaultAt (bytes : List ℕ) (at : Place) : Type 0 where
  pub fault : LexFault
  pub first : IsFirstFault bytes fault
  pub there : IsPlaceOf fault at

-- A text has this tree, with at most n productions open at one token.
pub record ReadsWithin (n : ℕ) (bytes : List ℕ) (model : Model) : Type 0 where
  pub lexemes : Tokens
  pub are : AreLexemes bytes lexemes model.names model.end
  pub items : ReadsItems n model.items.items End lexemes

-- A text is read as this tree.
abbrev pub Reads : List ℕ → Model → Type 0
Reads bytes model = ReadsWithin (limit_of Nesting) bytes model

-- A text is refused at the token that stands here: P tells how, of the tokens before it and of those from it on.
pub record IsRefusedAt (P : Tokens → Tokens → Type 0) (bytes : List ℕ) (at : Place) : Type 0 where
  pub front : Tokens
  pub rest : Tokens
  pub names : List (List ℕ)
  pub end : Place
  pub are : AreLexemes bytes (front ++ rest) names end
  pub there : at ≡ place_at end rest
  pub told : P front rest

-- the first token that no text of the grammar goes on with, where none before it opens a production inside 128 others
abbrev pub SyntaxStandsAt : List ℕ → Place → Type 0
SyntaxStandsAt = IsRefusedAt (IsSyntaxAt (limit_of Nesting))

-- the first token that opens a production inside 128 others, where some text of the grammar goes on with it
abbrev pub DepthStandsAt : List ℕ → Place → Type 0
DepthStandsAt = IsRefusedAt (IsDepthAt (limit_of Nesting))
