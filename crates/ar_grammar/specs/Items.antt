-- The grammar of domains, items and whole models.
use Rattle.std.specs.Prelude.{◌≡◌, ℕ, ◌≤ℤ◌, ℤ, pos, neg_ℤ, List, [], ◌∷◌}
use Rattle.ar_lexer.specs.declared.token.TokenKind.{TokenKind}
use Rattle.ar_lexer.specs.declared.token.TokenKind.TheVariants.{Whole, Sign, Reserved}
use Rattle.ar_lexer.specs.declared.signs.TheConstants.{OPEN_BRACE, CLOSE_BRACE, OPEN_BRACKET, CLOSE_BRACKET, COMMA, SEMICOLON, MINUS}
use Rattle.ar_lexer.specs.declared.words.TheConstants.{BLOCK, CLASS, DOMAIN}
use Rattle.ar_syntax.specs.declared.items.DomainBody.{DomainBody}
use Rattle.ar_syntax.specs.declared.items.DomainBody.TheVariants as domain
use Rattle.ar_syntax.specs.declared.items.DomainDecl.{DomainDecl}
use Rattle.ar_syntax.specs.declared.items.Item.{Item}
use Rattle.ar_syntax.specs.declared.items.Item.TheVariants as item
use Rattle.expression_grammar.specs.Words.{Form, Tokens, token, nothing, never, ◌▸◌, ◌∣◌, each, between}
use Rattle.expression_grammar.specs.Paths.{ReadsPlacedName, ReadsNames}
use Rattle.ar_grammar.specs.Members.{ReadsBody, ReadsUnit}

-- a whole number, which has no sign
pub record ReadsWhole (z : ℤ) (next : TokenKind) (ts : Tokens) : Type 0 where
  pub no_sign : pos 0 ≤ℤ z
  pub reads : token (Whole z) next ts

-- Bound = [ "-" ] whole
pub data ReadsBound (z : ℤ) (next : TokenKind) (ts : Tokens) : Type 0 where
  whole : ReadsWhole z next ts → ReadsBound z next ts
  negated : (n : ℤ) → z ≡ neg_ℤ n → (token (Sign MINUS) ▸ ReadsWhole n) next ts → ReadsBound z next ts

-- DomainBody = "{" name { "," name } "}" | "[" Bound "," Bound "]"
abbrev pub ReadsDomainBody : DomainBody → Form
ReadsDomainBody (domain.Symbols names) = between (Sign OPEN_BRACE) (Sign CLOSE_BRACE) (ReadsNames names.items)
ReadsDomainBody (domain.Range low high) =
    between (Sign OPEN_BRACKET) (Sign COMMA) (ReadsBound low) ▸ ReadsBound high ▸ token (Sign CLOSE_BRACKET)

-- "domain" name DomainBody [ ";" ]
abbrev pub ReadsDomain : DomainDecl → Form
ReadsDomain d = token (Reserved DOMAIN) ▸ ReadsPlacedName (d.name, d.at) ▸ ReadsDomainBody
    d.body ▸ (nothing ∣ token (Sign SEMICOLON))

-- Item = Domain | "class" name Body "end" | "block" name Body "end"
abbrev pub ReadsItem : ℕ → Item → Form
ReadsItem n (item.Domain d) = ReadsDomain d
ReadsItem n (item.Class u) = token (Reserved CLASS) ▸ ReadsUnit (ReadsBody n) u
ReadsItem n (item.Block u) = token (Reserved BLOCK) ▸ ReadsUnit (ReadsBody n) u

-- Model = Item { Item }
abbrev pub ReadsItems : ℕ → List Item → Form
ReadsItems n [] = never
ReadsItems n (x ∷ more) = ReadsItem n x ▸ each (ReadsItem n) more
