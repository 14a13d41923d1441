-- The texts of models, without their trees. At most n productions are open at one token. Where one more would open
-- stands a text of the form `cut`: `never` in a text of the grammar, and in what only begins a text one token `deep`.
use Rattle.std.specs.Prelude.{◌≡◌, ℕ, zero, suc, Bool, true, false, not, ◌||◌, ◌&&◌, ◌==◌, ℤ, pos, ◌≤ℤ◌, [], ◌∷◌, ◌++◌}
use Rattle.ar_lexer.specs.declared.token.TokenKind.{TokenKind}
use Rattle.ar_lexer.specs.declared.token.TokenKind.TheVariants.{Name, Whole, Sign, Reserved, End}
use Rattle.ar_lexer.specs.declared.signs.TheConstants.{OPEN_BRACE, CLOSE_BRACE, OPEN_BRACKET, CLOSE_BRACKET, OPEN_PARENTHESIS, CLOSE_PARENTHESIS, COMMA, SEMICOLON, COLON, DOT, EQUALS, ASSIGN, TIE, ARROW, EXCLAMATION, QUESTION, AMPERSAND, MINUS}
use Rattle.ar_lexer.specs.declared.words.TheConstants.{AS, ASSERTION, BLOCK, BOOLEAN, CLASS, CLONES, DOMAIN, ELSE, EMBEDS, END, EVENT, EXTENDS, HIDE, IF, INIT, INTEGER, OBSERVER, PARAMETER, REAL, RESET, SKIP, THEN, TRANSITION}
use Rattle.expression_grammar.specs.declared.lexeme.Lexeme.{Lexeme}
use Rattle.expression_grammar.specs.Words.{Form, Tokens, token, nothing, never, deep, not_before, ◌▸◌, ◌∣◌, many, between}
use Rattle.expression_grammar.specs.Texts.{one_of, list_of, maybe, names_tokens, path_tokens, expr_tokens}

-- Instructions

-- "skip" ";" | Path ( ":=" Expr | ":=:" Path ) ";"
abbrev pub simple_tokens : Form → Form
simple_tokens Expr =
    (token (Reserved SKIP) ▸ token (Sign SEMICOLON))
    ∣ (path_tokens ▸ (between (Sign ASSIGN) (Sign SEMICOLON) Expr ∣ between (Sign TIE) (Sign SEMICOLON) path_tokens))

-- [ "else" Instr ], where an `if` without `else` is not before the token `else`
abbrev pub else_tokens : Form → Form
else_tokens Instr = not_before (Reserved ELSE) ∣ (token (Reserved ELSE) ▸ Instr)

-- "if" Expr "then" Instr [ "else" Instr ]
abbrev pub conditional_tokens : Form → Form → Form
conditional_tokens Expr Instr = between (Reserved IF) (Reserved THEN) Expr ▸ Instr ▸ else_tokens Instr

-- "{" { Instr } "}"
abbrev pub group_tokens : Form → Form
group_tokens Instr = between (Sign OPEN_BRACE) (Sign CLOSE_BRACE) (many Instr)

pub data instr_of (Expr Instr : Form) (next : TokenKind) (ts : Tokens) : Type 0 where
  simple : simple_tokens Expr next ts → instr_of Expr Instr next ts
  group : group_tokens Instr next ts → instr_of Expr Instr next ts
  conditional : conditional_tokens Expr Instr next ts → instr_of Expr Instr next ts

abbrev pub instr_tokens : Form → ℕ → TokenKind → Tokens → Type 0
instr_tokens cut zero next ts = cut next ts
instr_tokens cut (suc n) next ts = instr_of (expr_tokens cut n) (instr_tokens cut n) next ts

-- Members

-- Type = "Boolean" | "Integer" | name
abbrev pub is_type : TokenKind → Bool
is_type Name = true
is_type (Reserved w) = (w == BOOLEAN) || (w == INTEGER)
is_type _ = false

-- Word = name | "init" | "reset"
abbrev pub is_target_word : TokenKind → Bool
is_target_word Name = true
is_target_word (Reserved w) = (w == INIT) || (w == RESET)
is_target_word _ = false

-- Setting = Word { "." Word } "=" Expr;  [ "(" Setting { "," Setting } ")" ]
abbrev pub setting_tokens : Form → Form
setting_tokens Expr = list_of (Sign DOT) (one_of is_target_word) ▸ token (Sign EQUALS) ▸ Expr

abbrev pub settings_tokens : Form → Form
settings_tokens Expr = maybe (between (Sign OPEN_PARENTHESIS) (Sign CLOSE_PARENTHESIS)
    (list_of (Sign COMMA) (setting_tokens Expr)))

-- any token but "(" and ")", and but ";" too where the text is kept
abbrev pub is_unread : TokenKind → Bool
is_unread (Sign s) = not (s == OPEN_PARENTHESIS) && not (s == CLOSE_PARENTHESIS)
is_unread End = false
is_unread _ = true

abbrev pub is_kept : TokenKind → Bool
is_kept (Sign s) = not (s == OPEN_PARENTHESIS) && (not (s == CLOSE_PARENTHESIS) && not (s == SEMICOLON))
is_kept End = false
is_kept _ = true

-- "(" Unread ")"
abbrev pub bracketed_tokens : Form → ℕ → TokenKind → Tokens → Type 0
bracketed_tokens cut zero next ts = cut next ts
bracketed_tokens cut (suc n) next ts =
    between (Sign OPEN_PARENTHESIS) (Sign CLOSE_PARENTHESIS) (many (one_of is_unread ∣ bracketed_tokens cut n)) next ts

-- Kept = Piece { Piece }, Piece = any token but "(", ")" and ";" | "(" Unread ")"
abbrev pub kept_tokens : Form → Form
kept_tokens Bracketed = (one_of is_kept ∣ Bracketed) ▸ many (one_of is_kept ∣ Bracketed)

-- Names [ Settings ] ";"
abbrev pub declared_rest : Form → Form
declared_rest Expr = names_tokens ▸ settings_tokens Expr ▸ token (Sign SEMICOLON)

-- "=" Expr ";"
abbrev pub valued_tokens : Form → Form
valued_tokens Expr = one_of is_type ▸ token Name ▸ between (Sign EQUALS) (Sign SEMICOLON) Expr

-- Transition = name ":" ( Part { "&" Part } ";" | Expr "->" Instr ), Part = ( "!" | "?" ) Path
abbrev pub is_part : TokenKind → Bool
is_part (Sign s) = (s == EXCLAMATION) || (s == QUESTION)
is_part _ = false

abbrev pub transition_tokens : Form → Form → Form
transition_tokens Expr Instr =
    token Name ▸ token (Sign COLON)
    ▸ ((list_of (Sign AMPERSAND) (one_of is_part ▸ path_tokens) ▸ token (Sign SEMICOLON))
    ∣ (Expr ▸ token (Sign ARROW) ▸ Instr))

-- Section = "transition" { Transition } | "assertion" { Instr }
abbrev pub section_tokens : Form → Form → Form
section_tokens Expr Instr = (token (Reserved TRANSITION) ▸ many (transition_tokens Expr Instr)) ∣
    (token (Reserved ASSERTION) ▸ many Instr)

-- name Body "end"
abbrev pub unit_tokens : Form → Form
unit_tokens Body = token Name ▸ Body ▸ token (Reserved END)

-- A clause that begins with a reserved word.
pub data keyed_tokens (Expr Bracketed Body : Form) (next : TokenKind) (ts : Tokens) : Type 0 where
  extends : (token (Reserved EXTENDS) ▸ token Name ▸ token (Sign SEMICOLON)) next ts
      → keyed_tokens Expr Bracketed Body next ts
  boolean : (token (Reserved BOOLEAN) ▸ declared_rest Expr) next ts → keyed_tokens Expr Bracketed Body next ts
  clones : (token (Reserved CLONES) ▸ path_tokens ▸ between (Reserved AS) (Sign SEMICOLON) (token Name)) next ts
      → keyed_tokens Expr Bracketed Body next ts
  embeds : (token (Reserved EMBEDS) ▸ path_tokens ▸ between (Reserved AS) (Sign SEMICOLON) (token Name)) next ts
      → keyed_tokens Expr Bracketed Body next ts
  kept : (token (Reserved PARAMETER) ▸ token (Reserved REAL) ▸ token Name ▸ between (Sign EQUALS) (Sign SEMICOLON)
      (kept_tokens Bracketed)) next ts → keyed_tokens Expr Bracketed Body next ts
  parameter : (token (Reserved PARAMETER) ▸ valued_tokens Expr) next ts → keyed_tokens Expr Bracketed Body next ts
  observer : (token (Reserved OBSERVER) ▸ valued_tokens Expr) next ts → keyed_tokens Expr Bracketed Body next ts
  block : (token (Reserved BLOCK) ▸ unit_tokens Body) next ts → keyed_tokens Expr Bracketed Body next ts
  event : between (Reserved EVENT) (Sign SEMICOLON) (list_of (Sign COMMA) (token Name ▸ maybe Bracketed)) next ts
      → keyed_tokens Expr Bracketed Body next ts
  hide : between (Reserved HIDE) (Sign SEMICOLON) (list_of (Sign COMMA) path_tokens) next ts
      → keyed_tokens Expr Bracketed Body next ts

-- Body = { Keyed | name Names [ Settings ] ";" } [ Section { Section | Keyed } ]
abbrev pub body_made_of : Form → Form → Form → Form → Form
body_made_of Expr Instr Bracketed Body =
    many (keyed_tokens Expr Bracketed Body ∣ (token Name ▸ declared_rest Expr))
    ▸ maybe (section_tokens Expr Instr ▸ many (section_tokens Expr Instr ∣ keyed_tokens Expr Bracketed Body))

-- An empty body is open nowhere.
abbrev pub body_tokens : Form → ℕ → TokenKind → Tokens → Type 0
body_tokens cut zero next ts = (nothing ∣ cut) next ts
body_tokens cut (suc n) next ts = body_made_of (expr_tokens cut n) (instr_tokens cut n) (bracketed_tokens cut n)
    (body_tokens cut n) next ts

-- Items

-- Bound = [ "-" ] whole
pub record whole_tokens (next : TokenKind) (ts : Tokens) : Type 0 where
  pub z : ℤ
  pub no_sign : pos 0 ≤ℤ z
  pub reads : token (Whole z) next ts

abbrev pub bound_tokens : Form
bound_tokens = whole_tokens ∣ (token (Sign MINUS) ▸ whole_tokens)

-- "domain" name ( "{" Names "}" | "[" Bound "," Bound "]" ) [ ";" ]
abbrev pub domain_tokens : Form
domain_tokens =
    token (Reserved DOMAIN) ▸ token Name
    ▸ (between (Sign OPEN_BRACE) (Sign CLOSE_BRACE) names_tokens ∣
    (between (Sign OPEN_BRACKET) (Sign COMMA) bound_tokens ▸ bound_tokens ▸ token (Sign CLOSE_BRACKET)))
    ▸ maybe (token (Sign SEMICOLON))

abbrev pub item_tokens : Form → ℕ → Form
item_tokens cut n = domain_tokens ∣ (token (Reserved CLASS) ▸ unit_tokens (body_tokens cut n)) ∣
    (token (Reserved BLOCK) ▸ unit_tokens (body_tokens cut n))

-- Model = Item { Item }
abbrev pub model_tokens : Form → ℕ → Form
model_tokens cut n = item_tokens cut n ▸ many (item_tokens cut n)

-- The places of refusals

-- The tokens begin a text of the grammar, of some nesting.
pub record Viable (front : Tokens) : Type 0 where
  pub n : ℕ
  pub more : Tokens
  pub reads : model_tokens never n End (front ++ more)

-- The tokens begin a text of the grammar, and none of them opens a production inside n others.
pub record FitsNesting (n : ℕ) (front : Tokens) : Type 0 where
  pub more : Tokens
  pub reads : model_tokens deep n End (front ++ more)

-- No text of the grammar goes on so: not with this token, and where there is none the tokens are no text.
abbrev pub Ends : Tokens → Tokens → Type 0
Ends front [] = (n : ℕ) → model_tokens never n End front → ⊥
Ends front (t ∷ rest) = Viable (front ++ t ∷ []) → ⊥

-- A refusal at the first of `rest`: no text goes on with it, and no token before it opens a production inside n others.
pub record IsSyntaxAt (n : ℕ) (front rest : Tokens) : Type 0 where
  pub fits : FitsNesting n front
  pub ends : Ends front rest

-- A refusal at the first of `rest`: it is the first token that opens a production inside n others, and some text goes
-- on with it.
pub record IsDepthAt (n : ℕ) (front rest : Tokens) : Type 0 where
  pub t : Lexeme
  pub back : Tokens
  pub is : rest ≡ t ∷ back
  pub fits : FitsNesting n front
  pub viable : Viable (front ++ t ∷ [])
  pub too_deep : FitsNesting n (front ++ t ∷ []) → ⊥
