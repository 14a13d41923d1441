-- The grammar of the members of a unit.
use Rattle.std.specs.Prelude.{◌≡◌, ◌≢◌, ℕ, zero, suc, if◌then◌else◌, Option, Some, None, List, [], ◌∷◌, ◌++◌, Vec}
use Rattle.std.specs.declared.alloc.Global.{Global}
use Rattle.ar_base.specs.declared.places.Place.{Place}
use Rattle.ar_base.specs.declared.places.Span.{Span}
use Rattle.ar_lexer.specs.declared.token.TokenKind.{TokenKind}
use Rattle.ar_lexer.specs.declared.token.TokenKind.TheVariants.{Sign, Reserved, End}
use Rattle.ar_lexer.specs.declared.signs.TheConstants.{OPEN_PARENTHESIS, CLOSE_PARENTHESIS, COMMA, SEMICOLON, COLON, DOT, EQUALS, ARROW, EXCLAMATION, QUESTION, AMPERSAND}
use Rattle.ar_lexer.specs.declared.words.TheConstants.{AS, ASSERTION, BLOCK, BOOLEAN, CLONES, EMBEDS, END, EVENT, EXTENDS, HIDE, INIT, INTEGER, OBSERVER, PARAMETER, REAL, RESET, TRANSITION}
use Rattle.ar_syntax.specs.declared.paths.Path.{Path}
use Rattle.ar_syntax.specs.declared.expressions.RawExpr.{RawExpr}
use Rattle.ar_syntax.specs.declared.instructions.Instr.{Instr}
use Rattle.ar_syntax.specs.declared.members.Member.{Member}
use Rattle.ar_syntax.specs.declared.members.Member.TheVariants as member
use Rattle.ar_syntax.specs.declared.members.Part.{Part}
use Rattle.ar_syntax.specs.declared.members.Setting.{Setting}
use Rattle.ar_syntax.specs.declared.members.TypeForm.{TypeForm}
use Rattle.ar_syntax.specs.declared.members.TypeForm.TheVariants as type_form
use Rattle.ar_syntax.specs.declared.members.TypeName.{TypeName}
use Rattle.ar_syntax.specs.declared.members.Unit.{Unit as UnitTree}
use Rattle.ar_syntax.specs.declared.members.Word.{Word}
use Rattle.ar_syntax.specs.declared.members.Word.TheVariants as word
use Rattle.expression_grammar.specs.declared.lexeme.Lexeme.{Lexeme}
use Rattle.ar_base.specs.Numbers.{NameId}
use Rattle.expression_grammar.specs.Words.{Form, Tokens, token, nothing, never, ◌▸◌, ◌∣◌, each, many, groups, separated_by, between, standing, covering}
use Rattle.expression_grammar.specs.Paths.{ReadsName, ReadsPlacedName, ReadsNames, ReadsPath}
use Rattle.expression_grammar.specs.Expressions.{Node, ReadsExpr}
use Rattle.ar_grammar.specs.Instructions.{ReadsInstr}

-- Type = "Boolean" | "Integer" | name
abbrev pub ReadsTypeForm : TypeForm → Form
ReadsTypeForm type_form.Boolean = token (Reserved BOOLEAN)
ReadsTypeForm type_form.Integer = token (Reserved INTEGER)
ReadsTypeForm (type_form.Named name) = ReadsName name

abbrev pub ReadsType : TypeName → Form
ReadsType type = standing type.at (ReadsTypeForm type.form)

-- Word = name | "init" | "reset"
abbrev pub ReadsWord : Word → Form
ReadsWord (word.Name name) = ReadsName name
ReadsWord word.Init = token (Reserved INIT)
ReadsWord word.Reset = token (Reserved RESET)

-- Setting = Word { "." Word } "=" Expr
abbrev pub ReadsSetting : ℕ → Setting → Form
ReadsSetting n s = standing s.at (separated_by (Sign DOT) ReadsWord s.target.items) ▸ token (Sign EQUALS) ▸ Node
    (ReadsExpr n) s.value

-- [ Settings ], Settings = "(" Setting { "," Setting } ")"
abbrev pub ReadsSettings : ℕ → List Setting → Form
ReadsSettings n [] = nothing
ReadsSettings n (s ∷ more) = between (Sign OPEN_PARENTHESIS) (Sign CLOSE_PARENTHESIS)
    (separated_by (Sign COMMA) (ReadsSetting n) (s ∷ more))

-- any token but "(" and ")"
pub record plain_token (next : TokenKind) (ts : Tokens) : Type 0 where
  pub one : Lexeme
  pub alone : ts ≡ one ∷ []
  pub no_open : one.kind ≢ Sign OPEN_PARENTHESIS
  pub no_close : one.kind ≢ Sign CLOSE_PARENTHESIS
  pub no_end : one.kind ≢ End

-- any token but "(", ")" and ";"
pub record kept_token (next : TokenKind) (ts : Tokens) : Type 0 where
  pub plain : plain_token next ts
  pub no_semicolon : plain.one.kind ≢ Sign SEMICOLON

-- Unread = { any token but "(" and ")" | "(" Unread ")" }, with at most n brackets open at one token
abbrev pub unread_piece : ℕ → TokenKind → Tokens → Type 0
unread_piece zero next ts = plain_token next ts
unread_piece (suc n) next ts = (plain_token ∣ between (Sign OPEN_PARENTHESIS) (Sign CLOSE_PARENTHESIS)
    (many (unread_piece n))) next ts

abbrev pub unread : ℕ → Form
unread n = many (unread_piece n)

-- [ "(" Unread ")" ], with the span of what is unread
abbrev pub ReadsAttribute : ℕ → Option Span → Form
ReadsAttribute n None = nothing
ReadsAttribute zero (Some span) = never
ReadsAttribute (suc n) (Some span) = between (Sign OPEN_PARENTHESIS) (Sign CLOSE_PARENTHESIS) (covering span (unread n))

-- Event = name [ "(" Unread ")" ]
pub record ReadsEvent (n : ℕ) (m : Member) (next : TokenKind) (ts : Tokens) : Type 0 where
  pub name : NameId
  pub at : Place
  pub attribute : Option Span
  pub is : m ≡ member.Event name at attribute
  pub reads : (ReadsPlacedName (name, at) ▸ ReadsAttribute n attribute) next ts

-- Piece = any token but "(", ")" and ";" | "(" Unread ")"
abbrev pub kept_piece : ℕ → TokenKind → Tokens → Type 0
kept_piece zero next ts = kept_token next ts
kept_piece (suc n) next ts = (kept_token ∣ between (Sign OPEN_PARENTHESIS) (Sign CLOSE_PARENTHESIS) (unread n)) next ts

-- Kept = Piece { Piece }
abbrev pub kept : ℕ → Form
kept n = kept_piece n ▸ many (kept_piece n)

-- Type Names [ Settings ] ";"
pub record ReadsDeclared (n : ℕ) (m : Member) (next : TokenKind) (ts : Tokens) : Type 0 where
  pub type : TypeName
  pub names : Vec (NameId × Place) Global
  pub settings : Vec Setting Global
  pub is : m ≡ member.Declare type names settings
  pub reads : (ReadsType type ▸ ReadsNames names.items ▸ ReadsSettings n settings.items ▸ token (Sign SEMICOLON)) next
      ts

-- Part = ( "!" | "?" ) Path
abbrev pub ReadsPart : Part → Form
ReadsPart p = token (Sign (if p.must then EXCLAMATION else QUESTION)) ▸ ReadsPath p.event

-- Transition = name ":" ( Part { "&" Part } ";" | Expr "->" Instr )
pub data ReadsTransition (n : ℕ) (m : Member) (next : TokenKind) (ts : Tokens) : Type 0 where
  sync : (name : NameId) (at : Place) (parts : Vec Part Global) → m ≡ member.Sync name at parts →
      (ReadsPlacedName (name, at) ▸ between (Sign COLON) (Sign SEMICOLON)
      (separated_by (Sign AMPERSAND) ReadsPart parts.items))
      next ts → ReadsTransition n m next ts
  local : (name : NameId) (at : Place) (guard : RawExpr) (action : Instr) → m ≡ member.Local name at guard action →
      (ReadsPlacedName (name, at) ▸ between (Sign COLON) (Sign ARROW) (Node (ReadsExpr n) guard) ▸ ReadsInstr n action)
      next ts
      → ReadsTransition n m next ts

-- an instruction of an assertion
pub record ReadsAssertion (n : ℕ) (m : Member) (next : TokenKind) (ts : Tokens) : Type 0 where
  pub i : Instr
  pub is : m ≡ member.Assert i
  pub reads : ReadsInstr n i next ts

-- Section = "transition" { Transition } | "assertion" { Instr }
abbrev pub ReadsSection : ℕ → List Member → Form
ReadsSection n ms = (token (Reserved TRANSITION) ▸ each (ReadsTransition n) ms) ∣
    (token (Reserved ASSERTION) ▸ each (ReadsAssertion n) ms)

-- the path of a hidden event
pub record ReadsHidden (m : Member) (next : TokenKind) (ts : Tokens) : Type 0 where
  pub event : Path
  pub is : m ≡ member.Hide event
  pub reads : ReadsPath event next ts

-- name Body "end"
abbrev pub ReadsUnit : (List Member → Form) → UnitTree → Form
ReadsUnit Body u = ReadsPlacedName (u.name, u.at) ▸ Body u.members.items ▸ token (Reserved END)

-- A clause that begins with a reserved word and makes one member.
pub data ReadsSingle (n : ℕ) (m : Member) (next : TokenKind) (ts : Tokens) : Type 0 where
  -- "extends" name ";"
  extends : (name : NameId) (at : Place)
      → m ≡ member.Extends name at → between (Reserved EXTENDS) (Sign SEMICOLON) (ReadsPlacedName (name, at)) next ts
      → ReadsSingle n m next ts
  -- "Boolean" Names [ Settings ] ";"
  boolean : (declared : ReadsDeclared n m next ts) → declared.type.form ≡ type_form.Boolean → ReadsSingle n m next ts
  -- "clones" Path "as" name ";"
  clones : (p : Path) (name : NameId) (at : Place)
      → m ≡ member.Clones p name at → (token (Reserved CLONES) ▸ ReadsPath p ▸ between (Reserved AS) (Sign SEMICOLON)
      (ReadsPlacedName (name, at))) next ts → ReadsSingle n m next ts
  -- "embeds" Path "as" name ";"
  embeds : (p : Path) (name : NameId) (at : Place)
      → m ≡ member.Embeds p name at → (token (Reserved EMBEDS) ▸ ReadsPath p ▸ between (Reserved AS) (Sign SEMICOLON)
      (ReadsPlacedName (name, at))) next ts → ReadsSingle n m next ts
  -- "parameter" "Real" name "=" Kept ";"
  kept_value : (name : NameId) (at : Place) (span : Span) → m ≡ member.Kept name at span →
      (token (Reserved PARAMETER) ▸ token (Reserved REAL) ▸ ReadsPlacedName (name, at) ▸ between (Sign EQUALS)
      (Sign SEMICOLON) (covering span (kept n))) next ts → ReadsSingle n m next ts
  -- "parameter" Type name "=" Expr ";"
  parameter : (type : TypeName) (name : NameId) (at : Place) (value : RawExpr) → m ≡ member.Parameter type name at value
      →
      (token (Reserved PARAMETER) ▸ ReadsType type ▸ ReadsPlacedName (name, at) ▸ between (Sign EQUALS) (Sign SEMICOLON)
      (Node (ReadsExpr n) value)) next ts → ReadsSingle n m next ts
  -- "observer" Type name "=" Expr ";"
  observer : (type : TypeName) (name : NameId) (at : Place) (value : RawExpr) → m ≡ member.Observer type name at value →
      (token (Reserved OBSERVER) ▸ ReadsType type ▸ ReadsPlacedName (name, at) ▸ between (Sign EQUALS) (Sign SEMICOLON)
      (Node (ReadsExpr n) value)) next ts → ReadsSingle n m next ts

-- A clause that begins with a reserved word, and the members that it makes.
pub data ReadsKeyed (n : ℕ) (Body : List Member → Form) (ms : List Member) (next : TokenKind)
    (ts : Tokens) : Type 0 where
  single : (m : Member) → ms ≡ m ∷ [] → ReadsSingle n m next ts → ReadsKeyed n Body ms next ts
  -- "block" name Body "end"
  block : (u : UnitTree) → ms ≡ member.Block u ∷ [] → (token (Reserved BLOCK) ▸ ReadsUnit Body u) next ts
      → ReadsKeyed n Body ms next ts
  -- "event" Event { "," Event } ";"
  event : between (Reserved EVENT) (Sign SEMICOLON) (separated_by (Sign COMMA) (ReadsEvent n) ms) next ts
      → ReadsKeyed n Body ms next ts
  -- "hide" Path { "," Path } ";"
  hide : between (Reserved HIDE) (Sign SEMICOLON) (separated_by (Sign COMMA) ReadsHidden ms) next ts
      → ReadsKeyed n Body ms next ts

-- Member = Keyed | name Names [ Settings ] ";"
pub data ReadsMember (n : ℕ) (Body : List Member → Form) (ms : List Member) (next : TokenKind)
    (ts : Tokens) : Type 0 where
  keyed : ReadsKeyed n Body ms next ts → ReadsMember n Body ms next ts
  named : (m : Member) → ms ≡ m ∷ [] → (declared : ReadsDeclared n m next ts) → (name : NameId)
      → declared.type.form ≡ type_form.Named name → ReadsMember n Body ms next ts

-- Section | Keyed
abbrev pub ReadsLater : ℕ → (List Member → Form) → List Member → Form
ReadsLater n Body ms = ReadsSection n ms ∣ ReadsKeyed n Body ms

-- [ Section { Section | Keyed } ]
pub data ReadsSections (n : ℕ) (Body : List Member → Form) (ms : List Member) (next : TokenKind) (ts : Tokens) : Type
    0 where
  none : ms ≡ [] → nothing next ts → ReadsSections n Body ms next ts
  some : (xs ys : List Member) → ms ≡ xs ++ ys → (ReadsSection n xs ▸ groups (ReadsLater n Body) ys) next ts
      → ReadsSections n Body ms next ts

-- Body = { Member } [ Section { Section | Keyed } ]
pub record ReadsBodyOf (n : ℕ) (Body : List Member → Form) (ms : List Member) (next : TokenKind) (ts : Tokens) : Type
    0 where
  pub xs : List Member
  pub ys : List Member
  pub all : ms ≡ xs ++ ys
  pub reads : (groups (ReadsMember n Body) xs ▸ ReadsSections n Body ys) next ts

-- A body, with at most n productions open at one token. An empty body is open nowhere.
abbrev pub ReadsBody : ℕ → List Member → TokenKind → Tokens → Type 0
ReadsBody zero ms next ts = (ms ≡ []) × (ts ≡ [])
ReadsBody (suc n) ms next ts = ReadsBodyOf n (ReadsBody n) ms next ts
