-- The grammar of instructions.
use Rattle.std.specs.Prelude.{◌≡◌, ℕ, zero, suc, Option, Some, None, Vec, Box}
use Rattle.std.specs.declared.alloc.Global.{Global}
use Rattle.ar_lexer.specs.declared.token.TokenKind.{TokenKind}
use Rattle.ar_lexer.specs.declared.token.TokenKind.TheVariants.{Sign, Reserved}
use Rattle.ar_lexer.specs.declared.signs.TheConstants.{OPEN_BRACE, CLOSE_BRACE, SEMICOLON, ASSIGN, TIE}
use Rattle.ar_lexer.specs.declared.words.TheConstants.{ELSE, IF, SKIP, THEN}
use Rattle.ar_syntax.specs.declared.paths.Path.{Path}
use Rattle.ar_syntax.specs.declared.expressions.RawExpr.{RawExpr}
use Rattle.ar_syntax.specs.declared.expressions.RawForm.{RawForm}
use Rattle.ar_syntax.specs.declared.instructions.Instr.{Instr}
use Rattle.ar_syntax.specs.declared.instructions.Instr.TheVariants as instr
use Rattle.expression_grammar.specs.Words.{Form, Tokens, token, ◌▸◌, not_before, each, between}
use Rattle.expression_grammar.specs.Paths.{ReadsPath}
use Rattle.expression_grammar.specs.Expressions.{Node, ReadsExpr}

-- [ "else" Instr ], where an `if` without `else` is not before the token `else`
abbrev pub ReadsElse : (Instr → Form) → Option (Box Instr Global) → Form
ReadsElse Inner None = not_before (Reserved ELSE)
ReadsElse Inner (Some other) = token (Reserved ELSE) ▸ Inner other.value

-- "if" Expr "then" Instr [ "else" Instr ]
pub record ReadsIfOf (Expr : RawForm → Form) (Inner : Instr → Form) (i : Instr) (next : TokenKind) (ts : Tokens) : Type
    0 where
  pub test : RawExpr
  pub yes : Box Instr Global
  pub no : Option (Box Instr Global)
  pub is : i ≡ instr.If test yes no
  pub reads : (between (Reserved IF) (Reserved THEN) (Node Expr test) ▸ Inner yes.value ▸ ReadsElse Inner no) next ts

-- "{" { Instr } "}"
pub record ReadsGroupOf (Inner : Instr → Form) (i : Instr) (next : TokenKind) (ts : Tokens) : Type 0 where
  pub instrs : Vec Instr Global
  pub is : i ≡ instr.All instrs
  pub reads : between (Sign OPEN_BRACE) (Sign CLOSE_BRACE) (each Inner instrs.items) next ts

-- Path ( ":=" Expr | ":=:" Path ) ";" | "skip" ";"
pub data ReadsSimpleOf (Expr : RawForm → Form) (i : Instr) (next : TokenKind) (ts : Tokens) : Type 0 where
  assign : (p : Path) (e : RawExpr) → i ≡ instr.Assign p e
      → (ReadsPath p ▸ between (Sign ASSIGN) (Sign SEMICOLON) (Node Expr e)) next ts → ReadsSimpleOf Expr i next ts
  tie : (p q : Path) → i ≡ instr.Tie p q → (ReadsPath p ▸ between (Sign TIE) (Sign SEMICOLON) (ReadsPath q)) next ts
      → ReadsSimpleOf Expr i next ts
  skip : i ≡ instr.Skip → (token (Reserved SKIP) ▸ token (Sign SEMICOLON)) next ts → ReadsSimpleOf Expr i next ts

-- Instr = Path ( ":=" Expr | ":=:" Path ) ";" | "skip" ";" | "{" { Instr } "}" | "if" Expr "then" Instr [ "else" Instr
-- ]
pub data ReadsInstrOf (Expr : RawForm → Form) (Inner : Instr → Form) (i : Instr) (next : TokenKind) (ts : Tokens) : Type
    0 where
  simple : ReadsSimpleOf Expr i next ts → ReadsInstrOf Expr Inner i next ts
  group : ReadsGroupOf Inner i next ts → ReadsInstrOf Expr Inner i next ts
  conditional : ReadsIfOf Expr Inner i next ts → ReadsInstrOf Expr Inner i next ts

-- an instruction, with at most n productions open at one token
abbrev pub ReadsInstr : ℕ → Instr → TokenKind → Tokens → Type 0
ReadsInstr zero i next ts = ⊥
ReadsInstr (suc n) i next ts = ReadsInstrOf (ReadsExpr n) (ReadsInstr n) i next ts
