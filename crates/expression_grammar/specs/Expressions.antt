-- The grammar of expressions.
use Rattle.std.specs.Prelude.{◌≡◌, ℕ, zero, suc, ◌≤◌, Bool, true, false, if◌then◌else◌, ℤ, List, [], ◌∷◌, length, Vec, Box}
use Rattle.std.specs.declared.alloc.Global.{Global}
use Rattle.ar_lexer.specs.declared.token.TokenKind.{TokenKind}
use Rattle.ar_lexer.specs.declared.token.TokenKind.TheVariants.{Whole, Real, Sign, Reserved}
use Rattle.ar_lexer.specs.declared.signs.TheConstants.{OPEN_BRACE, CLOSE_BRACE, OPEN_PARENTHESIS, CLOSE_PARENTHESIS, COMMA, COLON, EQUAL, DIFFERS, LESS, AT_MOST, MORE, AT_LEAST, PLUS, MINUS, STAR}
use Rattle.ar_lexer.specs.declared.words.TheConstants.{AND, CASE, COUNT, DEFAULT, ELSE, FALSE, IF, MAX, MIN, NOT, OR, SWITCH, THEN, TRUE}
use Rattle.ar_syntax.specs.declared.paths.Path.{Path}
use Rattle.ar_syntax.specs.declared.expressions.RawExpr.{RawExpr}
use Rattle.ar_syntax.specs.declared.expressions.RawForm.{RawForm}
use Rattle.ar_syntax.specs.declared.expressions.RawForm.TheVariants as form
use Rattle.ar_syntax.specs.declared.expressions.RawRelation.{RawRelation}
use Rattle.ar_syntax.specs.declared.expressions.RawRelation.TheVariants as relation
use Rattle.expression_grammar.specs.Words.{Form, Tokens, token, ◌▸◌, each, separated_by, between, StandsAt, IsSpanOf}
use Rattle.expression_grammar.specs.Paths.{ReadsPath}

-- An expression of this form: its place is that of its first token, a bracket included, and its span goes to its last.
pub record Node (Is : RawForm → Form) (e : RawExpr) (next : TokenKind) (ts : Tokens) : Type 0 where
  pub there : StandsAt e.at ts
  pub span_is : IsSpanOf e.span ts
  pub form : Is e.form next ts

-- One operand is itself; two or more with separators between them are a list: x { separator x }
pub data OneOrMore (make : Vec RawExpr Global → RawForm) (separator : TokenKind) (Is : RawForm → Form) (f : RawForm)
    (next : TokenKind) (ts : Tokens) : Type 0 where
  one : Is f next ts → OneOrMore make separator Is f next ts
  more : (v : Vec RawExpr Global) → f ≡ make v → 2 ≤ length v.items → separated_by separator (Node Is) v.items next ts
      → OneOrMore make separator Is f next ts

-- Product = Minus { "*" Minus }
abbrev pub ReadsProduct : (RawForm → Form) → RawForm → Form
ReadsProduct Minus = OneOrMore form.Product (Sign STAR) Minus

-- Sum = Product { ( "+" | "-" ) Product }
abbrev pub ReadsTerm : (RawForm → Form) → Bool × RawExpr → Form
ReadsTerm Product (plus, e) = token (Sign (if plus then PLUS else MINUS)) ▸ Node Product e

abbrev pub ReadsTerms : (RawForm → Form) → List (Bool × RawExpr) → TokenKind → Tokens → Type 0
ReadsTerms Product [] next ts = ⊥
ReadsTerms Product ((plus, e) ∷ terms) next ts = (plus ≡ true) × (Node Product e ▸ each (ReadsTerm Product) terms) next
    ts

pub data ReadsSum (Product : RawForm → Form) (f : RawForm) (next : TokenKind) (ts : Tokens) : Type 0 where
  one : Product f next ts → ReadsSum Product f next ts
  more : (v : Vec (Bool × RawExpr) Global) → f ≡ form.Sum v → 2 ≤ length v.items → ReadsTerms Product v.items next ts
      → ReadsSum Product f next ts

-- Compare = Sum [ ( "==" | "!=" | "<" | "<=" | ">" | ">=" ) Sum ]
abbrev pub sign_of : RawRelation → ℕ
sign_of relation.Equal = EQUAL
sign_of relation.Differs = DIFFERS
sign_of relation.Less = LESS
sign_of relation.AtMost = AT_MOST
sign_of relation.More = MORE
sign_of relation.AtLeast = AT_LEAST

pub data ReadsCompare (Sum : RawForm → Form) (f : RawForm) (next : TokenKind) (ts : Tokens) : Type 0 where
  one : Sum f next ts → ReadsCompare Sum f next ts
  two : (r : RawRelation) (x y : Box RawExpr Global) → f ≡ form.Compare r x y
      → (Node Sum x.value ▸ token (Sign (sign_of r)) ▸ Node Sum y.value) next ts → ReadsCompare Sum f next ts

-- Not = "not" Not | Compare
pub data ReadsNegation (Not Compare : RawForm → Form) (f : RawForm) (next : TokenKind) (ts : Tokens) : Type 0 where
  negated : (x : Box RawExpr Global) → f ≡ form.Not x → (token (Reserved NOT) ▸ Node Not x.value) next ts
      → ReadsNegation Not Compare f next ts
  plain : Compare f next ts → ReadsNegation Not Compare f next ts

-- Or = And { "or" And }, And = Not { "and" Not }
abbrev pub ReadsAnd : (RawForm → Form) → RawForm → Form
ReadsAnd Not = OneOrMore form.All (Reserved AND) Not

abbrev pub ReadsOr : (RawForm → Form) → RawForm → Form
ReadsOr Not = OneOrMore form.Any (Reserved OR) (ReadsAnd Not)

-- "if" Expr "then" Expr "else" Expr
pub record ReadsIf (Expr : RawForm → Form) (f : RawForm) (next : TokenKind) (ts : Tokens) : Type 0 where
  pub cases : Vec (RawExpr × RawExpr) Global
  pub other : Box RawExpr Global
  pub test : RawExpr
  pub value : RawExpr
  pub is : f ≡ form.Choose cases other
  pub one : cases.items ≡ (test, value) ∷ []
  pub reads : (between (Reserved IF) (Reserved THEN) (Node Expr test) ▸ Node Expr value ▸ token (Reserved ELSE) ▸ Node
      Expr other.value) next ts

-- Expr = "if" Expr "then" Expr "else" Expr | Or
pub data ReadsChoice (Expr Or : RawForm → Form) (f : RawForm) (next : TokenKind) (ts : Tokens) : Type 0 where
  choice : ReadsIf Expr f next ts → ReadsChoice Expr Or f next ts
  plain : Or f next ts → ReadsChoice Expr Or f next ts

-- Case = "case" Expr ":" Expr
abbrev pub ReadsCase : (RawForm → Form) → RawExpr × RawExpr → Form
ReadsCase Expr (x, y) = between (Reserved CASE) (Sign COLON) (Node Expr x) ▸ Node Expr y

-- "switch" "{" Case { Case } "default" ":" Expr "}"
pub record ReadsSwitch (Expr : RawForm → Form) (f : RawForm) (next : TokenKind) (ts : Tokens) : Type 0 where
  pub cases : Vec (RawExpr × RawExpr) Global
  pub other : Box RawExpr Global
  pub is : f ≡ form.Choose cases other
  pub some : 1 ≤ length cases.items
  pub reads : (token (Reserved SWITCH) ▸ token (Sign OPEN_BRACE) ▸ each (ReadsCase Expr) cases.items ▸ token
      (Reserved DEFAULT) ▸ between (Sign COLON) (Sign CLOSE_BRACE) (Node Expr other.value)) next ts

-- "(" Expr { "," Expr } ")"
abbrev pub ReadsOperands : (RawForm → Form) → List RawExpr → Form
ReadsOperands Expr operands = between (Sign OPEN_PARENTHESIS) (Sign CLOSE_PARENTHESIS)
    (separated_by (Sign COMMA) (Node Expr) operands)

-- Primary = "true" | "false" | whole | real | Path | "(" Expr ")"
--         | ( "min" | "max" | "count" ) "(" Expr { "," Expr } ")"
--         | "switch" "{" Case { Case } "default" ":" Expr "}"
pub data ReadsPrimary (Expr : RawForm → Form) (f : RawForm) (next : TokenKind) (ts : Tokens) : Type 0 where
  truth : f ≡ form.Truth true → token (Reserved TRUE) next ts → ReadsPrimary Expr f next ts
  falsehood : f ≡ form.Truth false → token (Reserved FALSE) next ts → ReadsPrimary Expr f next ts
  whole : (n : ℤ) → f ≡ form.Whole n → token (Whole n) next ts → ReadsPrimary Expr f next ts
  real : f ≡ form.Real → token Real next ts → ReadsPrimary Expr f next ts
  path : (p : Path) → f ≡ form.Path p → ReadsPath p next ts → ReadsPrimary Expr f next ts
  brackets : between (Sign OPEN_PARENTHESIS) (Sign CLOSE_PARENTHESIS) (Expr f) next ts → ReadsPrimary Expr f next ts
  least : (v : Vec RawExpr Global) → f ≡ form.Least v → (token (Reserved MIN) ▸ ReadsOperands Expr v.items) next ts
      → ReadsPrimary Expr f next ts
  greatest : (v : Vec RawExpr Global) → f ≡ form.Greatest v → (token (Reserved MAX) ▸ ReadsOperands Expr v.items) next
      ts → ReadsPrimary Expr f next ts
  count : (v : Vec RawExpr Global) → f ≡ form.Count v → (token (Reserved COUNT) ▸ ReadsOperands Expr v.items) next ts
      → ReadsPrimary Expr f next ts
  switch : ReadsSwitch Expr f next ts → ReadsPrimary Expr f next ts

-- Minus = "-" Minus | Primary
pub data ReadsMinusOf (Minus Primary : RawForm → Form) (f : RawForm) (next : TokenKind) (ts : Tokens) : Type 0 where
  negated : (x : Box RawExpr Global) → f ≡ form.Minus x → (token (Sign MINUS) ▸ Node Minus x.value) next ts
      → ReadsMinusOf Minus Primary f next ts
  plain : Primary f next ts → ReadsMinusOf Minus Primary f next ts

-- Expr, Not and Minus, at most n of them open at one token
abbrev mutual
  pub ReadsExpr : ℕ → RawForm → TokenKind → Tokens → Type 0
  ReadsExpr zero f next ts = ⊥
  ReadsExpr (suc n) f next ts = ReadsChoice (ReadsExpr n) (ReadsOr (ReadsNot n)) f next ts

  pub ReadsNot : ℕ → RawForm → TokenKind → Tokens → Type 0
  ReadsNot zero f next ts = ⊥
  ReadsNot (suc n) f next ts = ReadsNegation (ReadsNot n) (ReadsCompare (ReadsSum (ReadsProduct (ReadsMinus n)))) f next
      ts

  pub ReadsMinus : ℕ → RawForm → TokenKind → Tokens → Type 0
  ReadsMinus zero f next ts = ⊥
  ReadsMinus (suc n) f next ts = ReadsMinusOf (ReadsMinus n) (ReadsPrimary (ReadsExpr n)) f next ts
