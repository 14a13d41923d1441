-- The texts of paths and expressions, without their trees. At most n productions are open at one token. Where one more
-- would open stands a text of the form `cut`: `never` in a text of the grammar, and in what only begins a text one token
-- `deep`.
use Rattle.std.specs.Prelude.{◌≡◌, ℕ, zero, suc, Bool, true, false, ◌||◌, ◌==◌, if◌then◌else◌, [], ◌∷◌}
use Rattle.ar_lexer.specs.declared.token.TokenKind.{TokenKind}
use Rattle.ar_lexer.specs.declared.token.TokenKind.TheVariants.{Name, Whole, Real, Sign, Reserved}
use Rattle.ar_lexer.specs.declared.signs.TheConstants.{OPEN_BRACE, CLOSE_BRACE, OPEN_PARENTHESIS, CLOSE_PARENTHESIS, COMMA, COLON, DOT, PLUS, MINUS, STAR}
use Rattle.ar_lexer.specs.declared.words.TheConstants.{AND, CASE, COUNT, DEFAULT, ELSE, FALSE, IF, MAX, MIN, NOT, OR, SWITCH, THEN, TRUE}
use Rattle.ar_syntax.specs.declared.expressions.RawRelation.{RawRelation}
use Rattle.expression_grammar.specs.declared.lexeme.Lexeme.{Lexeme}
use Rattle.expression_grammar.specs.Words.{Form, Tokens, token, nothing, ◌▸◌, ◌∣◌, many, between, ReadsSome}
use Rattle.expression_grammar.specs.Paths.{ReadsStart}
use Rattle.expression_grammar.specs.Expressions.{sign_of}

-- one token that passes this test
pub record one_of (test : TokenKind → Bool) (next : TokenKind) (ts : Tokens) : Type 0 where
  pub one : Lexeme
  pub alone : ts ≡ one ∷ []
  pub passes : test one.kind ≡ true

-- A { separator A }
abbrev pub list_of : TokenKind → Form → Form
list_of separator A = A ▸ many (token separator ▸ A)

-- [ A ]
abbrev pub maybe : Form → Form
maybe A = nothing ∣ A

-- Names = name { "," name };  Path = [ ( "owner" | "main" ) "." ] name { "." name }
abbrev pub names_tokens : Form
names_tokens = list_of (Sign COMMA) (token Name)

abbrev pub path_tokens : Form
path_tokens = ReadsSome ReadsStart ▸ list_of (Sign DOT) (token Name)

-- Expressions

-- Product = Minus { "*" Minus };  Sum = Product { ( "+" | "-" ) Product }
abbrev pub plus_tokens : Form
plus_tokens = ReadsSome (λ (plus : Bool). token (Sign (if plus then PLUS else MINUS)))

abbrev pub product_tokens : Form → Form
product_tokens Minus = list_of (Sign STAR) Minus

abbrev pub sum_tokens : Form → Form
sum_tokens Product = Product ▸ many (plus_tokens ▸ Product)

-- Compare = Sum [ relation Sum ]
abbrev pub relation_tokens : Form
relation_tokens = ReadsSome (λ (r : RawRelation). token (Sign (sign_of r)))

abbrev pub compare_tokens : Form → Form
compare_tokens Sum = Sum ▸ maybe (relation_tokens ▸ Sum)

-- Or = And { "or" And };  And = Not { "and" Not }
abbrev pub and_tokens : Form → Form
and_tokens Not = list_of (Reserved AND) Not

abbrev pub or_tokens : Form → Form
or_tokens Not = list_of (Reserved OR) (and_tokens Not)

-- "if" Expr "then" Expr "else" Expr
abbrev pub if_tokens : Form → Form
if_tokens Expr = between (Reserved IF) (Reserved THEN) Expr ▸ Expr ▸ token (Reserved ELSE) ▸ Expr

-- Case = "case" Expr ":" Expr;  "switch" "{" Case { Case } "default" ":" Expr "}"
abbrev pub case_made_of : Form → Form
case_made_of Expr = between (Reserved CASE) (Sign COLON) Expr ▸ Expr

abbrev pub switch_tokens : Form → Form
switch_tokens Expr = token (Reserved SWITCH) ▸ token (Sign OPEN_BRACE) ▸ case_made_of Expr ▸ many (case_made_of Expr)
    ▸ token (Reserved DEFAULT) ▸ between (Sign COLON) (Sign CLOSE_BRACE) Expr

-- "(" Expr { "," Expr } ")"
abbrev pub operands_tokens : Form → Form
operands_tokens Expr = token (Sign OPEN_PARENTHESIS) ▸ Expr ▸ many (token (Sign COMMA) ▸ Expr) ▸ token
    (Sign CLOSE_PARENTHESIS)

-- a whole number, a real number, "true" or "false"
abbrev pub begins_constant : TokenKind → Bool
begins_constant (Whole n) = true
begins_constant Real = true
begins_constant (Reserved w) = (w == TRUE) || (w == FALSE)
begins_constant _ = false

-- "min", "max" or "count"
abbrev pub begins_call : TokenKind → Bool
begins_call (Reserved w) = (w == MIN) || (w == MAX) || (w == COUNT)
begins_call _ = false

-- Primary = constant | Path | "(" Expr ")" | call Operands | Switch
pub data primary_tokens (Expr : Form) (next : TokenKind) (ts : Tokens) : Type 0 where
  constant : one_of begins_constant next ts → primary_tokens Expr next ts
  path : path_tokens next ts → primary_tokens Expr next ts
  brackets : between (Sign OPEN_PARENTHESIS) (Sign CLOSE_PARENTHESIS) Expr next ts → primary_tokens Expr next ts
  call : (one_of begins_call ▸ operands_tokens Expr) next ts → primary_tokens Expr next ts
  switch : switch_tokens Expr next ts → primary_tokens Expr next ts

abbrev mutual
  -- Expr = "if" Expr "then" Expr "else" Expr | Or
  pub expr_tokens : Form → ℕ → TokenKind → Tokens → Type 0
  expr_tokens cut zero next ts = cut next ts
  expr_tokens cut (suc n) next ts = (if_tokens (expr_tokens cut n) ∣ or_tokens (not_tokens cut n)) next ts

  -- Not = "not" Not | Compare
  pub not_tokens : Form → ℕ → TokenKind → Tokens → Type 0
  not_tokens cut zero next ts = cut next ts
  not_tokens cut (suc n) next ts = ((token (Reserved NOT) ▸ not_tokens cut n) ∣ compare_tokens
      (sum_tokens (product_tokens (minus_tokens cut n)))) next ts

  -- Minus = "-" Minus | Primary
  pub minus_tokens : Form → ℕ → TokenKind → Tokens → Type 0
  minus_tokens cut zero next ts = cut next ts
  minus_tokens cut (suc n) next ts = ((token (Sign MINUS) ▸ minus_tokens cut n) ∣ primary_tokens (expr_tokens cut n))
      next ts
