-- What the functions that read expressions share.
use Rattle.std.specs.Prelude.{◌≡◌, ℕ, Bool, true, false, ℤ, [], ◌∷◌, Vec, Box}
use Rattle.ar_syntax.specs.declared.expressions.RawRelation.{RawRelation}
use Rattle.std.specs.declared.alloc.Global.{Global}
use Rattle.ar_lexer.specs.declared.token.TokenKind.{TokenKind}
use Rattle.ar_lexer.specs.declared.token.TokenKind.TheVariants.{Whole, Real, Sign, Reserved}
use Rattle.ar_lexer.specs.declared.signs.TheConstants.{STAR}
use Rattle.ar_lexer.specs.declared.words.TheConstants.{AND, COUNT, FALSE, MAX, MIN, OR, TRUE}
use Rattle.ar_syntax.specs.declared.expressions.RawExpr.{RawExpr}
use Rattle.ar_syntax.specs.declared.expressions.RawForm.{RawForm}
use Rattle.ar_syntax.specs.declared.expressions.RawForm.TheVariants as form
use Rattle.expression_grammar.specs.declared.terms.Chain.{Chain}
use Rattle.expression_grammar.specs.declared.terms.Chain.TheVariants as chain
use Rattle.expression_grammar.specs.declared.terms.Call.{Call}
use Rattle.expression_grammar.specs.declared.terms.Call.TheVariants as call
use Rattle.expression_grammar.specs.Words.{Form}
use Rattle.expression_grammar.specs.Expressions.{OneOrMore, ReadsAnd, ReadsNot, ReadsMinus}
use Rattle.expression_grammar.specs.Results.{ends_path, ends_product, ends_not, ends_and, ends_expr}

-- what stands between the operands of a chain
abbrev pub separator_of : Chain → TokenKind
separator_of chain.Any = Reserved OR
separator_of chain.All = Reserved AND
separator_of chain.Product = Sign STAR

-- the form of a chain of these operands
abbrev pub chain_of : Chain → Vec RawExpr Global → RawForm
chain_of chain.Any = form.Any
chain_of chain.All = form.All
chain_of chain.Product = form.Product

-- what an operand of a chain is, with at most n productions open at one token
abbrev pub operand_form : Chain → ℕ → RawForm → Form
operand_form chain.Any n = ReadsAnd (ReadsNot n)
operand_form chain.All n = ReadsNot n
operand_form chain.Product n = ReadsMinus n

-- a chain, where one operand alone is itself
abbrev pub chain_form : Chain → ℕ → RawForm → Form
chain_form c n = OneOrMore (chain_of c) (separator_of c) (operand_form c n)

-- what goes on with no operand of the chain
abbrev pub ends_operand : Chain → TokenKind → Bool
ends_operand chain.Any = ends_and
ends_operand chain.All = ends_not
ends_operand chain.Product = ends_path

-- what goes on with no such chain
abbrev pub ends_chain : Chain → TokenKind → Bool
ends_chain chain.Any = ends_expr
ends_chain chain.All = ends_and
ends_chain chain.Product = ends_product

-- an expression of one token of this kind
pub data IsConstant (f : RawForm) (k : TokenKind) : Type 0 where
  truth : f ≡ form.Truth true → k ≡ Reserved TRUE → IsConstant f k
  falsehood : f ≡ form.Truth false → k ≡ Reserved FALSE → IsConstant f k
  whole : (n : ℤ) → f ≡ form.Whole n → k ≡ Whole n → IsConstant f k
  real : f ≡ form.Real → k ≡ Real → IsConstant f k

-- the reserved word that a call begins with
abbrev pub opening_word : Call → TokenKind
opening_word call.Least = Reserved MIN
opening_word call.Greatest = Reserved MAX
opening_word call.Count = Reserved COUNT

-- the form of a call of these operands
abbrev pub call_of : Call → Vec RawExpr Global → RawForm
call_of call.Least = form.Least
call_of call.Greatest = form.Greatest
call_of call.Count = form.Count

-- a comparison of these two expressions
pub record IsComparison (r : RawRelation) (first second : RawExpr) (f : RawForm) : Type 0 where
  pub x : Box RawExpr Global
  pub y : Box RawExpr Global
  pub is : f ≡ form.Compare r x y
  pub x_is : x.value ≡ first
  pub y_is : y.value ≡ second

-- a choice with this one case
pub record IsOneCase (test value other : RawExpr) (f : RawForm) : Type 0 where
  pub cases : Vec (RawExpr × RawExpr) Global
  pub d : Box RawExpr Global
  pub is : f ≡ form.Choose cases d
  pub one : cases.items ≡ (test, value) ∷ []
  pub other_is : d.value ≡ other
