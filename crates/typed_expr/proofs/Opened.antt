-- Expressions with their outermost form in view.
use Rattle.std.proofs.Common.{◌≡◌, Bool, Box, Vec, Global, ap, ◌∙◌}
use Rattle.domains.specs.declared.Value.{Value}
use Rattle.typed_expr.specs.declared.expr.Relation.{Relation}
use Rattle.typed_expr.specs.declared.expr.Expr.{Expr, out-Expr, roll-Expr, out-roll-Expr}
use Rattle.typed_expr.specs.declared.expr.Expr as plain
use Rattle.typed_expr.specs.declared.expr.Expr.TheOpen.{Constant, Variable, Not, All, Any, Compare, Sum, Product, Least, Greatest, Count, Choose}
use Rattle.typed_expr.specs.declared.expr.Expr.TheViews as view

module _ {V : Type 0} where
  pub opened-constant : (v : Value) → out-Expr V (plain.Constant v) ≡ Constant v
  unfolding roll-Expr out-Expr denote.Hole.Carrier.roll
  opened-constant v = out-roll-Expr V (Constant v)

  pub opened-variable : (x : V) → out-Expr V (plain.Variable x) ≡ Variable x
  unfolding roll-Expr out-Expr denote.Hole.Carrier.roll
  opened-variable x = out-roll-Expr V (Variable x)

  pub opened-not : (e : Expr V) (a : Box (Expr V) Global) → e ≡ view.Not a → out-Expr V e ≡ Not a
  opened-not e a i = ap (out-Expr V) i ∙ view.outs-Not a

  pub opened-all : (e : Expr V) (es : Vec (Expr V) Global) → e ≡ view.All es → out-Expr V e ≡ All es
  opened-all e es i = ap (out-Expr V) i ∙ view.outs-All es

  pub opened-any : (e : Expr V) (es : Vec (Expr V) Global) → e ≡ view.Any es → out-Expr V e ≡ Any es
  opened-any e es i = ap (out-Expr V) i ∙ view.outs-Any es

  pub opened-compare : (e : Expr V) (r : Relation) (a b : Box (Expr V) Global) → e ≡ view.Compare r a b
      → out-Expr V e ≡ Compare r a b
  opened-compare e r a b i = ap (out-Expr V) i ∙ view.outs-Compare r a b

  pub opened-sum : (e : Expr V) (ps : Vec (Bool × Expr V) Global) → e ≡ view.Sum ps → out-Expr V e ≡ Sum ps
  opened-sum e ps i = ap (out-Expr V) i ∙ view.outs-Sum ps

  pub opened-product : (e : Expr V) (es : Vec (Expr V) Global) → e ≡ view.Product es → out-Expr V e ≡ Product es
  opened-product e es i = ap (out-Expr V) i ∙ view.outs-Product es

  pub opened-least : (e : Expr V) (es : Vec (Expr V) Global) → e ≡ view.Least es → out-Expr V e ≡ Least es
  opened-least e es i = ap (out-Expr V) i ∙ view.outs-Least es

  pub opened-greatest : (e : Expr V) (es : Vec (Expr V) Global) → e ≡ view.Greatest es → out-Expr V e ≡ Greatest es
  opened-greatest e es i = ap (out-Expr V) i ∙ view.outs-Greatest es

  pub opened-count : (e : Expr V) (es : Vec (Expr V) Global) → e ≡ view.Count es → out-Expr V e ≡ Count es
  opened-count e es i = ap (out-Expr V) i ∙ view.outs-Count es

  pub opened-choice : (e : Expr V) (cs : Vec (Expr V × Expr V) Global) (other : Box (Expr V) Global)
      → e ≡ view.Choose cs other → out-Expr V e ≡ Choose cs other
  opened-choice e cs other i = ap (out-Expr V) i ∙ view.outs-Choose cs other
