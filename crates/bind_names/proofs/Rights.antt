-- What expressions become in a unit, where they break no rule of names and kinds.
use Rattle.std.proofs.Common.{◌≡◌, ◌<◌, List, length, Option, Some, None, refl, subst}
use Rattle.ar_base.specs.Numbers.{VarId}
use Rattle.ar_base.specs.declared.places.Place.{Place}
use Rattle.ar_syntax.specs.declared.expressions.RawExpr.{RawExpr}
use Rattle.ar_syntax.specs.declared.paths.Path.{Path}
use Rattle.domains.specs.declared.Value.{Value}
use Rattle.typed_expr.specs.Kinds.{HasKind}
use Rattle.typed_expr.specs.Mentions.{Mentions}
use Rattle.typed_expr.specs.Possible.{IsSubexpression}
use Rattle.typed_expr.specs.Yields.{Level}
use Rattle.typed_expr.specs.declared.expr.Expr.{Expr, out-Expr}
use Rattle.typed_expr.specs.declared.expr.Expr.TheOpen.{Constant}
use Rattle.typed_expr.specs.declared.expr.ValueKind.{ValueKind}
use Rattle.hierarchy.specs.Models.{RootedModel}
use Rattle.hierarchy.specs.Units.{UnitPath}
use Rattle.source_meaning.specs.Kinds.{HasKindAt}
use Rattle.source_meaning.specs.Tested as s
use Rattle.source_meaning.specs.BoundExpressions.{IsBoundExpression}
use Rattle.source_meaning.proofs.BoundMeaning.{bound_meaning}
use Rattle.written_forms.specs.Operands.{RawLevel, level_of, Demand, AnyKind, OfKind, PathIn}
use Rattle.written_forms.specs.Forms.{HasForm, own, path, choice}
use Rattle.written_forms.specs.Wrong.{IsMisnamed, IsMistyped, itself, real, empty, inside, IsWantedKind, this, that_of}
use Rattle.written_forms.specs.Translating.{StandsFor, Becomes, BecomesBy}
use Rattle.written_forms.proofs.RightForms.{typed_whole}
use Rattle.written_forms.proofs.MisnamedForms.{misnamed_move}
use Rattle.bind_scopes.specs.Naming.{kind_in}
use Rattle.bind_scopes.specs.declared.naming.Sort.TheVariants.{States}
use Rattle.bind_scopes.proofs.Kinding.{may_named, named_may, kind_names}
use Rattle.bind_names.specs.Leaves.{leaf_in}
use Rattle.bind_names.specs.declared.leaves.UnitLeaves.{UnitLeaves}
use Rattle.bind_names.specs.Typed as typed
use Rattle.bind_names.specs.Typed.{IsTypedIn, IsSymbolIn}
use Rattle.bind_names.proofs.FormLeafing.{AreLeavesOf, names_for, tree_for, names_of, leaf_kind, leaf_number, leaf_symbol, leaf_for}
use Rattle.bind_names.proofs.Saying.{mentioned, constant}

module _ {names other : Path → ValueKind → Type 0} (to : (p : Path) (k : ValueKind) → names p k → other p k) where
  form_move : {l : RawLevel} {k : ValueKind} → HasForm names l k → HasForm other l k
  form_move (own e) = own e
  form_move (path {p = p} {k = k} h) = path (to p k h)
  form_move (choice h) = choice (form_move h)

  wanted_move : {d : Demand} {k : ValueKind} → IsWantedKind names d k → IsWantedKind other d k
  wanted_move this = this
  wanted_move (that_of h) = that_of (form_move h)

  mistyped_move : {d : Demand} {e : RawExpr} {at : Place} → IsMistyped names d e at → IsMistyped other d e at
  mistyped_move (itself k want h w n) = itself k want (form_move h) (wanted_move w) n
  mistyped_move (real q) = real q
  mistyped_move (empty n) = empty n
  mistyped_move (inside o i h) = inside o i (mistyped_move h)

-- what is wrong where any kind is wanted is wrong where one is
module _ {names : Path → ValueKind → Type 0} where
  wanted_some : {d : Demand} {k : ValueKind} → IsWantedKind names d k → d ≡ AnyKind → ⊥
  wanted_some this e = cc
  wanted_some (that_of h) e = cc

  mistyped_as : {d : Demand} (k : ValueKind) {e : RawExpr} {at : Place} → IsMistyped names d e at → d ≡ AnyKind
      → IsMistyped names (OfKind k) e at
  mistyped_as k (itself j want h w n) q = absurd (wanted_some w q)
  mistyped_as k (real q) e = real q
  mistyped_as k (empty n) e = empty n
  mistyped_as k (inside o i h) e = inside o i h

  pub any_mistyped : (k : ValueKind) {e : RawExpr} {at : Place}
      → IsMistyped names AnyKind e at → IsMistyped names (OfKind k) e at
  any_mistyped k h = mistyped_as k h refl

module _ {m : RootedModel} {units : List UnitPath} {u : UnitPath} {leaves : UnitLeaves}
    (h : AreLeavesOf m units u leaves) where
  -- the variables and symbols of what an expression becomes
  pub variables_in : {l : RawLevel} {y : Level VarId} → Becomes (StandsFor (leaf_in leaves)) l y → (x : VarId)
      → Mentions x y → x.n < length (tree_for leaves).variables.items
  variables_in b x k = mentioned (leaf_in leaves) x (x.n < length (tree_for leaves).variables.items)
      (λ p e. leaf_number h p x e) b k

  pub symbols_in : {l : RawLevel} {y : Level VarId} → Becomes (StandsFor (leaf_in leaves)) l y → (v : Value)
      → IsSubexpression (Constant v) y → IsSymbolIn (tree_for leaves) v
  symbols_in b v k = constant (leaf_in leaves) (IsSymbolIn (tree_for leaves)) (λ c. record {}) (λ n. record {})
      (λ p w e. leaf_symbol h p w e) b v k

  told : (e : RawExpr) → ((at : Place) → IsMisnamed (s.MayName m u s.Everything) (level_of e) at → ⊥) → (p : Path)
      → PathIn p (level_of e) → (r : Option ValueKind) → kind_in (names_for leaves States) p ≡ r
      → s.MayName m u s.Everything p
  told e named p i (Some k) q = named_may (names_of h States) p (k, q)
  told e named p i None q = absurd (named p.at (record { path = p; is_in = i; not = λ may. let w = may_named (names_of h States) p may in let o = w.1 in cc; place = refl }))

  -- each path of an expression has what it stands for as its leaf
  pub path_leaf : (e : RawExpr) → ((at : Place) → IsMisnamed (s.MayName m u s.Everything) (level_of e) at → ⊥)
      → (p : Path) → PathIn p (level_of e) → s.MayName m u s.Everything p
  path_leaf e named p i = told e named p i (kind_in (names_for leaves States) p) refl

  module _ (e : RawExpr) (f : Expr VarId) (k : ValueKind)
      (named : (at : Place) → IsMisnamed (s.MayName m u s.Everything) (level_of e) at → ⊥)
      (right : (at : Place) → IsMistyped (HasKindAt m u) (OfKind k) e at → ⊥) (b : BecomesBy (leaf_in leaves) e f) where
    pub expression_bound : IsBoundExpression m units u e f
    expression_bound = bound_meaning m units u (leaf_in leaves) e f (λ p i. leaf_for h p (path_leaf e named p i))
        (λ at x. right at (any_mistyped k x)) b

    pub expression_typed : IsTypedIn (tree_for leaves) f k
    expression_typed = record {
      typed = typed_whole (StandsFor (leaf_in leaves)) (kind_in (names_for leaves States))
          (typed.kind_of_number (tree_for leaves))
          (λ p l j q w. subst (λ (z : Level VarId). HasKind (typed.kind_of_number (tree_for leaves)) z j) q
          (leaf_kind h p States j w)) e (out-Expr VarId f) k
          (λ at x. named at (misnamed_move (λ p may. may_named (names_of h States) p may) x))
          (λ at x. right at (mistyped_move (λ p j n. kind_names (names_of h States) p j n) x)) b;
      variables = λ x w. variables_in b x w;
      symbols = λ v w. symbols_in b v w;
    }
