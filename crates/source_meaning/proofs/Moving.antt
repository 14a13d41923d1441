-- Expressions with other things in place of their variables' numbers.
use Rattle.std.proofs.Common.{◌≡◌, Bool, List, [], ◌∷◌, map, refl, sym, ap, ◌∙◌, subst}
use Rattle.ar_base.specs.Numbers.{VarId}
use Rattle.typed_expr.specs.Yields.{Level}
use Rattle.typed_expr.specs.Renames.{Renames, All_rename, Parts_rename, Cases_rename}
use Rattle.typed_expr.specs.Renames as r
use Rattle.typed_expr.specs.declared.expr.Expr.{Expr, out-Expr, roll-Expr, out-roll-Expr}
use Rattle.typed_expr.specs.declared.expr.Expr.TheOpen.{Expr-F, Constant, Variable, Not, All, Any, Compare, Sum, Product, Least, Greatest, Count, Choose}
use Rattle.typed_expr.specs.declared.expr.Expr.TheFolds.{fold-Expr, ind-Expr, map-Expr, fold-roll-Expr}

module _ {W : Type 0} (h : VarId → W) where
  -- one form with what stands for each variable in its place
  abbrev move_step : Expr-F VarId (Expr W) → Expr-F W (Expr W)
  move_step (Constant v) = Constant v
  move_step (Variable x) = Variable (h x)
  move_step (Not a) = Not a
  move_step (All es) = All es
  move_step (Any es) = Any es
  move_step (Compare r a b) = Compare r a b
  move_step (Sum parts) = Sum parts
  move_step (Product es) = Product es
  move_step (Least es) = Least es
  move_step (Greatest es) = Greatest es
  move_step (Count es) = Count es
  move_step (Choose cases other) = Choose cases other

  -- the expression with what stands for its variables
  abbrev pub moved : Expr VarId → Expr W
  moved = fold-Expr VarId (Expr W) (λ x. roll-Expr W (move_step x))

  -- this stands for the variable
  abbrev pub IsMoved : VarId → W → Type 0
  IsMoved x w = h x ≡ w

  abbrev Renamed : Expr VarId → Type 0
  Renamed e = Renames IsMoved (out-Expr VarId e) (out-Expr W (moved e))

  abbrev Proved : Type 0
  Proved = (e : Expr VarId) × Renamed e

  each : (es : List Proved) → All_rename IsMoved (map (λ (e : Proved). e.0) es)
      (map moved (map (λ (e : Proved). e.0) es))
  each [] = r.none
  each (e ∷ es) = r.one_and e.1 (each es)

  each_part : (ps : List (Bool × Proved))
      → Parts_rename IsMoved (map (λ (p : Bool × Proved). (p.0, p.1.0)) ps)
      (map (λ (p : Bool × Expr VarId). (p.0, moved p.1)) (map (λ (p : Bool × Proved). (p.0, p.1.0)) ps))
  each_part [] = r.no_part
  each_part (p ∷ ps) = r.part p.1.1 (each_part ps)

  each_case : (cs : List (Proved × Proved))
      → Cases_rename IsMoved (map (λ (c : Proved × Proved). (c.0.0, c.1.0)) cs)
      (map (λ (c : Expr VarId × Expr VarId). (moved c.0, moved c.1)) (map (λ (c : Proved × Proved). (c.0.0, c.1.0)) cs))
  each_case [] = r.no_case
  each_case (c ∷ cs) = r.case_and c.0.1 c.1.1 (each_case cs)

  layer : (y : Expr-F VarId Proved) → Renames IsMoved (map-Expr VarId Proved (Expr VarId) (λ e. e.0) y)
      (move_step (map-Expr VarId (Expr VarId) (Expr W) moved (map-Expr VarId Proved (Expr VarId) (λ e. e.0) y)))
  layer (Constant v) = r.constant
  layer (Variable x) = r.variable refl
  layer (Not a) = r.opposite a.value.1
  layer (All es) = r.all (each es.items)
  layer (Any es) = r.any (each es.items)
  layer (Compare op a b) = r.compared a.value.1 b.value.1
  layer (Sum ps) = r.sum (each_part ps.items)
  layer (Product es) = r.product (each es.items)
  layer (Least es) = r.least (each es.items)
  layer (Greatest es) = r.greatest (each es.items)
  layer (Count es) = r.count (each es.items)
  layer (Choose cs other) = r.choice (each_case cs.items) other.value.1

  pub renames_moved : (e : Expr VarId) → Renames IsMoved (out-Expr VarId e) (out-Expr W (moved e))
  renames_moved = ind-Expr VarId Renamed (λ x y is.
      let at_x : Renames IsMoved x (move_step (map-Expr VarId (Expr VarId) (Expr W) moved x)) =
      subst (λ (z : Level VarId). Renames IsMoved z (move_step (map-Expr VarId (Expr VarId) (Expr W) moved z))) is
      (layer y) in
      let left : out-Expr VarId (roll-Expr VarId x) ≡ x = out-roll-Expr VarId x in
      let right : out-Expr W (moved (roll-Expr VarId x)) ≡ move_step (map-Expr VarId (Expr VarId) (Expr W) moved x) =
      ap (out-Expr W) (fold-roll-Expr VarId (Expr W) (λ (z : Expr-F VarId (Expr W)). roll-Expr W (move_step z)) x)
      ∙ out-roll-Expr W (move_step (map-Expr VarId (Expr VarId) (Expr W) moved x)) in
      subst (λ (z : Level VarId). Renames IsMoved z (out-Expr W (moved (roll-Expr VarId x)))) (sym left)
      (subst (λ (z : Level W). Renames IsMoved x z) (sym right) at_x))
