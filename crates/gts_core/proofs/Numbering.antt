-- An expression over plain numbers is the expression with the numbers of its variables in their places.
use Rattle.std.proofs.Common.{◌≡◌, ℕ, Bool, List, [], ◌∷◌, map, refl, sym, ap, ◌∙◌, subst}
use Rattle.domains.specs.declared.Value.{Value}
use Rattle.typed_expr.specs.PairsInside.{turned_pairs}
use Rattle.typed_expr.specs.Yields.{Level, Yields}
use Rattle.typed_expr.specs.Renames.{Renames, All_rename, Parts_rename, Cases_rename}
use Rattle.typed_expr.specs.Renames as r
use Rattle.typed_expr.proofs.Renaming.{carries, renames_turned, renames_joined}
use Rattle.typed_expr.specs.declared.expr.Expr.{Expr, out-Expr, roll-Expr, out-roll-Expr}
use Rattle.typed_expr.specs.declared.expr.Expr.TheOpen.{Expr-F, Constant, Variable, Not, All, Any, Compare, Sum, Product, Least, Greatest, Count, Choose}
use Rattle.typed_expr.specs.declared.expr.Expr.TheFolds.{ind-Expr, map-Expr, fold-roll-Expr}
use Rattle.ar_base.specs.Lists.{Stands}
use Rattle.ar_base.specs.Numbers.{VarId}
use Rattle.gts_core.specs.View.{numbered, number_step}
use Rattle.gts_core.specs.Copies.{IsSame, IsCopy}

-- the number stands for the variable
abbrev pub IsNumber : VarId → ℕ → Type 0
IsNumber x n = x.n ≡ n

-- the expression and its numbered form differ in their variables alone
abbrev pub IsNumbered : Expr VarId → Type 0
IsNumbered e = Renames IsNumber (out-Expr VarId e) (out-Expr ℕ (numbered e))

abbrev Proved : Type 0
Proved = (e : Expr VarId) × IsNumbered e

each : (es : List Proved) → All_rename IsNumber (map (λ (e : Proved). e.0) es)
    (map numbered (map (λ (e : Proved). e.0) es))
each [] = r.none
each (e ∷ es) = r.one_and e.1 (each es)

each_part : (ps : List (Bool × Proved))
    → Parts_rename IsNumber (map (λ (p : Bool × Proved). (p.0, p.1.0)) ps)
    (map (λ (p : Bool × Expr VarId). (p.0, numbered p.1)) (map (λ (p : Bool × Proved). (p.0, p.1.0)) ps))
each_part [] = r.no_part
each_part (p ∷ ps) = r.part p.1.1 (each_part ps)

each_case : (cs : List (Proved × Proved))
    → Cases_rename IsNumber (map (λ (c : Proved × Proved). (c.0.0, c.1.0)) cs)
    (map (λ (c : Expr VarId × Expr VarId). (numbered c.0, numbered c.1))
    (map (λ (c : Proved × Proved). (c.0.0, c.1.0)) cs))
each_case [] = r.no_case
each_case (c ∷ cs) = r.case_and c.0.1 c.1.1 (each_case cs)

layer : (y : Expr-F VarId Proved) → Renames IsNumber (map-Expr VarId Proved (Expr VarId) (λ e. e.0) y)
    (number_step (map-Expr VarId (Expr VarId) (Expr ℕ) numbered (map-Expr VarId Proved (Expr VarId) (λ e. e.0) y)))
layer (Constant v) = r.constant
layer (Variable x) = r.variable refl
layer (Not a) = r.opposite a.value.1
layer (All es) = r.all (each es.items)
layer (Any es) = r.any (each es.items)
layer (Compare op a b) = r.compared a.value.1 b.value.1
layer (Sum ps) = r.sum (each_part ps.items)
layer (Product es) = r.product (each es.items)
layer (Least es) = r.least (each es.items)
layer (Greatest es) = r.greatest (each es.items)
layer (Count es) = r.count (each es.items)
layer (Choose cs other) = r.choice (each_case cs.items) other.value.1

pub renames_numbered : (e : Expr VarId) → IsNumbered e
renames_numbered = ind-Expr VarId IsNumbered (λ x y is.
    let at_x : Renames IsNumber x (number_step (map-Expr VarId (Expr VarId) (Expr ℕ) numbered x)) =
    subst (λ (z : Level VarId). Renames IsNumber z (number_step (map-Expr VarId (Expr VarId) (Expr ℕ) numbered z))) is
    (layer y) in
    let left : out-Expr VarId (roll-Expr VarId x) ≡ x = out-roll-Expr VarId x in
    let right : out-Expr ℕ (numbered (roll-Expr VarId x))
    ≡ number_step (map-Expr VarId (Expr VarId) (Expr ℕ) numbered x) =
    ap (out-Expr ℕ) (fold-roll-Expr VarId (Expr ℕ) (λ (z : Expr-F VarId (Expr ℕ)). roll-Expr ℕ (number_step z)) x)
    ∙ out-roll-Expr ℕ (number_step (map-Expr VarId (Expr VarId) (Expr ℕ) numbered x)) in
    subst (λ (z : Level VarId). Renames IsNumber z (out-Expr ℕ (numbered (roll-Expr VarId x)))) (sym left)
    (subst (λ (z : Level ℕ). Renames IsNumber x z) (sym right) at_x))

-- the numbered form yields what the expression does, where the facts are the same by number
module _ (facts : VarId → Value → Type 0) (others : ℕ → Value → Type 0) (e : Expr VarId) (v : Value) where
  pub yields_numbered : ((x : VarId) (w : Value) → facts x w → others x.n w) → Yields facts (out-Expr VarId e) v
      → Yields others (out-Expr ℕ (numbered e)) v
  yields_numbered same h = carries VarId ℕ facts others IsNumber
      (λ x n w i f. subst (λ (k : ℕ). others k w) i (same x w f)) h (renames_numbered e)

  pub yields_back : ((x : VarId) (w : Value) → others x.n w → facts x w) → Yields others (out-Expr ℕ (numbered e)) v
      → Yields facts (out-Expr VarId e) v
  yields_back same h = carries ℕ VarId others facts (turned_pairs IsNumber)
      (λ n x w i f. same x w (subst (λ (k : ℕ). others k w) (sym i) f)) h (renames_turned IsNumber (renames_numbered e))

-- the numbered form of a copy is a copy of the numbered form
pub copy_numbered : (e f : Expr VarId) → IsCopy e f
    → Renames (λ (m n : ℕ). m ≡ n) (out-Expr ℕ (numbered e)) (out-Expr ℕ (numbered f))
copy_numbered e f k =
    renames_joined (turned_pairs IsNumber) IsNumber (λ (m n : ℕ). m ≡ n) (λ m x n i j. sym i ∙ j)
    (renames_turned IsNumber (renames_numbered e))
    (renames_joined IsSame IsNumber IsNumber (λ x y n i j. ap (λ (z : VarId). z.n) i ∙ j) k (renames_numbered f))

-- an expression whose variables have the numbers of a bound one has those of its numbered form
pub source_numbered : {V : Type 0} (things : List V) (e : Expr V) (f : Expr VarId)
    → Renames (λ x (y : VarId). Stands things y.n x) (out-Expr V e) (out-Expr VarId f)
    → Renames (λ x n. Stands things n x) (out-Expr V e) (out-Expr ℕ (numbered f))
source_numbered {V = V} things e f k =
    renames_joined (λ x (y : VarId). Stands things y.n x) IsNumber (λ x n. Stands things n x)
    (λ x y n s i. subst (λ z. Stands things z x) i s) k (renames_numbered f)
