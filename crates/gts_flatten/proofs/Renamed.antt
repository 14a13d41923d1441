-- Expressions that differ in their variables alone have as many nodes.
use Rattle.std.proofs.Common.{◌≡◌, ℕ, ◌+◌, Bool, List, map, refl, sym, ap, ◌∙◌}
use Rattle.typed_expr.specs.Yields.{Level}
use Rattle.typed_expr.specs.Renames.{Renames, All_rename, none, one_and, Parts_rename, no_part, part, Cases_rename, no_case, case_and}
use Rattle.typed_expr.specs.Renames as r
use Rattle.typed_expr.specs.declared.expr.Expr.{Expr, out-Expr}
use Rattle.typed_expr.specs.declared.expr.Expr.TheFolds.{fold_out-Expr, map-Expr}
use Rattle.ar_base.specs.Numbers.{VarId}
use Rattle.gts_core.specs.View.{numbered}
use Rattle.gts_core.proofs.Numbering.{renames_numbered}
use Rattle.gts_flatten.specs.Sizes.{total, total_marked, total_paired, form_nodes, nodes_of}

pub opened : {V : Type 0} (e : Expr V) → nodes_of e ≡ form_nodes (map-Expr V (Expr V) ℕ nodes_of (out-Expr V e))
opened {V = V} e = fold_out-Expr V ℕ form_nodes e

both : {V W : Type 0} (e : Expr V) (f : Expr W)
    → form_nodes (map-Expr V (Expr V) ℕ nodes_of (out-Expr V e))
    ≡ form_nodes (map-Expr W (Expr W) ℕ nodes_of (out-Expr W f)) → nodes_of e ≡ nodes_of f
both e f i = opened e ∙ (i ∙ sym (opened f))

two : (a b c d : ℕ) → a ≡ c → b ≡ d → a + b ≡ c + d
two a b c d i j = cc

module _ {V W : Type 0} {same : V → W → Type 0} where
  mutual
    pub level_nodes : {x : Level V} {y : Level W} → Renames same x y
        → form_nodes (map-Expr V (Expr V) ℕ nodes_of x) ≡ form_nodes (map-Expr W (Expr W) ℕ nodes_of y)
    level_nodes r.constant = refl
    level_nodes (r.variable k) = refl
    level_nodes (r.opposite {a = a} {b = b} k) = ap (λ (n : ℕ). n + 1) (both a.value b.value (level_nodes k))
    level_nodes (r.all k) = ap (λ (n : ℕ). n + 1) (all_nodes k)
    level_nodes (r.any k) = ap (λ (n : ℕ). n + 1) (all_nodes k)
    level_nodes (r.compared {a = a} {b = b} {c = c} {d = d} j k) =
        ap (λ (n : ℕ). n + 1) (two _ _ _ _ (both a.value c.value (level_nodes j))
        (both b.value d.value (level_nodes k)))
    level_nodes (r.sum k) = ap (λ (n : ℕ). n + 1) (term_nodes k)
    level_nodes (r.product k) = ap (λ (n : ℕ). n + 1) (all_nodes k)
    level_nodes (r.least k) = ap (λ (n : ℕ). n + 1) (all_nodes k)
    level_nodes (r.greatest k) = ap (λ (n : ℕ). n + 1) (all_nodes k)
    level_nodes (r.count k) = ap (λ (n : ℕ). n + 1) (all_nodes k)
    level_nodes (r.choice {a = a} {b = b} j k) =
        ap (λ (n : ℕ). n + 1) (two _ _ _ _ (case_nodes j) (both a.value b.value (level_nodes k)))

    all_nodes : {es : List (Expr V)} {fs : List (Expr W)} → All_rename same es fs
        → total (map nodes_of es) ≡ total (map nodes_of fs)
    all_nodes none = refl
    all_nodes (one_and {a = a} {b = b} k ks) = two _ _ _ _ (both a b (level_nodes k)) (all_nodes ks)

    term_nodes : {ps : List (Bool × Expr V)} {qs : List (Bool × Expr W)} → Parts_rename same ps qs
        → total_marked (map (λ (t : Bool × Expr V). (t.0, nodes_of t.1)) ps)
        ≡ total_marked (map (λ (t : Bool × Expr W). (t.0, nodes_of t.1)) qs)
    term_nodes no_part = refl
    term_nodes (part {a = a} {b = b} k ks) = two _ _ _ _ (both a b (level_nodes k)) (term_nodes ks)

    case_nodes : {cs : List (Expr V × Expr V)} {ds : List (Expr W × Expr W)} → Cases_rename same cs ds
        → total_paired (map (λ (c : Expr V × Expr V). (nodes_of c.0, nodes_of c.1)) cs)
        ≡ total_paired (map (λ (c : Expr W × Expr W). (nodes_of c.0, nodes_of c.1)) ds)
    case_nodes no_case = refl
    case_nodes (case_and {a = a} {b = b} {c = c} {d = d} j k ks) =
        two _ _ _ _ (two _ _ _ _ (both a c (level_nodes j)) (both b d (level_nodes k))) (case_nodes ks)

  -- expressions that differ in their variables alone have as many nodes
  pub renamed_nodes : (e : Expr V) (f : Expr W) → Renames same (out-Expr V e) (out-Expr W f) → nodes_of e ≡ nodes_of f
  renamed_nodes e f k = both e f (level_nodes k)

-- an expression over plain numbers has as many nodes
pub numbered_nodes : (e : Expr VarId) → nodes_of (numbered e) ≡ nodes_of e
numbered_nodes e = sym (both e (numbered e) (level_nodes (renames_numbered e)))
