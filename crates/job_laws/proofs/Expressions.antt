-- The text of an expression rests on the numbers of its variables, and on what variables and symbols are called.
use Rattle.std.proofs.Common.{◌≡◌, ℕ, Bool, true, List, ◌∷◌, ◌++◌, map, codes, refl, sym, ap, ◌∙◌}
use Rattle.ar_base.specs.Numbers.{VarId}
use Rattle.ar_base.specs.Texts.{separated}
use Rattle.typed_expr.specs.PairsInside.{turned_pairs}
use Rattle.typed_expr.specs.Yields.{Level}
use Rattle.typed_expr.specs.Renames.{Renames, All_rename, Parts_rename, Cases_rename}
use Rattle.typed_expr.specs.Renames as r
use Rattle.typed_expr.specs.declared.expr.Expr.{Expr, out-Expr}
use Rattle.typed_expr.specs.declared.expr.Expr.TheFolds.{fold_out-Expr, map-Expr}
use Rattle.typed_expr.proofs.Renaming.{renames_turned, renames_joined}
use Rattle.ar_meaning.specs.ValueTexts.{value_text}
use Rattle.gts_core.specs.Printed.{path_at, summed, choice_text, relation_text, text_step, expr_text}
use Rattle.gts_core.specs.View.{numbered}
use Rattle.gts_core.specs.declared.system.GtsParts.{GtsParts}
use Rattle.gts_core.proofs.Numbering.{IsNumber, renames_numbered}

-- the same number
abbrev pub Same : ℕ → ℕ → Type 0
Same m n = m ≡ n

-- variables of one number
abbrev OfOneNumber : VarId → VarId → Type 0
OfOneNumber x y = x.n ≡ y.n

-- a list with another first item and other items behind it
pub items_one : {A : Type 0} {x y : A} {xs ys : List A} → x ≡ y → xs ≡ ys → x ∷ xs ≡ y ∷ ys
items_one e f = cc

-- what is numbered alike has variables of one number at each place
named_alike : (e f : Expr VarId) → Renames Same (out-Expr ℕ (numbered e)) (out-Expr ℕ (numbered f))
    → Renames OfOneNumber (out-Expr VarId e) (out-Expr VarId f)
named_alike e f d =
    renames_joined IsNumber (turned_pairs IsNumber) OfOneNumber (λ x n y i j. i ∙ sym j)
    (renames_joined IsNumber Same IsNumber (λ x m n i j. i ∙ j) (renames_numbered e) d)
    (renames_turned IsNumber (renames_numbered f))

module _ (p q : GtsParts) (symbols : p.symbols.items ≡ q.symbols.items) (paths : (n : ℕ) → path_at p n ≡ path_at q n)
  where
    abbrev level_text : GtsParts → Level VarId → List ℕ
    level_text g x = text_step g (map-Expr VarId (Expr VarId) (List ℕ) (expr_text g) x)

    rolled : (e f : Expr VarId) → level_text p (out-Expr VarId e) ≡ level_text q (out-Expr VarId f)
        → expr_text p e ≡ expr_text q f
    rolled e f i = fold_out-Expr VarId (List ℕ) (text_step p) e ∙ i ∙ sym (fold_out-Expr VarId (List ℕ) (text_step q) f)

    -- a case with the texts of its test and value
    abbrev case_texts : GtsParts → Expr VarId × Expr VarId → List ℕ × List ℕ
    case_texts g c = (expr_text g c.0, expr_text g c.1)

    -- a part of a sum with its text
    abbrev part_text : GtsParts → Bool × Expr VarId → Bool × List ℕ
    part_text g t = (t.0, expr_text g t.1)

    mutual
      levels_one : {x y : Level VarId} → Renames OfOneNumber x y → level_text p x ≡ level_text q y
      levels_one (r.constant {v = v}) = ap (λ (z : List (List ℕ)). value_text z v) symbols
      levels_one (r.variable {x = x} {y = y} e) = paths x.n ∙ ap (path_at q) e
      levels_one (r.opposite {a = a} {b = b} d) =
          ap (λ (z : List ℕ). codes "(not " ++ z ++ codes ")") (rolled a.value b.value (levels_one d))
      levels_one (r.all d) =
          ap (λ (z : List (List ℕ)). codes "(" ++ separated true (codes " and ") z ++ codes ")") (all_one d)
      levels_one (r.any d) =
          ap (λ (z : List (List ℕ)). codes "(" ++ separated true (codes " or ") z ++ codes ")") (all_one d)
      levels_one (r.compared {r = s} {a = a} {b = b} {c = c} {d = d} i j) =
          ap (λ (z : List ℕ). codes "(" ++ z ++ relation_text s ++ expr_text p b.value ++ codes ")")
          (rolled a.value c.value (levels_one i))
          ∙ ap (λ (z : List ℕ). codes "(" ++ expr_text q c.value ++ relation_text s ++ z ++ codes ")")
          (rolled b.value d.value (levels_one j))
      levels_one (r.sum d) =
          ap (λ (z : List (Bool × List ℕ)). codes "(" ++ summed true z ++ codes ")") (parts_one d)
      levels_one (r.product d) =
          ap (λ (z : List (List ℕ)). codes "(" ++ separated true (codes " * ") z ++ codes ")") (all_one d)
      levels_one (r.least d) =
          ap (λ (z : List (List ℕ)). codes "min(" ++ separated true (codes ", ") z ++ codes ")") (all_one d)
      levels_one (r.greatest d) =
          ap (λ (z : List (List ℕ)). codes "max(" ++ separated true (codes ", ") z ++ codes ")") (all_one d)
      levels_one (r.count d) =
          ap (λ (z : List (List ℕ)). codes "count(" ++ separated true (codes ", ") z ++ codes ")") (all_one d)
      levels_one (r.choice {cs = cs} {ds = ds} {a = a} {b = b} i j) =
          ap (λ (z : List (List ℕ × List ℕ)). choice_text z (expr_text p a.value)) (cases_one i)
          ∙ ap (λ (z : List ℕ). choice_text (map (case_texts q) ds.items) z) (rolled a.value b.value (levels_one j))

      all_one : {es fs : List (Expr VarId)} → All_rename OfOneNumber es fs → map (expr_text p) es ≡ map (expr_text q) fs
      all_one r.none = refl
      all_one (r.one_and {a = a} {b = b} d ds) = items_one (rolled a b (levels_one d)) (all_one ds)

      parts_one : {es fs : List (Bool × Expr VarId)} → Parts_rename OfOneNumber es fs
          → map (part_text p) es ≡ map (part_text q) fs
      parts_one r.no_part = refl
      parts_one (r.part {plus = s} {a = a} {b = b} d ds) =
          items_one (ap (λ (z : List ℕ). (s, z)) (rolled a b (levels_one d))) (parts_one ds)

      cases_one : {es fs : List (Expr VarId × Expr VarId)} → Cases_rename OfOneNumber es fs
          → map (case_texts p) es ≡ map (case_texts q) fs
      cases_one r.no_case = refl
      cases_one (r.case_and {a = a} {b = b} {c = c} {d = d} i j ds) =
          items_one (ap (λ (z : List ℕ). (z, expr_text p b)) (rolled a c (levels_one i))
          ∙ ap (λ (z : List ℕ). (expr_text q c, z)) (rolled b d (levels_one j))) (cases_one ds)

    -- expressions that are numbered alike have one text
    pub expr_one : (e f : Expr VarId) → Renames Same (out-Expr ℕ (numbered e)) (out-Expr ℕ (numbered f))
        → expr_text p e ≡ expr_text q f
    expr_one e f d = rolled e f (levels_one (named_alike e f d))
