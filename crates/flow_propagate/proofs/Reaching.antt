-- What tables make of conditions and of expressions.
use Rattle.std.proofs.Common.{◌≡◌, ℕ, ◌+◌, ◌<◌, ◌≤◌, Bool, List, [], ◌∷◌, map, length, drop, get_or, sym, ap, ◌∙◌, subst}
use Rattle.std.proofs.lemmas.List.{at_drop_more, at_drop_all}
use Rattle.domains.specs.declared.Value.{Value}
use Rattle.domains.specs.declared.Value.TheVariants.{Truth}
use Rattle.typed_expr.specs.Sets.{HasExactly}
use Rattle.typed_expr.specs.Yields.{Yields}
use Rattle.typed_expr.specs.YieldsInside.{facts_of}
use Rattle.typed_expr.specs.declared.expr.Expr.{Expr, out-Expr}
use Rattle.ar_meaning.specs.Facts.{PassesConditions, none, one_and}
use Rattle.ar_base.specs.Numbers.{VarId}
use Rattle.gts_core.specs.View.{numbered, condition_of}
use Rattle.gts_core.proofs.Numbering.{yields_numbered, yields_back}
use Rattle.typed_expr.specs.Rows.{Rows, known_row_at}
use Rattle.flow_propagate.specs.Table.{TableHolds}

-- the set of what the expression yields is that of its form over plain numbers
pub tells : (rows : Rows) (e : Expr VarId) (set : List Value)
    → HasExactly set (Yields (facts_of (λ (x : VarId). known_row_at rows x.n)) (out-Expr VarId e))
    → HasExactly set (Yields (TableHolds rows) (out-Expr ℕ (numbered e)))
tells rows e set h = record {
  sound = λ v c. yields_numbered (facts_of (λ (x : VarId). known_row_at rows x.n)) (TableHolds rows) e v (λ x w f. f)
      (h.sound v c);
  complete = λ v y. h.complete v (yields_back (facts_of (λ (x : VarId). known_row_at rows x.n)) (TableHolds rows) e v (λ x w f. f)
      y);
}

-- the conditions from a place on decide
pub record Decides (rows : Rows) (cs : List (Expr VarId × Bool)) (i : ℕ) : Type 0 where
  pub on : PassesConditions (TableHolds rows) (map condition_of (drop i cs))
      → PassesConditions (TableHolds rows) (map condition_of cs)
  pub off : PassesConditions (TableHolds rows) (map condition_of cs)
      → PassesConditions (TableHolds rows) (map condition_of (drop i cs))

pub decides_start : (rows : Rows) (cs : List (Expr VarId × Bool)) → Decides rows cs 0
decides_start rows cs = record { on = λ h. h; off = λ h. h }

module _ (rows : Rows) (cs : List (Expr VarId × Bool)) (i : ℕ) (c : Expr VarId × Bool) (h : i < length cs)
    (is : c ≡ get_or cs i c) where
  split : drop i cs ≡ c ∷ drop (i + 1) cs
  split = at_drop_more (λ (xs : List (Expr VarId × Bool)). xs) cs i c h
      ∙ ap (λ (z : Expr VarId × Bool). z ∷ drop (i + 1) cs) (sym is)

  head : (d : Expr ℕ × Bool) (ds : List (Expr ℕ × Bool)) → PassesConditions (TableHolds rows) (d ∷ ds)
      → Yields (TableHolds rows) (out-Expr ℕ d.0) (Truth d.1) × PassesConditions (TableHolds rows) ds
  head d ds (one_and y p) = (y, p)

  there : PassesConditions (TableHolds rows) (map condition_of (drop i cs))
      → Yields (TableHolds rows) (out-Expr ℕ (numbered c.0)) (Truth c.1)
      × PassesConditions (TableHolds rows) (map condition_of (drop (i + 1) cs))
  there p = head _ _ (subst (λ (xs : List (Expr VarId × Bool)). PassesConditions (TableHolds rows) (map condition_of xs))
      split p)

  back : Yields (TableHolds rows) (out-Expr ℕ (numbered c.0)) (Truth c.1)
      → PassesConditions (TableHolds rows) (map condition_of (drop (i + 1) cs))
      → PassesConditions (TableHolds rows) (map condition_of (drop i cs))
  back y p = subst (λ (xs : List (Expr VarId × Bool)). PassesConditions (TableHolds rows) (map condition_of xs)) (sym split)
      (one_and y p)

  pub decides_on : Decides rows cs i → Yields (TableHolds rows) (out-Expr ℕ (numbered c.0)) (Truth c.1)
      → Decides rows cs (i + 1)
  decides_on r y = record { on = λ p. r.on (back y p); off = λ p. (there (r.off p)).1 }

  pub decides_not : Decides rows cs i → (Yields (TableHolds rows) (out-Expr ℕ (numbered c.0)) (Truth c.1) → ⊥)
      → PassesConditions (TableHolds rows) (map condition_of cs) → ⊥
  decides_not r n p = n (there (r.off p)).0

pub decides_all : (rows : Rows) (cs : List (Expr VarId × Bool)) (i : ℕ) → length cs ≤ i → Decides rows cs i
    → PassesConditions (TableHolds rows) (map condition_of cs)
decides_all rows cs i h r =
    let e : drop i cs ≡ [] = at_drop_all (λ (xs : List (Expr VarId × Bool)). xs) cs i h in
    r.on (subst (λ (xs : List (Expr VarId × Bool)). PassesConditions (TableHolds rows) (map condition_of xs)) (sym e) none)
