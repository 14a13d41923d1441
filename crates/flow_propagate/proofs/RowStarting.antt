-- The first rows, one after the other.
use Rattle.std.proofs.Common.{◌≡◌, ℕ, ◌+◌, ◌<◌, cond, Option, Vec, Global, List, [], ◌∷◌, ◌++◌, inl, inr, length-append, refl, sym, ap, ◌∙◌, subst, arith}
use Rattle.ar_base.specs.Lists.{Stands}
use Rattle.ar_base.proofs.Standing.{at_most, stands_left, stands_next, stands_one, stands_some}
use Rattle.domains.specs.declared.Value.{Value}
use Rattle.gts_core.specs.declared.system.Variable.{Variable}
use Rattle.typed_expr.specs.Rows.{Rows, row_values, known_row_at}
use Rattle.flow_propagate.specs.Rows.{Starts}

pub first_starts : (xs : List Variable) (t : List Value) → Starts xs t 0 []
first_starts xs t = record { long = refl; row = λ n x v h sx sv. absurd (omega (arith, h)) }

-- one row more
pub more_starts : (xs : List Variable) (t : List Value) (i : ℕ) (x : Variable) (v : Value) (row : Vec Value Global)
    (old new : Rows) → Stands xs i x → Stands t i v → row.items ≡ cond x.is_state (v ∷ []) [] → new ≡ old ++ row ∷ []
    → Starts xs t i old → Starts xs t (i + 1) new
more_starts xs t i x v row old new sx sv is e before =
    subst (λ (z : Rows). Starts xs t (i + 1) z) (sym e) (record {
      long = (let l = length-append old (row ∷ []) in omega (arith, l, before.long));
      row = λ n y w h sy sw. elim (at_most n i h) [ inl l ↦ kept n y w l sy sw | inr q ↦ here n y w q sy sw ];
    })
  where
    kept : (n : ℕ) (y : Variable) (w : Value) → n < i → Stands xs n y → Stands t n w
        → known_row_at (old ++ row ∷ []) n ≡ cond y.is_state (w ∷ []) []
    kept n y w l sy sw =
        let r = stands_some old n (omega (arith, l, before.long)) in
        ap (λ (z : Option (Vec Value Global)). row_values z) (stands_left old (row ∷ []) n r.0 r.1)
        ∙ sym (ap (λ (z : Option (Vec Value Global)). row_values z) r.1) ∙ before.row n y w l sy sw

    here : (n : ℕ) (y : Variable) (w : Value) → n ≡ i → Stands xs n y → Stands t n w
        → known_row_at (old ++ row ∷ []) n ≡ cond y.is_state (w ∷ []) []
    here n y w q sy sw =
        let a : x ≡ y = stands_one xs i x y sx (subst (λ (z : ℕ). Stands xs z y) q sy) in
        let b : v ≡ w = stands_one t i v w sv (subst (λ (z : ℕ). Stands t z w) q sw) in
        let at : Stands (old ++ row ∷ []) n row =
        subst (λ (z : ℕ). Stands (old ++ row ∷ []) z row) (before.long ∙ sym q) (stands_next old row []) in
        ap (λ (z : Option (Vec Value Global)). row_values z) at ∙ is
        ∙ ap (λ (z : Variable). cond z.is_state (v ∷ []) []) a ∙ ap (λ (z : Value). cond y.is_state (z ∷ []) []) b
