-- Whether a variable stands in an expression can be told where it can be told whether two variables are one.
use Rattle.std.proofs.Common.{◌≡◌, ◌⊎◌, inl, inr, Bool, List, [], ◌∷◌, map, refl, sym, subst}
use Rattle.typed_expr.specs.Yields.{Level}
use Rattle.typed_expr.specs.Mentions.{Mentions, Some_mentions, Parts_mention, Cases_mention}
use Rattle.typed_expr.specs.Mentions as m
use Rattle.typed_expr.specs.declared.expr.Expr.{Expr, out-Expr, out-roll-Expr}
use Rattle.typed_expr.specs.declared.expr.Expr.TheOpen.{Expr-F, Constant, Variable, Not, All, Any, Compare, Sum, Product, Least, Greatest, Count, Choose}
use Rattle.typed_expr.specs.declared.expr.Expr.TheFolds.{ind-Expr, map-Expr}
use Rattle.typed_expr.proofs.Listing.{Told}

told_as : {A C : Type 0} → Told A → (A → C) → (C → A) → Told C
told_as (inl a) on back = inl (on a)
told_as (inr n) on back = inr (λ c. n (back c))

told_or : {A B C : Type 0} → Told A → Told B → (A → C) → (B → C) → (C → A ⊎ B) → Told C
told_or (inl a) t f g back = inl (f a)
told_or (inr n) (inl b) f g back = inl (g b)
told_or (inr n) (inr k) f g back = inr (λ c. elim (back c) [ inl a ↦ n a | inr b ↦ k b ])

module _ {V : Type 0} (key_told : (x y : V) → Told (x ≡ y)) (x : V) where
  -- an expression of which it is told
  abbrev Operand : Type 0
  Operand = (e : Expr V) × Told (Mentions x (out-Expr V e))

  abbrev exprs : List Operand → List (Expr V)
  exprs ds = map (λ (d : Operand). d.0) ds

  some_told : (ds : List Operand) → Told (Some_mentions x (exprs ds))
  some_told [] = inr (λ h. elim h [ ])
  some_told (d ∷ ds) =
      told_or d.1 (some_told ds) (λ h. m.here h) (λ h. m.later h) (λ h. elim h [ m.here k ↦ inl k | m.later k ↦ inr k ])

  abbrev terms : List (Bool × Operand) → List (Bool × Expr V)
  terms ds = map (λ (p : Bool × Operand). (p.0, p.1.0)) ds

  parts_told : (ds : List (Bool × Operand)) → Told (Parts_mention x (terms ds))
  parts_told [] = inr (λ h. elim h [ ])
  parts_told ((plus, d) ∷ ds) =
      told_or d.1 (parts_told ds) (λ h. m.this_part h) (λ h. m.later_part h)
      (λ h. elim h [ m.this_part k ↦ inl k | m.later_part k ↦ inr k ])

  abbrev cases : List (Operand × Operand) → List (Expr V × Expr V)
  cases cs = map (λ (c : Operand × Operand). (c.0.0, c.1.0)) cs

  cases_told : (cs : List (Operand × Operand)) → Told (Cases_mention x (cases cs))
  cases_told [] = inr (λ h. elim h [ ])
  cases_told ((test, value) ∷ cs) =
      told_or
      (told_or {C = Mentions x (out-Expr V test.0) ⊎ Mentions x (out-Expr V value.0)} test.1 value.1 (λ h. inl h)
      (λ h. inr h) (λ h. h))
      (cases_told cs)
      (λ h. elim h [ inl k ↦ m.in_test k | inr k ↦ m.in_value k ]) (λ h. m.later_case h)
      (λ h. elim h [ m.in_test k ↦ inl (inl k) | m.in_value k ↦ inl (inr k) | m.later_case k ↦ inr k ])

  -- one form, from its operands
  abbrev opened : Expr-F V Operand → Level V
  opened d = map-Expr V Operand (Expr V) (λ e. e.0) d

  variable_is : {y : V} → Mentions x (Variable y) → y ≡ x
  variable_is m.itself = refl

  form_told : (d : Expr-F V Operand) → Told (Mentions x (opened d))
  form_told (Constant v) = inr (λ h. elim h [ ])
  form_told (Variable y) =
      told_as (key_told y x) (λ e. subst (λ (z : V). Mentions x (Variable z)) (sym e) m.itself) (λ h. variable_is h)
  form_told (Not a) = told_as a.value.1 (λ h. m.in_not h) (λ h. elim h [ m.in_not k ↦ k ])
  form_told (All es) = told_as (some_told es.items) (λ h. m.in_all h) (λ h. elim h [ m.in_all k ↦ k ])
  form_told (Any es) = told_as (some_told es.items) (λ h. m.in_any h) (λ h. elim h [ m.in_any k ↦ k ])
  form_told (Compare r a b) =
      told_or a.value.1 b.value.1 (λ h. m.in_left h) (λ h. m.in_right h)
      (λ h. elim h [ m.in_left k ↦ inl k | m.in_right k ↦ inr k ])
  form_told (Sum ps) = told_as (parts_told ps.items) (λ h. m.in_sum h) (λ h. elim h [ m.in_sum k ↦ k ])
  form_told (Product es) = told_as (some_told es.items) (λ h. m.in_product h) (λ h. elim h [ m.in_product k ↦ k ])
  form_told (Least es) = told_as (some_told es.items) (λ h. m.in_least h) (λ h. elim h [ m.in_least k ↦ k ])
  form_told (Greatest es) = told_as (some_told es.items) (λ h. m.in_greatest h) (λ h. elim h [ m.in_greatest k ↦ k ])
  form_told (Count es) = told_as (some_told es.items) (λ h. m.in_count h) (λ h. elim h [ m.in_count k ↦ k ])
  form_told (Choose cs other) =
      told_or (cases_told cs.items) other.value.1 (λ h. m.in_cases h) (λ h. m.in_other h)
      (λ h. elim h [ m.in_cases k ↦ inl k | m.in_other k ↦ inr k ])

  -- whether the variable stands in the expression
  pub mentions_told : (e : Expr V) → Told (Mentions x (out-Expr V e))
  mentions_told = ind-Expr V (λ e. Told (Mentions x (out-Expr V e)))
      (λ y d is. subst (λ z. Told (Mentions x z)) (sym (out-roll-Expr V y))
      (subst (λ z. Told (Mentions x z)) is (form_told d)))
