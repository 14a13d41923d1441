-- What the expressions of the worked cases yield.
use Rattle.std.proofs.Common.{◌≡◌, ◌⊎◌, ⊎_elim, inl, inr, ℕ, Bool, true, false, not, [], ◌∷◌, Box, Vec, refl, sym, subst}
use Rattle.std.specs.Global.{Global}
use Rattle.domains.specs.declared.Value.{Value}
use Rattle.domains.specs.declared.Value.TheVariants.{Truth}
use Rattle.typed_expr.specs.Yields.{Yields, constant, variable, opposite, one_true, all_false, compared, Some_yields, here, later, All_yield, none, one_and}
use Rattle.typed_expr.specs.Values.{is_related}
use Rattle.typed_expr.specs.declared.expr.Relation.TheVariants.{Equal}
use Rattle.typed_expr.specs.declared.expr.Expr.{Expr, out-Expr}
use Rattle.typed_expr.specs.declared.expr.Expr.TheOpen as form
use Rattle.ar_meaning.specs.Cases.{IsConstantValue, IsPlainVariable, IsNegation, IsEither, IsEqual, IsSwitchClosed, closed}

module _ (P : ℕ → Value → Type 0) where
  at_constant : (c v : Value) → Yields P (form.Constant c) v → v ≡ c
  at_constant c v constant = refl

  at_variable : (n : ℕ) (v : Value) → Yields P (form.Variable n) v → P n v
  at_variable n v (variable h) = h

  at_not : (a : Box (Expr ℕ) Global) (v : Value) → Yields P (form.Not a) v
      → (b : Bool) × Yields P (out-Expr ℕ a.value) (Truth b) × (v ≡ Truth (not b))
  at_not a v (opposite {b = b} d) = (b, d, refl)

  at_any : (es : Vec (Expr ℕ) Global) (v : Value) → Yields P (form.Any es) v →
      (Some_yields P es.items (Truth true) × (v ≡ Truth true)) ⊎
      (All_yield P es.items (Truth false) × (v ≡ Truth false))
  at_any es v (one_true d) = inl (d, refl)
  at_any es v (all_false d) = inr (d, refl)

  at_equal : (a b : Box (Expr ℕ) Global) (v : Value) → Yields P (form.Compare Equal a b) v
      → (x : Value) × (y : Value) × Yields P (out-Expr ℕ a.value) x × Yields P (out-Expr ℕ b.value) y
      × (v ≡ Truth (is_related Equal x y))
  at_equal a b v (compared {v = x} {w = y} d e) = (x, y, d, e, refl)

  some_of_two : (a b : Expr ℕ) (v : Value) → Some_yields P (a ∷ b ∷ []) v
      → Yields P (out-Expr ℕ a) v ⊎ Yields P (out-Expr ℕ b) v
  some_of_two a b v (here d) = inl d
  some_of_two a b v (later (here d)) = inr d
  some_of_two a b v (later (later d)) = elim d [ ]

  all_of_two : (a b : Expr ℕ) (v : Value) → All_yield P (a ∷ b ∷ []) v
      → Yields P (out-Expr ℕ a) v × Yields P (out-Expr ℕ b) v
  all_of_two a b v (one_and d (one_and e none)) = (d, e)

  pub constant_is : (e : Expr ℕ) (c v : Value) → IsConstantValue e c → Yields P (out-Expr ℕ e) v → v ≡ c
  constant_is e c v i d = at_constant c v (subst (λ z. Yields P z v) i d)

  pub constant_yields : (e : Expr ℕ) (c : Value) → IsConstantValue e c → Yields P (out-Expr ℕ e) c
  constant_yields e c i = subst (λ z. Yields P z c) (sym i) constant

  pub variable_is : (e : Expr ℕ) (n : ℕ) (v : Value) → IsPlainVariable e n → Yields P (out-Expr ℕ e) v → P n v
  variable_is e n v i d = at_variable n v (subst (λ z. Yields P z v) i d)

  pub variable_yields : (e : Expr ℕ) (n : ℕ) (v : Value) → IsPlainVariable e n → P n v → Yields P (out-Expr ℕ e) v
  variable_yields e n v i h = subst (λ z. Yields P z v) (sym i) (variable h)

  pub not_is : (e a : Expr ℕ) (v : Value) → IsNegation e a → Yields P (out-Expr ℕ e) v
      → (b : Bool) × Yields P (out-Expr ℕ a) (Truth b) × (v ≡ Truth (not b))
  not_is e a v i d =
      let r = at_not i.operand v (subst (λ z. Yields P z v) i.is d) in
      (r.0, subst (λ z. Yields P (out-Expr ℕ z) (Truth r.0)) i.is_operand r.1, r.2)

  pub not_yields : (e a : Expr ℕ) (b : Bool) → IsNegation e a → Yields P (out-Expr ℕ a) (Truth b)
      → Yields P (out-Expr ℕ e) (Truth (not b))
  not_yields e a b i d =
      subst (λ z. Yields P z (Truth (not b))) (sym i.is)
      (opposite (subst (λ z. Yields P (out-Expr ℕ z) (Truth b)) (sym i.is_operand) d))

  pub either_is : (e a b : Expr ℕ) (v : Value) → IsEither e a b → Yields P (out-Expr ℕ e) v
      → ((Yields P (out-Expr ℕ a) (Truth true) ⊎ Yields P (out-Expr ℕ b) (Truth true)) × (v ≡ Truth true))
      ⊎ (Yields P (out-Expr ℕ a) (Truth false) × Yields P (out-Expr ℕ b) (Truth false) × (v ≡ Truth false))
  either_is e a b v i d = ⊎_elim
      (λ r. inl (some_of_two a b (Truth true) (subst (λ z. Some_yields P z (Truth true)) i.are_operands r.0), r.1))
      (λ r. let k = all_of_two a b (Truth false) (subst (λ z. All_yield P z (Truth false)) i.are_operands r.0) in inr (k.0, k.1, r.1))
      (at_any i.operands v (subst (λ z. Yields P z v) i.is d))

  pub second_yields : (e a b : Expr ℕ) → IsEither e a b → Yields P (out-Expr ℕ b) (Truth true)
      → Yields P (out-Expr ℕ e) (Truth true)
  second_yields e a b i d =
      subst (λ z. Yields P z (Truth true)) (sym i.is)
      (one_true (subst (λ z. Some_yields P z (Truth true)) (sym i.are_operands) (later (here d))))

  pub equal_is : (e a b : Expr ℕ) (v : Value) → IsEqual e a b → Yields P (out-Expr ℕ e) v → (x : Value) ×
      (y : Value) × Yields P (out-Expr ℕ a) x × Yields P (out-Expr ℕ b) y × (v ≡ Truth (is_related Equal x y))
  equal_is e a b v i d =
      let r = at_equal i.left i.right v (subst (λ z. Yields P z v) i.is d) in (
        r.0,
        r.1,
        subst (λ z. Yields P (out-Expr ℕ z) r.0) i.is_left r.2,
        subst (λ z. Yields P (out-Expr ℕ z) r.1)
            i.is_right r.3,
        r.4,
      )

  -- whether the switch is closed
  pub closed_is : (e : Expr ℕ) (v : Value) → IsSwitchClosed e → Yields P (out-Expr ℕ e) v
      → (x : Value) × P 0 x × (v ≡ Truth (is_related Equal x closed))
  closed_is e v i d =
      let r = equal_is e i.switch i.value v i.is d in
      let k : r.1 ≡ closed = constant_is i.value closed r.1 i.is_value r.3 in
      (r.0, variable_is i.switch 0 r.0 i.is_switch r.2, subst (λ z. v ≡ Truth (is_related Equal r.0 z)) k r.4)

  pub closed_yields : (e : Expr ℕ) (x : Value) → IsSwitchClosed e → P 0 x
      → Yields P (out-Expr ℕ e) (Truth (is_related Equal x closed))
  closed_yields e x i h =
      let l = subst (λ z. Yields P (out-Expr ℕ z) x) (sym i.is.is_left) (variable_yields i.switch 0 x i.is_switch h) in
      let r =
      subst (λ z. Yields P (out-Expr ℕ z) closed) (sym i.is.is_right) (constant_yields i.value closed i.is_value) in
      subst (λ z. Yields P z (Truth (is_related Equal x closed))) (sym i.is.is) (compared l r)
