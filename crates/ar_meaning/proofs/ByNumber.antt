-- Systems whose variables stand for themselves by number.
use Rattle.std.proofs.Common.{◌≡◌, ℕ, true, List, Contains, sym, ◌∙◌, ap, subst}
use Rattle.ar_base.specs.Lists.{Stands}
use Rattle.ar_base.proofs.Standing.{stands_one}
use Rattle.domains.specs.declared.Value.{Value}
use Rattle.ar_meaning.specs.Systems.{Variable, Net}
use Rattle.ar_meaning.specs.Facts.{Allows, HasValue, HasStateValue}
use Rattle.ar_meaning.specs.FactsInside.{AreKeyed, AreNumberedVariables}

module _ (net : Net ℕ) (numbered : AreNumberedVariables net) where
  pub keyed : AreKeyed net
  keyed = record { one = λ m n x y s r e. sym (numbered.key m x s) ∙ (e ∙ numbered.key n y r) }

  pub value_at : (t : List Value) (n : ℕ) (v : Value) → HasValue net t n v → Stands t n v
  value_at t n v h =
      let e : h.place ≡ n = sym (numbered.key h.place h.variable h.stands) ∙ h.is_key in
      subst (λ z. Stands t z v) e h.value

  pub value_from : (t : List Value) (n : ℕ) (x : Variable ℕ) (v : Value) → Stands net.variables n x → Stands t n v
      → HasValue net t n v
  value_from t n x v s h = record { place = n; variable = x; stands = s; is_key = numbered.key n x s; value = h }

  -- the variable of the number
  the_variable : (k n : ℕ) (x y : Variable ℕ) → Stands net.variables k y → y.key ≡ n → Stands net.variables n x → y ≡ x
  the_variable k n x y s e r =
      let i : k ≡ n = sym (numbered.key k y s) ∙ e in
      stands_one net.variables n y x (subst (λ z. Stands net.variables z y) i s) r

  pub given_at : (t : List Value) (n : ℕ) (x : Variable ℕ) (v : Value) → Stands net.variables n x → HasStateValue net t
      n v → (x.is_state ≡ true) × Stands t n v
  given_at t n x v s h =
      let e : h.place ≡ n = sym (numbered.key h.place h.variable h.stands) ∙ h.is_key in
      let i : h.variable ≡ x = the_variable h.place n x h.variable h.stands h.is_key s in
      (sym (ap (λ z. z.is_state) i) ∙ h.is_state, subst (λ z. Stands t z v) e h.value)

  pub given_from : (t : List Value) (n : ℕ) (x : Variable ℕ) (v : Value) → Stands net.variables n x → x.is_state ≡ true
      → Stands t n v → HasStateValue net t n v
  given_from t n x v s i h = record {
    place = n;
    variable = x;
    stands = s;
    is_key = numbered.key n x s;
    is_state = i;
    value = h;
  }

  pub allowed_at : (n : ℕ) (x : Variable ℕ) (v : Value) → Stands net.variables n x → Allows net n v
      → Contains x.domain v
  allowed_at n x v s h =
      let i : h.variable ≡ x = the_variable h.place n x h.variable h.stands h.is_key s in
      subst (λ z. Contains z.domain v) i h.has

  pub allowed_from : (n : ℕ) (x : Variable ℕ) (v : Value) → Stands net.variables n x → Contains x.domain v
      → Allows net n v
  allowed_from n x v s c = record { place = n; variable = x; stands = s; is_key = numbered.key n x s; has = c }
