-- Valuations in which new values are written.
use Rattle.std.proofs.Common.{◌≡◌, ◌+◌, ◌⊎◌, ℕ, zero, suc, List, [], ◌∷◌, length, set, refl, sym, ap, ◌∙◌, subst, inl, inr, arith}
use Rattle.ar_base.specs.Lists.{Stands, IsOneOf}
use Rattle.ar_base.specs.Numbers.{VarId}
use Rattle.ar_base.proofs.Standing.{stands_one, stands_none, one_first, one_rest, one_cases}
use Rattle.domains.specs.Domains.{Holds}
use Rattle.domains.specs.declared.Value.{Value}
use Rattle.ar_meaning.specs.Steps.{Receives, changed, kept}
use Rattle.ar_meaning.specs.Steps as steps
use Rattle.gts_core.specs.View.{variable_of, variables_from}
use Rattle.gts_core.specs.Readings.{IsTotal}
use Rattle.gts_core.specs.declared.system.Variable.{Variable}
use Rattle.gts_core.specs.declared.system.GtsParts.{GtsParts}
use Rattle.flow_propagate.specs.Answers.{IsState}
use Rattle.flow_propagate.specs.NewValues.{AreNewValues, written}
use Rattle.flow_propagate.proofs.Written.{written_long}

module _ {A : Type 0} where
  -- what stands in a list where one item was set
  set_stands : (xs : List A) (n : ℕ) (b : A) (k : ℕ) (a : A) → Stands (set xs n b) k a
      → (Stands xs k a × (k ≡ n → ⊥)) ⊎ ((k ≡ n) × (a ≡ b))
  set_stands [] zero b zero a h = cc
  set_stands [] zero b (suc k) a h = cc
  set_stands [] (suc n) b zero a h = cc
  set_stands [] (suc n) b (suc k) a h = cc
  set_stands (x ∷ xs) zero b zero a h = inr (refl, cc)
  set_stands (x ∷ xs) zero b (suc k) a h = inl (h, λ e. omega (arith, e))
  set_stands (x ∷ xs) (suc n) b zero a h = inl (h, λ e. omega (arith, e))
  set_stands (x ∷ xs) (suc n) b (suc k) a h =
      elim (set_stands xs n b k a h) [ inl i ↦ inl (i.0, λ e. i.1 (omega (arith, e))) | inr i ↦ inr (ap suc i.0, i.1) ]

-- one of the pairs writes this value
pub record Writes (new : List (VarId × Value)) (n : ℕ) (v : Value) : Type 0 where
  pub pair : VarId × Value
  pub is_one : IsOneOf new pair
  pub number : pair.0.n ≡ n
  pub value : pair.1 ≡ v

-- no pair writes a value there
abbrev pub IsUnwritten : List (VarId × Value) → ℕ → Type 0
IsUnwritten new n = (r : VarId × Value) → IsOneOf new r → r.0.n ≡ n → ⊥

-- a value that was written, or the old one where none was
pub written_at : (t : List Value) (new : List (VarId × Value)) (n : ℕ) (v : Value) → Stands (written t new) n v
    → Writes new n v ⊎ (Stands t n v × IsUnwritten new n)
written_at t [] n v s = inr (s, λ r o e. stands_none o.place r o.stands)
written_at t (r ∷ new) n v s = elim (written_at (set t r.0.n r.1) new n v s) [
  | inl w ↦ inl (record { pair = w.pair; is_one = one_rest r new w.pair w.is_one; number = w.number; value = w.value })
  | inr w ↦ here w.1 (set_stands t r.0.n r.1 n v w.0)
]
  where
    here : IsUnwritten new n → (Stands t n v × (n ≡ r.0.n → ⊥)) ⊎ ((n ≡ r.0.n) × (v ≡ r.1))
        → Writes (r ∷ new) n v ⊎ (Stands t n v × IsUnwritten (r ∷ new) n)
    here none (inl a) = inr (
      a.0,
      λ q o e. elim (one_cases r new q o) [
        | inl same ↦ a.1 (sym e ∙ ap (λ (z : VarId × Value). z.0.n) (sym same))
        | inr rest ↦ none q rest e
      ],
    )
    here none (inr a) = inl (record { pair = r; is_one = one_first r new; number = sym a.0; value = sym a.1 })

-- a total valuation with new values is a state
pub written_state : (p : GtsParts) (t : List Value) (new : List (VarId × Value)) → IsTotal p t → AreNewValues p new
    → IsState p (written t new)
written_state p t new total are = record {
  long = written_long t new ∙ total.long;
  in_domain = λ n x v s i h. elim (written_at t new n v h) [
    | inl w ↦ (let r = are.each w.pair w.is_one in held n x v s w r.variable r.stands r.in_domain)
    | inr w ↦ total.in_domain n x v s w.0
  ];
}
  where
    held : (n : ℕ) (x : Variable) (v : Value) → Stands p.variables.items n x → (w : Writes new n v) → (y : Variable)
        → Stands p.variables.items w.pair.0.n y → Holds y.domain w.pair.1 → Holds x.domain v
    held n x v s w y t holds =
        let same : y ≡ x = stands_one p.variables.items n y x
        (subst (λ (z : ℕ). Stands p.variables.items z y) w.number t) s in
        let P : Variable → Type 0 = λ z. Holds z.domain w.pair.1 in
        let Q : Value → Type 0 = λ z. Holds x.domain z in
        subst Q w.value (subst P same holds)

-- each value after the step is received, or the old one where none is
pub receives_each : (E : ℕ → Value → Type 0) (k : ℕ) (xs : List Variable) (vs ws : List Value) → length vs ≡ length xs
    → length ws ≡ length xs
    → ((n m : ℕ) (w : Value) → m ≡ k + n → Stands ws n w → E m w ⊎ (Stands vs n w × ((v : Value) → E m v → ⊥)))
    → Receives E (variables_from k xs) vs ws
receives_each E k [] [] [] l m h = steps.none
receives_each E k [] (v ∷ vs) ws l m h = absurd (omega (arith, l))
receives_each E k [] [] (w ∷ ws) l m h = absurd (omega (arith, m))
receives_each E k (x ∷ xs) [] ws l m h = absurd (omega (arith, l))
receives_each E k (x ∷ xs) (v ∷ vs) [] l m h = absurd (omega (arith, m))
receives_each E k (x ∷ xs) (v ∷ vs) (w ∷ ws) l m h =
    first (receives_each E (k + 1) xs vs ws (omega (arith, l)) (omega (arith, m))
    (λ n j u e st. h (suc n) j u (omega (arith, e)) st)) (h zero k w (omega arith) refl)
  where
    first : Receives E (variables_from (k + 1) xs) vs ws → E k w ⊎ (Stands (v ∷ vs) zero w × ((u : Value) → E k u → ⊥))
        → Receives E (variable_of k x ∷ variables_from (k + 1) xs) (v ∷ vs) (w ∷ ws)
    first rest (inl e) = changed e rest
    first rest (inr e) =
        let same : v ≡ w = cc in
        subst (λ (z : Value). Receives E (variable_of k x ∷ variables_from (k + 1) xs) (v ∷ vs) (z ∷ ws)) same
        (kept e.1 rest)
