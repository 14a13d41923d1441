-- What the total entries of a flow tell: its known values, or its reset where none is known.
use Rattle.std.proofs.Common.{◌≡◌, ℕ, inl, inr, List, [], ◌∷◌, ◌++◌, length, refl, sym, subst}
use Rattle.ar_base.specs.Lists.{IsOneOf}
use Rattle.ar_base.proofs.Standing.{one_cases, one_first, one_rest, one_none, one_left, one_right, one_split}
use Rattle.domains.specs.declared.Value.{Value}
use Rattle.eq_core.specs.Gates.{Operand, Gate, all_of}
use Rattle.eq_core.specs.Ordered.{AreBelow}
use Rattle.eq_core.specs.ValuesInside.{IsTrueWhere, GainsGates, EachTrue}
use Rattle.eq_core.proofs.Telling.{grows_on, tells_as, tells_opposite, all_tells, all_more}
use Rattle.eq_build.specs.Entries.{Entry, Term}
use Rattle.eq_build.specs.Tells.{AreEntries, IsBuilt}
use Rattle.eq_build.proofs.EntriesTell.{entries_kept, SomeTerm, terms_tell}
use Rattle.eq_build.specs.Steps.{as_terms, opposites, total_of}
use Rattle.table_laws.proofs.OperandsTell.{TellTogether, together_before, together_as, nothing_told}
use Rattle.table_laws.proofs.TermsTell.{own_term, own_of, of_own, own_tells, single_tells}

-- the value has P, or it is the reset value and none has P
pub data IsTotal (P : Value → Type 0) (reset d : Value) : Type 0 where
  known : P d → IsTotal P reset d
  unknown : d ≡ reset → ((w : Value) → P w → ⊥) → IsTotal P reset d

module _ (set : List ℕ) (g : List Gate) (P : Value → Type 0) where
  -- none of these entries' values has P
  abbrev NoneHas : List Entry → Type 0
  NoneHas es = (e : Entry) → IsOneOf es e → P e.value → ⊥

  none_tell : (es : List Entry) → ((e : Entry) → IsOneOf es e → IsTrueWhere set g e.operand (P e.value))
      → TellTogether set g (opposites es) (NoneHas es)
  none_tell [] t = nothing_told (λ e o p. one_none e o)
  none_tell (e ∷ es) t = together_as to from
      (together_before (tells_opposite (t e (one_first e es))) (none_tell es (λ f o. t f (one_rest e es f o))))
    where
      to : (P e.value → ⊥) × NoneHas es → NoneHas (e ∷ es)
      to h f o p = elim (one_cases e es f o) [
        | inl i ↦ h.0 (subst (λ (z : Entry). P z.value) (sym i) p)
        | inr q ↦ h.1 f q p
      ]

      from : NoneHas (e ∷ es) → (P e.value → ⊥) × NoneHas es
      from h = (h e (one_first e es), λ f o. h f (one_rest e es f o))

module _ (set : List ℕ) (P : Value → Type 0) (row : List Entry) (reset : Value) where
  abbrev last : Operand → Term
  last o = record { value = reset; operands = o ∷ [] }

  abbrev all_terms : Operand → List Term
  all_terms o = as_terms row ++ last o ∷ []

  -- what a term of the row, or the one of the reset value, says
  term_says : (h : List Gate) (o : Operand) → AreEntries set h row P → IsTrueWhere set h o ((w : Value) → P w → ⊥)
      → (t : Term) → IsOneOf (all_terms o) t
      → AreBelow (length h) t.operands × (EachTrue set h t.operands → IsTotal P reset t.value)
  term_says h o a n t m = elim (one_split (as_terms row) (last o ∷ []) t m) [
    | inl p ↦
        let r = own_of row t p in
        let u = own_tells set h P (a.tells r.entry r.is_one) t r.is in
        (u.below, λ e. known (u.true_so e))
    | inr p ↦ elim (one_cases (last o) [] t p) [
      | inl i ↦
          let u = single_tells set h n in
          subst (λ (z : Term). AreBelow (length h) z.operands × (EachTrue set h z.operands → IsTotal P reset z.value)) i
          (u.below, λ e. unknown refl (u.true_so e))
      | inr q ↦ absurd (one_none t q)
    ]
  ]

  some_term : (h : List Gate) (o : Operand) → AreEntries set h row P → IsTrueWhere set h o ((w : Value) → P w → ⊥)
      → (d : Value) → IsTotal P reset d → SomeTerm set h (all_terms o) d
  some_term h o a n d (known p) =
      let e = a.whole d p in
      let u = own_tells set h P (a.tells e.0 e.1) (own_term e.0) refl in
      record {
        term = own_term e.0;
        is_one = one_left (as_terms row) (last o ∷ []) (own_term e.0) (of_own row e.0 e.1);
        value = e.2;
        each = u.so_true (subst P (sym e.2) p);
      }
  some_term h o a n d (unknown i lacks) =
      let u = single_tells set h n in
      record {
        term = last o;
        is_one = one_right (as_terms row) (last o ∷ []) (last o) (one_first (last o) []);
        value = sym i;
        each = u.so_true lacks;
      }

  pub total_built : (g : List Gate) → AreEntries set g row P → IsBuilt set g (total_of g row reset) (IsTotal P reset)
  total_built g a =
      let os = opposites row in
      let n = none_tell set g P row a.tells in
      let m = all_of g os in
      let s : GainsGates g m.gates = all_more g os in
      let none : IsTrueWhere set m.gates m.operand ((w : Value) → P w → ⊥) = tells_as
      (λ e w p. let r = a.whole w p in n.true_so e r.0 r.1 (subst P (sym r.2) p))
      (λ h. n.so_true (λ e o p. h e.value p))
      (all_tells set g os n.below) in
      let b = entries_kept s a in
      let r = terms_tell set m.gates (all_terms m.operand) (IsTotal P reset)
      (λ t o. (term_says m.gates m.operand b none t o).0) (λ t o. (term_says m.gates m.operand b none t o).1)
      (some_term m.gates m.operand b none) in
      record { grown = grows_on s r.grown; entries = r.entries }
