-- A model is refused with one rule at one place, or not at all.
use Rattle.std.proofs.Common.{◌≡◌, ℕ, ◌<◌, ◌≤◌, ◌⊎◌, List, Option, Ok, Err, sym, ap, ◌∙◌, subst, inl, inr}
use Rattle.std.proofs.lemmas.Bool.{cases_lt}
use Rattle.ar_base.specs.Breach.{IsEarlier, IsBroken}
use Rattle.ar_base.specs.declared.faults.RuleFault.{RuleFault}
use Rattle.ar_base.specs.declared.faults.RuleFault.TheVariants.{Rule}
use Rattle.ar_base.specs.declared.places.Place.{Place}
use Rattle.ar_base.proofs.Comparing.{lt_or_same}
use Rattle.ar_syntax.specs.declared.items.Model.{Model}
use Rattle.class_table.specs.Declaring.{Declared}
use Rattle.class_table.specs.Rules.{BreaksTextRule, text_rules}
use Rattle.class_table.specs.Tabling.{Tabulates, table, breach}
use Rattle.class_table.specs.declared.tables.Classes.{Classes}
use Rattle.class_table.proofs.OneDeclared.{declared_one}

-- of two places one is before the other, or they are one
pub place_cases : (p q : Place) → IsEarlier p q ⊎ (IsEarlier q p ⊎ (p ≡ q))
place_cases p q = by_line (cases_lt p.line q.line)
  where
    one_place : p.line ≡ q.line → p.column ≡ q.column → p ≡ q
    one_place e i = ap (λ (z : ℕ). record { line = z; column = p.column }) e
        ∙ ap (λ (z : ℕ). record { line = q.line; column = z }) i

    by_column : p.line ≡ q.line → (p.column < q.column) ⊎ (q.column ≤ p.column)
        → IsEarlier p q ⊎ (IsEarlier q p ⊎ (p ≡ q))
    by_column e (inl a) = inl (inr (e, a))
    by_column e (inr b) = elim (lt_or_same q.column p.column b)
        [ inl c ↦ inr (inl (inr (sym e, c))) | inr c ↦ inr (inr (one_place e (sym c))) ]

    by_line : (p.line < q.line) ⊎ (q.line ≤ p.line) → IsEarlier p q ⊎ (IsEarlier q p ⊎ (p ≡ q))
    by_line (inl a) = inl (inl a)
    by_line (inr b) = elim (lt_or_same q.line p.line b)
        [ inl c ↦ inr (inl (inl c)) | inr c ↦ by_column (sym c) (cases_lt p.column q.column) ]

module _ (rules : List ℕ) (breaks : ℕ → Place → Type 0) where
  -- one rule is the first that is broken
  pub rule_one : (r s : ℕ) (p q : Place) → IsBroken rules breaks r p → IsBroken rules breaks s q → r ≡ s
  rule_one r s p q b c = elim (cases_lt r s) [
    | inl l ↦ absurd (c.no_lesser r p b.is_one l b.breaks_there)
    | inr m ↦ elim (lt_or_same s r m) [ inl l ↦ absurd (b.no_lesser s q c.is_one l c.breaks_there) | inr e ↦ sym e ]
  ]

  -- at one place
  pub place_one : (r : ℕ) (p q : Place) → IsBroken rules breaks r p → IsBroken rules breaks r q → p ≡ q
  place_one r p q b c = elim (place_cases p q) [
    | inl l ↦ absurd (c.no_earlier p l b.breaks_there)
    | inr m ↦ elim m [ inl l ↦ absurd (b.no_earlier q l c.breaks_there) | inr e ↦ e ]
  ]

  pub breach_one : (r s : ℕ) (p q : Place) → IsBroken rules breaks r p → IsBroken rules breaks s q → (r ≡ s) × (p ≡ q)
  breach_one r s p q b c =
      let e = rule_one r s p q b c in
      (e, place_one r p q b (subst (λ (t : ℕ). IsBroken rules breaks t q) (sym e) c))

module _ (main : Option (List ℕ)) (model : Model) where
  pub refusal_one : (r s : ℕ) (p q : Place) → Tabulates main model (Err (Rule r p))
      → Tabulates main model (Err (Rule s q)) → (r ≡ s) × (p ≡ q)
  refusal_one r s p q (breach d h b) (breach e k c) =
      let same = declared_one model d e h k in
      breach_one text_rules (BreaksTextRule model main d) r s p q b
      (subst (λ (z : Declared). IsBroken text_rules (BreaksTextRule model main z) s q) (sym same) c)

  pub never_both : (c : Classes) (f : RuleFault) → Tabulates main model (Ok c) → Tabulates main model (Err f) → ⊥
  never_both c f (table d t kept) (breach {r = r} {p = p} e k b) =
      let same = declared_one model d e t.declared k in
      let there = subst (λ (z : Declared). IsBroken text_rules (BreaksTextRule model main z) r p) (sym same) b in
      kept.kept r p there.is_one there.breaks_there
