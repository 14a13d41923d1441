-- Values that did not change.
use Rattle.std.proofs.Common.{◌≡◌, ◌≤◌, ℕ, zero, suc, List, [], ◌∷◌, length, inl, inr, refl, sym, ◌∙◌, arith}
use Rattle.std.proofs.lemmas.Bool.{cases_lt}
use Rattle.ar_base.proofs.Standing.{stands_some}
use Rattle.domains.specs.declared.Value.{Value}
use Rattle.ar_meaning.proofs.OneAnswer.{same_value}
use Rattle.gts_core.specs.Readings.{valuation_at}
use Rattle.gts_core.proofs.Reading.{read_value}
use Rattle.flow_changes.specs.Changes.{HasChanged}

past : (t : List Value) (n : ℕ) → length t ≤ n → valuation_at t n ≡ valuation_at [] 0
past [] zero h = refl
past [] (suc n) h = refl
past (v ∷ t) zero h = absurd (omega (arith, h))
past (v ∷ t) (suc n) h = past t n (omega (arith, h))

-- a value that did not change
pub kept_value : (old new : List Value) → length old ≡ length new → (n : ℕ) → (HasChanged old new n → ⊥)
    → valuation_at old n ≡ valuation_at new n
kept_value old new long n kept = elim (cases_lt n (length old)) [
  | inl h ↦ (
      let v = stands_some old n h in
      let w = stands_some new n (omega (arith, h, long)) in
      let i : v.0 ≡ w.0 = same_value v.0 w.0
      (λ differ. kept (record { before = v.0; after = w.0; had = v.1; has = w.1; differ = differ })) in
      read_value old n v.0 v.1 ∙ i ∙ sym (read_value new n w.0 w.1))
  | inr l ↦ past old n l ∙ sym (past new n (omega (arith, l, long)))
]
