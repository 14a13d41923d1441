-- Counted sections of stored families are stored.
use Rattle.std.proofs.Common.{ℕ, zero, suc, ◌<◌, ◌≤◌, inl, inr, [], refl, sym, ◌∙◌, subst, arith}
use Rattle.zdd_nodes.specs.Families.{Family}
use Rattle.zdd_nodes.specs.Sections.{IsCounted}
use Rattle.zdd_nodes.proofs.Sections.{counted_nil}
use Rattle.zdd_nodes.proofs.Halves.{counted_halves, counted_unit}
use Rattle.zdd_nodes.specs.Nodes.{Stored, family, IsFamilyNumber, IsSoundStore, IsStored}

module _ (s : Stored) (sound : IsSoundStore s) where
  -- 0 and 1 have no counted sections
  is_node : (n : ℕ) (h : Family) → IsCounted (family s n) h → 2 ≤ n
  is_node zero h c = absurd (counted_nil [] h refl c)
  is_node (suc zero) h c = absurd (counted_unit h c)
  is_node (suc (suc n)) h c = omega arith

  stored_below : (bound n : ℕ) → n < bound → IsFamilyNumber s n → (h : Family) → IsCounted (family s n) h → IsStored h s
  stored_below zero n l inside h c = absurd (omega (arith, l))
  stored_below (suc bound) n l inside h c =
      let two = is_node n h c in
      let t = sound.nodes n two inside in
      let i = t.halves in
      elim (counted_halves t.event (family s t.lo) (family s t.hi) i.lo_above i.hi_above h
      (subst (λ x. IsCounted x h) i.is c)) [
        | inl whole ↦ (n, two, inside, i.is ∙ sym whole)
        | inr half ↦ elim half [
          | inl lower ↦ stored_below bound t.lo (omega (arith, l, i.lo_before)) (omega (arith, inside, i.lo_before)) h
              lower
          | inr upper ↦ stored_below bound t.hi (omega (arith, l, i.hi_before)) (omega (arith, inside, i.hi_before)) h
              upper
        ]
      ]

  pub section_stored : (f h : Family) → IsStored f s → IsCounted f h → IsStored h s
  section_stored f h st c = stored_below (suc st.0) st.0 (omega arith) st.2 h (subst (λ x. IsCounted x h) (sym st.3) c)
