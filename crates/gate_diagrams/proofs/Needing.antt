-- What the operations add while an operand is drawn is needed for it.
use Rattle.std.proofs.Common.{◌≡◌, ℕ, ◌+◌, Bool, true, false, List, [], ◌∷◌, ◌++◌, length, take, Result, refl, sym, ap, ap₂, ◌∙◌, subst, arith}
use Rattle.std.proofs.lemmas.List.{take_more, take_all}
use Rattle.std.proofs.lemmas.Option.{slice_get_within, get_or_from_slice_get}
use Rattle.ar_base.specs.Lists.{Stands}
use Rattle.zdd_nodes.specs.Families.{Family, minimal}
use Rattle.zdd_nodes.specs.FamiliesInside.{IsInOrder, union, meet, minus, having}
use Rattle.zdd_nodes.specs.Sections.{IsCounted, IsHalf}
use Rattle.zdd_nodes.specs.Nodes.{NodeId, Stored, family, Draws}
use Rattle.zdd_nodes.specs.declared.NodeFault.{NodeFault}
use Rattle.zdd_nodes.proofs.Growing.{Draws-weaker}
use Rattle.eq_core.specs.Gates.{Operand, EventIs, GateIs, Gate, opposite}
use Rattle.eq_core.specs.Ordered.{AreOrdered}
use Rattle.eq_core.proofs.Telling.{place_below}
use Rattle.eq_core.specs.Cones.{InGateCone}
use Rattle.gate_diagrams.specs.Needed.{family_at, joint_family, IsOperandInCone, IsNeeded}
use Rattle.gate_diagrams.specs.Needed.IsNeeded.{of_firable, of_signed, of_plain, of_first, of_half}
use Rattle.gate_diagrams.proofs.Filters.{family_of_event, family_of_opposite, joint_first, joint_meet, joint_union, family_of_gate}

-- one more of the operands
first_more : (os : List Operand) (k : ℕ) (p : Operand) → Stands os k p → take (k + 1) os ≡ take k os ++ p ∷ []
first_more os k p i = take_more os k p (slice_get_within os k p i)
    ∙ ap (λ z. take k os ++ z ∷ []) (get_or_from_slice_get os k p p i)

-- what counts in a family that is needed is needed
module _ (all : Family) (gates : List Gate) (o : Operand) where
  abbrev N : Family → Type 0
  N = IsNeeded all gates o

  counted_drawn : (made family : Family) (s t : Stored) (r : Result NodeId NodeFault) → made ≡ family
      → ((h : Family) → IsCounted family h → N h) → Draws (IsCounted made) made s t r → Draws N family s t r
  counted_drawn made family s t r e w d =
      Draws-weaker (IsCounted family) N family s t r w (subst (λ z. Draws (IsCounted z) z s t r) e d)

  pub firable_drawn : (s t : Stored) (r : Result NodeId NodeFault) → Draws (IsCounted all) all s t r → Draws N all s t r
  firable_drawn s t r d = counted_drawn all all s t r refl (λ h c. of_firable c) d

  pub event_drawn : (e : ℕ) (sign : Bool) (s t : Stored) (r : Result NodeId NodeFault)
      → IsOperandInCone gates o (EventIs e sign)
      → Draws (IsCounted (having all e)) (having all e) s t r → Draws N (family_at all gates (EventIs e true)) s t r
  event_drawn e sign s t r n d = counted_drawn (having all e) (family_at all gates (EventIs e true)) s t r
      (sym (family_of_event all gates e)) (λ h c. of_plain (EventIs e sign) n c) d

  pub opposite_drawn : (p : Operand) (s t : Stored) (r : Result NodeId NodeFault) → IsOperandInCone gates o (opposite p)
      → (let made = minus all (family_at all gates p) in Draws (IsCounted made) made s t r) → Draws N (family_at all gates (opposite p)) s t r
  opposite_drawn p s t r n d = counted_drawn (minus all (family_at all gates p)) (family_at all gates (opposite p)) s t
      r (sym (family_of_opposite all gates p)) (λ h c. of_signed (opposite p) n c) d

  pub minimal_drawn : (s t : Stored) (r : Result NodeId NodeFault)
      → Draws (IsHalf (family_at all gates o)) (minimal (family_at all gates o)) s t r
      → Draws N (minimal (family_at all gates o)) s t r
  minimal_drawn s t r d = Draws-weaker (IsHalf (family_at all gates o)) N (minimal (family_at all gates o)) s t r
      (λ h c. of_half c) d

  -- a gate of the cone, a further operand after so many
  module _ (g : ℕ) (gate : Gate) (cone : InGateCone gates o g) (stands : Stands gates g gate) (k : ℕ) (p : Operand)
      (next : Stands gate.operands k p) where
    abbrev So_far : Family
    So_far = joint_family all gates gate.both (take k gate.operands)

    abbrev Then : Family
    Then = joint_family all gates gate.both (take (k + 1) gate.operands)

    then_needed : (h : Family) → IsCounted Then h → N h
    then_needed h c = of_first g gate (k + 1) cone stands (omega arith)
        (omega (arith, slice_get_within gate.operands k p next)) c

    pub met_drawn : gate.both ≡ true → (s t : Stored) (r : Result NodeId NodeFault) → (let made = meet So_far (family_at all gates p) in Draws (IsCounted made) made s t r) → Draws N Then s t r
    met_drawn b s t r d = counted_drawn (meet So_far (family_at all gates p)) Then s t r
        (ap (λ z. meet (joint_family all gates z (take k gate.operands)) (family_at all gates p)) b
        ∙ sym (joint_meet all gates (take k gate.operands) p)
        ∙ ap₂ (joint_family all gates) (sym b) (sym (first_more gate.operands k p next)))
        then_needed d

    pub joined_drawn : gate.both ≡ false → IsInOrder all → (s t : Stored) (r : Result NodeId NodeFault) → (let made = union So_far (family_at all gates p) in Draws (IsCounted made) made s t r) → Draws N Then s t r
    joined_drawn b a s t r d = counted_drawn (union So_far (family_at all gates p)) Then s t r
        (ap (λ z. union (joint_family all gates z (take k gate.operands)) (family_at all gates p)) b
        ∙ sym (joint_union all gates (take k gate.operands) p a)
        ∙ ap₂ (joint_family all gates) (sym b) (sym (first_more gate.operands k p next)))
        then_needed d

  -- its first operand alone, and all of them
  pub first_is : (g : ℕ) (gate : Gate) (p : Operand) → Stands gate.operands 0 p
      → joint_family all gates gate.both (take 1 gate.operands) ≡ family_at all gates p
  first_is g gate p next = ap (joint_family all gates gate.both) (first_more gate.operands 0 p next)
      ∙ joint_first all gates gate.both p

  pub all_are : (g : ℕ) (gate : Gate) → AreOrdered gates → Stands gates g gate
      → joint_family all gates gate.both (take (length gate.operands) gate.operands)
      ≡ family_at all gates (GateIs g true)
  all_are g gate a stands = ap (joint_family all gates gate.both)
      (take_all (length gate.operands) gate.operands (omega arith))
      ∙ sym (family_of_gate all gates g gate stands (place_below (a.each g gate stands)))
