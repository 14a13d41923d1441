-- One more operand of a gate.
use Rattle.std.proofs.Common.{◌≡◌, ℕ, ◌+◌, Bool, true, false, cond, List, take, Result, Ok, Err, refl, ap₂, ◌∙◌, subst}
use Rattle.ar_base.specs.Lists.{Stands}
use Rattle.zdd_nodes.specs.Families.{Family}
use Rattle.zdd_nodes.specs.FamiliesInside.{meet, union}
use Rattle.zdd_nodes.specs.Sections.{IsCounted}
use Rattle.zdd_nodes.specs.Nodes.{NodeId, Stored, family, IsFamilyNumber, Draws}
use Rattle.zdd_nodes.specs.declared.NodeFault.{NodeFault}
use Rattle.zdd_nodes.proofs.Growing.{Draws-refused, Draws-after, kept}
use Rattle.eq_core.specs.Gates.{Operand, Gate}
use Rattle.gate_diagrams.specs.Needed.{family_at, joint_family, IsOperandInCone, of_gate, IsNeeded}
use Rattle.gate_diagrams.specs.Drawing.{IsGateReady, IsGateTabled}
use Rattle.gate_diagrams.proofs.Needing.{met_drawn, joined_drawn}

module _ (gates : List Gate) (o : Operand) (g : ℕ) (gate : Gate) (table : List NodeId) (s : Stored) (f : ℕ)
    (f_in : IsFamilyNumber s f) (ready : IsGateReady (family s f) gates o g gate table s) (k : ℕ) (p : Operand)
    (next : Stands gate.operands k p) where
  abbrev all : Family
  all = family s f

  abbrev N : Family → Type 0
  N = IsNeeded all gates o

  abbrev So_far : Family
  So_far = joint_family all gates gate.both (take k gate.operands)

  abbrev Then : Family
  Then = joint_family all gates gate.both (take (k + 1) gate.operands)

  pub is_named : IsOperandInCone gates o p
  is_named = of_gate ready.cone ready.stands (record { place = k; stands = next })

  pub is_in_table : IsGateTabled all gates table s p
  is_in_table = ready.operands p (record { place = k; stands = next })

  pub more_refused : (t : Stored) (x : NodeFault) → Draws N (family_at all gates p) s t (Err x)
      → Draws N Then s t (Err x)
  more_refused t x d = Draws-refused N (family_at all gates p) Then s t x d

  joined_as : (b : Bool) → gate.both ≡ b → (t u : Stored) (r : Result NodeId NodeFault)
      → (let made = cond b (meet So_far (family_at all gates p)) (union So_far (family_at all gates p)) in Draws (IsCounted made) made t u r) → Draws N Then t u r
  joined_as true e t u r d = met_drawn all gates o g gate ready.cone ready.stands k p next e t u r d
  joined_as false e t u r d = joined_drawn all gates o g gate ready.cone ready.stands k p next e ready.in_order t u r d

  pub more_drawn : (n m : NodeId) → IsFamilyNumber s n.n → family s n.n ≡ So_far
      → (t u : Stored) (r : Result NodeId NodeFault) → Draws N (family_at all gates p) s t (Ok m)
      → (let made = cond gate.both (meet (family t n.n) (family t m.n)) (union (family t n.n) (family t m.n)) in Draws (IsCounted made) made t u r) → Draws N Then s u r
  more_drawn n m i e t u r d k2 =
      let a : family t n.n ≡ So_far = kept N s t n.n d.grows i ∙ e in
      let b : family t m.n ≡ family_at all gates p = d.ok.1 in
      Draws-after N Then s t u r d.grows (joined_as gate.both refl t u r
      (subst (λ z. Draws (IsCounted z) z t u r) (ap₂ (λ (x y : Family). cond gate.both (meet x y) (union x y)) a b) k2))
