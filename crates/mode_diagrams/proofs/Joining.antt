-- The operands of a gate with their diagrams, one after the other, and the joint of these.
use Rattle.std.proofs.Common.{◌≡◌, ◌⊎◌, ⊎_elim, inl, inr, ℕ, zero, suc, ◌+◌, ◌<◌, Bool, true, false, ◌&&◌, ◌||◌, List, [], ◌∷◌, ◌++◌, length, length-append, refl, sym, ap₂, ◌∙◌, subst, arith}
use Rattle.std.proofs.lemmas.Bool.{cases_eq}
use Rattle.ar_base.specs.Lists.{Stands}
use Rattle.ar_base.proofs.Standing.{stands_one, stands_none, stands_split, stands_within}
use Rattle.eq_core.specs.Gates.{Operand, Gate}
use Rattle.eq_core.specs.Values.{operand_at, joint_at, values_at}
use Rattle.mode_nodes.specs.Diagrams.{DiagramId, StoredDiagrams, value, IsDiagramNumber}
use Rattle.mode_nodes.specs.Bounds.{Bounded, GrowsWithin}
use Rattle.mode_nodes.proofs.Allowed.{GrowsWithin-then, allowed_before}
use Rattle.diagram_steps.specs.declared.trees.NumberedTree.{NumberedTree}
use Rattle.diagram_steps.specs.Joints.{joint_value, AreTabled, IsDiagramJoint}
use Rattle.mode_diagrams.specs.Agreement.{HasOperandValues, AgreesJoint, IsOperandReady, AreReady}
use Rattle.mode_diagrams.specs.Lacking.{Lacks, LacksOne}
use Rattle.mode_diagrams.proofs.Laws.{agrees_kept, ready_kept, tabled_kept}

-- the first operands have these diagrams, and none of them is an event without a tree
pub record AreDrawn (trees : List NumberedTree) (table : List DiagramId) (old : Bounded) (os : List Operand)
    (ns : List DiagramId) (s : Bounded) : Type 0 where
  pub grows : GrowsWithin old s
  pub numbers : AreTabled ns s.store
  pub agrees : (gates : List Gate) (k : ℕ) (o : Operand) (n : DiagramId) → Stands os k o → Stands ns k n
      → IsOperandReady trees gates table old o → HasOperandValues trees gates o s n.n
  pub known : (k : ℕ) (o : Operand) → k < length ns → Stands os k o → Lacks trees o → ⊥

pub drawn_more : (trees : List NumberedTree) (table : List DiagramId) (old : Bounded) (os : List Operand)
    (ns : List DiagramId) (s t : Bounded) (o : Operand) (n : DiagramId) → Stands os (length ns) o
    → AreDrawn trees table old os ns s → GrowsWithin s t → IsDiagramNumber t.store n.n
    → ((gates : List Gate) → IsOperandReady trees gates table s o → HasOperandValues trees gates o t n.n) → (Lacks trees o → ⊥)
    → AreDrawn trees table old os (ns ++ n ∷ []) t
drawn_more trees table old os ns s t o n so d g number agrees known = record {
  grows = GrowsWithin-then old s t d.grows g;
  numbers = record {
    each = λ k m st. ⊎_elim
        (λ a. (tabled_kept ns s.store t.store g.store d.numbers).each k m a)
        (λ b. at_end k m b.0 b.1 b.2)
        (stands_split ns (n ∷ []) k m st);
  };
  agrees = λ gates k p m sp st ready. ⊎_elim
      (λ a. agrees_kept trees gates p s t m.n g (d.agrees gates k p m sp a ready))
      (λ b. last gates k p m sp ready b.0 b.1 b.2)
      (stands_split ns (n ∷ []) k m st);
  known = λ k p h sp l. none k p h sp l;
}
  where
    at_end : (k : ℕ) (m : DiagramId) (j : ℕ) → k ≡ length ns + j → Stands (n ∷ []) j m → IsDiagramNumber t.store m.n
    at_end k m zero e st = let same : n ≡ m = cc in subst (λ (x : DiagramId). IsDiagramNumber t.store x.n) same number
    at_end k m (suc j) e st = absurd (stands_none j m st)

    last : (gates : List Gate) (k : ℕ) (p : Operand) (m : DiagramId) → Stands os k p → IsOperandReady trees gates table old p
        → (j : ℕ) → k ≡ length ns + j → Stands (n ∷ []) j m → HasOperandValues trees gates p t m.n
    last gates k p m sp ready zero e st =
        let here : k ≡ length ns = omega (arith, e) in
        let same : n ≡ m = cc in
        let is : o ≡ p = stands_one os k o p (subst (λ i. Stands os i o) (sym here) so) sp in
        let now = ready_kept trees gates table old s p d.grows ready in
        subst (λ (x : DiagramId). HasOperandValues trees gates p t x.n) same
        (subst (λ x. HasOperandValues trees gates x t n.n) is
        (agrees gates (subst (λ x. IsOperandReady trees gates table s x) (sym is) now)))
    last gates k p m sp ready (suc j) e st = absurd (stands_none j m st)

    none : (k : ℕ) (p : Operand) → k < length (ns ++ n ∷ []) → Stands os k p → Lacks trees p → ⊥
    none k p h sp l = by (cases_eq k (length ns))
      where
        by : (k ≡ length ns) ⊎ (k ≡ length ns → ⊥) → ⊥
        by (inl e) =
            let is : p ≡ o = stands_one os k p o sp (subst (λ i. Stands os i o) (sym e) so) in
            known (subst (Lacks trees) is l)
        by (inr e) = d.known k p (let x : k < length ns = grind (arith, h, length-append ns (n ∷ []), e) in x) sp l

-- the joint of the diagrams has the value of that of the operands
joint_same : (both : Bool) (set : List ℕ) (values : List Bool) (s : StoredDiagrams) (modes : List ℕ) (ns : List DiagramId)
    (os : List Operand) → length ns ≡ length os
    → ((k : ℕ) (o : Operand) (n : DiagramId) → Stands os k o → Stands ns k n → value s modes n.n ≡ operand_at set values o)
    → joint_value both s modes ns ≡ joint_at both set values os
joint_same both set values s modes [] [] e f = refl
joint_same both set values s modes [] (o ∷ os) e f = let wrong : ⊥ = omega (arith, e) in absurd wrong
joint_same both set values s modes (n ∷ ns) [] e f = let wrong : ⊥ = omega (arith, e) in absurd wrong
joint_same true set values s modes (n ∷ ns) (o ∷ os) e f = ap₂ (λ x y. x && y) (f 0 o n refl refl)
    (joint_same true set values s modes ns os (omega (arith, e)) (λ k p m a b. f (suc k) p m a b))
joint_same false set values s modes (n ∷ ns) (o ∷ os) e f = ap₂ (λ x y. x || y) (f 0 o n refl refl)
    (joint_same false set values s modes ns os (omega (arith, e)) (λ k p m a b. f (suc k) p m a b))

pub drawn_joint : (trees : List NumberedTree) (table : List DiagramId) (old : Bounded) (both : Bool) (os : List Operand)
    (ns : List DiagramId) (s t : Bounded) (r : ℕ) → length ns ≡ length os → AreDrawn trees table old os ns s
    → GrowsWithin s t → IsDiagramJoint both s ns t.store r → (gates : List Gate) → AreReady trees gates table old os
    → AgreesJoint trees gates both os t r
drawn_joint trees table old both os ns s t r e d g j gates ready = record {
  number = j.number;
  same = λ modes set is h.
      let before = allowed_before s t modes g h in
      j.same modes before ∙ joint_same both set (values_at set gates) s.store modes ns os e
      (λ k o n so sn.
      (d.agrees gates k o n so sn (ready.each o (record { place = k; stands = so }))).same modes set is before);
}

pub drawn_known : (trees : List NumberedTree) (table : List DiagramId) (old : Bounded) (os : List Operand)
    (ns : List DiagramId) (s : Bounded) → length ns ≡ length os → AreDrawn trees table old os ns s → LacksOne trees os → ⊥
drawn_known trees table old os ns s e d l =
    let inside = stands_within os l.one.place l.operand l.one.stands in
    d.known l.one.place l.operand (omega (arith, inside, e)) l.one.stands l.lacks
