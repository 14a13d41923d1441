-- The gates of a table, one after the other.
use Rattle.std.proofs.Common.{◌≡◌, ⊎_elim, ℕ, zero, suc, ◌+◌, Bool, true, List, [], ◌∷◌, ◌++◌, length, length-append, refl, sym, subst, arith}
use Rattle.ar_base.specs.Lists.{Stands, IsOneOf}
use Rattle.ar_base.proofs.Standing.{stands_none, stands_split}
use Rattle.eq_core.specs.Gates.{Operand, GateIs, Gate}
use Rattle.eq_core.specs.Ordered.{AreOrdered}
use Rattle.eq_core.proofs.Telling.{place_below}
use Rattle.mode_nodes.specs.Diagrams.{DiagramId, IsDiagramNumber}
use Rattle.mode_nodes.specs.Bounds.{Bounded, GrowsWithin}
use Rattle.mode_nodes.proofs.Growing.{still}
use Rattle.diagram_steps.specs.declared.trees.NumberedTree.{NumberedTree}
use Rattle.diagram_steps.specs.Joints.{AreTabled}
use Rattle.mode_diagrams.specs.Agreement.{HasOperandValues, AgreesJoint, IsOperandReady, AreReady, AreClosedMarks}
use Rattle.mode_diagrams.proofs.Laws.{agrees_kept, gate_agrees}

-- the first k gates have their places in the table, and each that is marked has its diagram there
pub record IsDrawing (trees : List NumberedTree) (gates : List Gate) (marks : List Bool) (k : ℕ)
    (table : List DiagramId) (s : Bounded) : Type 0 where
  pub long : length table ≡ k
  pub numbers : AreTabled table s.store
  pub drawn : (g : ℕ) (n : DiagramId) → Stands table g n → Stands marks g true → HasOperandValues trees gates (GateIs g true) s n.n

pub drawing_begins : (trees : List NumberedTree) (gates : List Gate) (marks : List Bool) (s : Bounded)
    → IsDrawing trees gates marks 0 [] s
drawing_begins trees gates marks s = record {
  long = refl;
  numbers = record { each = λ g n st. absurd (stands_none g n st) };
  drawn = λ g n st m. absurd (stands_none g n st);
}

module _ (trees : List NumberedTree) (gates : List Gate) (root : Operand) (marks : List Bool)
    (closed : AreClosedMarks gates root marks) where
  -- what a marked gate's operands name is drawn
  pub gate_ready : (k : ℕ) (gate : Gate) (table : List DiagramId) (s : Bounded) → Stands gates k gate
      → Stands marks k true → IsDrawing trees gates marks k table s → AreReady trees gates table s gate.operands
  gate_ready k gate table s st m d = record {
    each = λ o one. record {
      gate = λ h sign n e at. d.drawn h n at (closed.operands k h gate sign m st (subst (IsOneOf gate.operands) e one));
    };
  }

  pub root_ready : (k : ℕ) (table : List DiagramId) (s : Bounded) → IsDrawing trees gates marks k table s
      → IsOperandReady trees gates table s root
  root_ready k table s d = record { gate = λ g sign n e at. d.drawn g n at (closed.own g sign e) }

  pub drawing_next : (k : ℕ) (gate : Gate) (table : List DiagramId) (s t : Bounded) (n : DiagramId)
      → Stands gates k gate → AreOrdered gates → IsDrawing trees gates marks k table s → GrowsWithin s t
      → IsDiagramNumber t.store n.n → (Stands marks k true → AgreesJoint trees gates gate.both gate.operands t n.n)
      → IsDrawing trees gates marks (k + 1) (table ++ n ∷ []) t
  drawing_next k gate table s t n st ordered d grows number agrees = record {
    long = omega (arith, d.long, length-append table (n ∷ []));
    numbers = record {
      each = λ g x at. ⊎_elim
          (λ p. still s.store t.store x.n grows.store (d.numbers.each g x p))
          (λ r. last_number g x r.0 r.2)
          (stands_split table (n ∷ []) g x at);
    };
    drawn = λ g x at m. ⊎_elim
        (λ p. agrees_kept trees gates (GateIs g true) s t x.n grows (d.drawn g x p m))
        (λ r. new g x r.0 r.1 r.2 m)
        (stands_split table (n ∷ []) g x at);
  }
    where
      last_number : (g : ℕ) (x : DiagramId) (j : ℕ) → Stands (n ∷ []) j x → IsDiagramNumber t.store x.n
      last_number g x zero so = let same : n ≡ x = cc in subst (λ (y : DiagramId). IsDiagramNumber t.store y.n) same number
      last_number g x (suc j) so = absurd (stands_none j x so)

      new : (g : ℕ) (x : DiagramId) (j : ℕ) → g ≡ length table + j → Stands (n ∷ []) j x → Stands marks g true
          → HasOperandValues trees gates (GateIs g true) t x.n
      new g x zero q so m =
          let same : n ≡ x = cc in
          let here : k ≡ g = omega (arith, q, d.long) in
          let a = gate_agrees trees gates k gate t n.n st (place_below (ordered.each k gate st))
          (agrees (subst (λ i. Stands marks i true) (sym here) m)) in
          subst (λ i. HasOperandValues trees gates (GateIs i true) t x.n) here
          (subst (λ (y : DiagramId). HasOperandValues trees gates (GateIs k true) t y.n) same a)
      new g x (suc j) q so m = absurd (stands_none j x so)
