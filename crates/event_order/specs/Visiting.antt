-- How the gates are walked from an operand on.
use Rattle.std.specs.Prelude.{◌≡◌, ◌⊎◌, ◌+◌, ℕ, Bool, true, false, List, [], ◌∷◌, length, map}
use Rattle.ar_base.specs.Lists.{Stands, IsOneOf}
use Rattle.eq_core.specs.Gates as g
use Rattle.eq_core.specs.declared.joints.Operand.{Operand}
use Rattle.eq_core.specs.Views.{operand_of}
use Rattle.diagram_steps.specs.declared.trees.NumberedTree.{NumberedTree}
use Rattle.diagram_steps.specs.Trees.{TreeHasEvent}
use Rattle.event_order.specs.Renumbered.{IsNamed}
use Rattle.event_order.specs.Taking.{AreTaken, AreOfOneTree, names_in}
use Rattle.event_order.specs.declared.visiting.Walk.{Walk}

-- the operands were put on the stack
pub record Pushes (operands old new : List Operand) : Type 0 where
  pub long : length new ≡ length old + length operands
  pub kept : (o : Operand) → IsOneOf old o → IsOneOf new o
  pub put : (o : Operand) → IsOneOf operands o → IsOneOf new o
  pub sound : (o : Operand) → IsOneOf new o → IsOneOf old o ⊎ IsOneOf operands o

-- how many operands the gates have that were not seen
abbrev pub unseen : List g.Gate → List Bool → ℕ
unseen [] marks = 0
unseen (gate ∷ gates) [] = 0
unseen (gate ∷ gates) (true ∷ marks) = unseen gates marks
unseen (gate ∷ gates) (false ∷ marks) = length gate.operands + unseen gates marks

-- the operands on the stack
abbrev pub waiting : Walk → List g.Operand
waiting w = map operand_of w.stack.items

-- what is left to do: the operands on the stack, and those of gates that were not seen
abbrev pub work : List g.Gate → Walk → ℕ
work gates w = unseen gates w.seen.items + length (waiting w)

-- the tree of an event that the operand names is met, and a gate that it names was seen
abbrev pub IsDone : List NumberedTree → Walk → g.Operand → Type 0
IsDone trees w g.Always = Unit {0}
IsDone trees w g.Never = Unit {0}
IsDone trees w (g.EventIs e sign) =
    (k : ℕ) (tree : NumberedTree) → Stands trees k tree → TreeHasEvent tree e → IsNamed (names_in w.numbering) e
IsDone trees w (g.GateIs n sign) = Stands w.seen.items n true

-- the gate was seen before, or its operands are on the stack now
abbrev pub IsOpened : List g.Gate → Walk → Walk → ℕ → Type 0
IsOpened gates old new n = Stands old.seen.items n true
    ⊎ ((gate : g.Gate) → Stands gates n gate → (o : g.Operand) → IsOneOf gate.operands o → IsOneOf (waiting new) o)

-- the operand is the gate or its opposite
pub record IsOfGate (operand : g.Operand) (n : ℕ) : Type 0 where
  pub sign : Bool
  pub is : operand ≡ g.GateIs n sign

-- the operand is an event or its opposite, and x is an event of its tree
pub record IsMetBy (trees : List NumberedTree) (operand : g.Operand) (x : ℕ) : Type 0 where
  pub event : ℕ
  pub sign : Bool
  pub is : operand ≡ g.EventIs event sign
  pub one : AreOfOneTree trees event x

-- the operand was visited: what was done stays so, no tree but that of its event is taken, and operands are only put on the
-- stack, those of its gate
pub record Looks (trees : List NumberedTree) (gates : List g.Gate) (operand : g.Operand) (old new : Walk) : Type 0 where
  pub taken : AreTaken trees new.numbering
  pub long : length new.seen.items ≡ length old.seen.items
  pub is_done : IsDone trees new operand
  pub named : (e : ℕ) → IsNamed (names_in old.numbering) e → IsNamed (names_in new.numbering) e
  pub seen : (n : ℕ) → Stands old.seen.items n true → Stands new.seen.items n true
  pub opened : (n : ℕ) → Stands new.seen.items n true → IsOpened gates old new n
  pub kept : (o : g.Operand) → IsOneOf (waiting old) o → IsOneOf (waiting new) o
  pub sound : (o : g.Operand) → IsOneOf (waiting new) o → IsOneOf (waiting old) o
      ⊎ ((n : ℕ) × (gate : g.Gate) × Stands gates n gate × IsOfGate operand n × IsOneOf gate.operands o)
  pub fresh : (x : ℕ) → IsNamed (names_in new.numbering) x → IsNamed (names_in old.numbering) x ⊎ IsMetBy trees operand x
  pub less : work gates new ≡ work gates old
