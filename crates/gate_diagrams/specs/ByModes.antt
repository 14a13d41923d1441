-- What drawing by modes gives.
use Rattle.std.specs.Prelude.{◌≡◌, ◌≤◌, ℕ, List, length, Option, Result, Ok, Err, IfOk}
use Rattle.ar_firing.specs.Forest.{ModeTree}
use Rattle.ar_firing.specs.Listed.{AreListed}
use Rattle.zdd_nodes.specs.Families.{Family, minimal}
use Rattle.zdd_nodes.specs.Nodes.{NodeId, Stored, family, IsFamilyNumber, IsSoundStore, Draws}
use Rattle.zdd_nodes.specs.declared.NodeFault.TheVariants as NodeFault
use Rattle.eq_core.specs.Gates.{Operand, Gate, Table}
use Rattle.eq_core.specs.Values.{value_at}
use Rattle.firable_families.specs.FirableInside.{IsTrueUpTo}
use Rattle.diagram_steps.specs.declared.trees.NumberedTree.{NumberedTree}
use Rattle.mode_diagrams.specs.declared.undrawn.Undrawn.{Undrawn}
use Rattle.mode_diagrams.specs.Numbers.{IsByModes}
use Rattle.mode_diagrams.specs.declared.listing.Listed.{Listed}
use Rattle.gate_diagrams.specs.Needed.{family_at, IsNeeded}
use Rattle.gate_diagrams.specs.NodeLimits.{NodesMayUpTo}
use Rattle.gate_diagrams.specs.Answers.{IsAnswerUpTo, AreNeeded, store_of}
use Rattle.gate_diagrams.specs.declared.answer.Drawn.{Drawn}
use Rattle.gate_diagrams.specs.declared.by_modes.Unanswered.{Unanswered}

-- the family has the firable sets of at most as many events as are asked for at which the operand is true, where the numbered
-- trees are those of a forest
pub record IsListedFamily (order : Option ℕ) (trees : List NumberedTree) (gates : List Gate) (o : Operand) (l : Listed) : Type 0 where
  pub sound : IsSoundStore l.store
  pub in_store : IsFamilyNumber l.store l.root.n
  pub are : (forest : List ModeTree) → IsByModes forest trees
      → AreListed (IsTrueUpTo order forest (value_at gates o)) (family l.store l.root.n)

-- why there is no answer, where an operand got no diagram
abbrev pub unanswered_of : Undrawn → Unanswered
unanswered_of Undrawn.Beyond = Unanswered.Beyond
unanswered_of Undrawn.Memory = Unanswered.Nodes NodeFault.Memory

-- at every set the second operand, over the second gates, has the value of the first
pub record HasValueOf (old : List Gate) (o : Operand) (gates : List Gate) (p : Operand) : Type 0 where
  pub same : (set : List ℕ) → value_at gates p set ≡ value_at old o set

-- the minimal sets of the operand's family over the firable sets `all` got a number or were refused by the store, which has
-- what is needed alone; or mode diagrams do not suffice
abbrev pub DrawsByModes : Family → List Gate → Operand → Stored → Stored → Result NodeId Unanswered → Type 0
DrawsByModes all gates o s t (Ok n) = Draws (IsNeeded all gates o) (minimal (family_at all gates o)) s t (Ok n)
DrawsByModes all gates o s t (Err Unanswered.Beyond) = Unit {0}
DrawsByModes all gates o s t (Err (Unanswered.Nodes e)) =
    Draws (IsNeeded all gates o) (minimal (family_at all gates o)) s t (Err e)

-- an answer, where there is one, is right, its store has what is needed alone, in no more nodes than the limit, and Full
-- is licensed
pub record AnswersByModes (order : Option ℕ) (trees : List ModeTree) (table : Table) (all : Family) (limit : ℕ)
    (r : Result Drawn Unanswered) : Type 0 where
  pub sets : IfOk r (λ d. IsAnswerUpTo order trees table d)
  pub needed : IfOk r (λ d. AreNeeded all table d)
  pub within : IfOk r (λ d. length (store_of d).families ≤ limit)
  pub full : r ≡ Err (Unanswered.Nodes NodeFault.Full) → NodesMayUpTo order trees table limit
