-- How the flows of a system depend on each other, and which assignments read which variable.
use Rattle.std.specs.Prelude.{◌≡◌, ℕ, ◌<◌, ◌⊎◌, List, [], length, map}
use Rattle.ar_base.specs.Lists.{Stands, IsOneOf}
use Rattle.ar_meaning.specs.Dependence.{AreUses, flow_count}
use Rattle.ar_meaning.specs.DependenceInside.{IsReadBy}
use Rattle.flow_blocks.specs.Blocks.{Follow}
use Rattle.flow_blocks.specs.declared.dependences.Block.{Block}
use Rattle.gts_core.specs.View.{net_of}
use Rattle.gts_core.specs.declared.system.Assign.{Assign}
use Rattle.gts_core.specs.declared.system.GtsParts.{GtsParts}
use Rattle.flow_propagate.specs.declared.plan.Plan.{Plan}
pub use Rattle.flow_propagate.specs.Runs.{Reader}

-- the classes of the flows by dependence, in order
pub record AreFlowClasses (p : GtsParts) (blocks : List (List ℕ)) : Type 0 where
  pub uses : List (ℕ × ℕ)
  pub are : AreUses (net_of p) uses
  pub follow : Follow (flow_count (net_of p).variables) uses [] blocks

-- a pair comes before another: by its variable, and then by its assignment
abbrev pub ComesBefore : ℕ × ℕ → ℕ × ℕ → Type 0
ComesBefore q r = (q.0 < r.0) ⊎ ((q.0 ≡ r.0) × (q.1 < r.1))

-- the pairs of a variable and an assignment that names it, ascending, each once
pub record AreReaders (p : GtsParts) (readers : List (ℕ × ℕ)) : Type 0 where
  pub only : (x n : ℕ) → IsOneOf readers (x, n) → IsReadBy (net_of p) x n
  pub all : (x n : ℕ) → IsReadBy (net_of p) x n → IsOneOf readers (x, n)
  pub ascending : (j k : ℕ) (q r : ℕ × ℕ) → j < k → Stands readers j q → Stands readers k r → ComesBefore q r

-- the pairs of a variable and an assignment to it, ascending, each once
pub record AreGivers (p : GtsParts) (givers : List (ℕ × ℕ)) : Type 0 where
  pub only : (x n : ℕ) → IsOneOf givers (x, n) → (a : Assign) × Stands p.assigns.items n a × (a.target.n ≡ x)
  pub all : (n : ℕ) (a : Assign) → Stands p.assigns.items n a → IsOneOf givers (a.target.n, n)
  pub ascending : (j k : ℕ) (q r : ℕ × ℕ) → j < k → Stands givers j q → Stands givers k r → ComesBefore q r

-- a list of the numbers below the count, and of no others
pub record IsNumberOrder (count : ℕ) (order : List ℕ) : Type 0 where
  pub all : (n : ℕ) → n < count → IsOneOf order n
  pub below : (n : ℕ) → IsOneOf order n → n < count

-- an order of the assignments, and the place of each of them in it
pub record IsSchedule (p : GtsParts) (order places : List ℕ) : Type 0 where
  pub is_order : IsNumberOrder (length p.assigns.items) order
  pub long : length places ≡ length p.assigns.items
  pub placed : (n place : ℕ) → Stands places n place → Stands order place n

-- a pair by its plain numbers
abbrev pub plain_pair : Reader → ℕ × ℕ
plain_pair r = (r.0.n, r.1.n)

-- the plan of a system
pub record IsPlan (p : GtsParts) (plan : Plan) : Type 0 where
  pub blocks : AreFlowClasses p (map (λ (b : Block). b.members.items) plan.blocks.items)
  pub readers : AreReaders p (map plain_pair plan.readers.pairs.items)
  pub givers : AreGivers p (map plain_pair plan.givers.pairs.items)
  pub schedule : IsSchedule p plan.order.items plan.places.items
