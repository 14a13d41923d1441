-- How the facts of a cone are gathered in place.
use Rattle.std.specs.Prelude.{◌≡◌, ◌≤◌, ◌+◌, ◌*◌, ◌⊎◌, ℕ, Bool, List, length}
use Rattle.ar_base.specs.Lists.{Stands, IsOneOf}
use Rattle.domains.specs.declared.Value.{Value}
use Rattle.typed_expr.specs.Yields.{Yields}
use Rattle.typed_expr.specs.declared.expr.Expr.{out-Expr}
use Rattle.ar_meaning.specs.Facts.{PassesConditions, FactOf}
use Rattle.gts_core.specs.Readings.{IsTotal}
use Rattle.gts_core.specs.View.{assign_of, net_of}
use Rattle.gts_core.specs.declared.system.Assign.{Assign}
use Rattle.gts_core.specs.declared.system.GtsParts.{GtsParts}
use Rattle.flow_propagate.specs.declared.plan.Plan.{Plan}
use Rattle.flow_changes.specs.Cone.{Knows, HasAll}
use Rattle.flow_changes.specs.Known.{unmarked}
use Rattle.flow_changes.specs.Picking.{AreWithin}
use Rattle.flow_changes.specs.Queue.{IsQueue, PlaceWaits, waiting_places}
use Rattle.flow_changes.specs.declared.queue.Queue.{Queue}

-- the assignment of this number waits
pub record WaitsInQueue (plan : Plan) (work : Queue) (m : ℕ) : Type 0 where
  pub place : ℕ
  pub stands : Stands plan.places.items m place
  pub waits : PlaceWaits work place

-- what assignment n yields from what was known
pub record IsYieldedAnew (p : GtsParts) (n : ℕ) (values : List Value) (known : List Bool) (m : ℕ) (v : Value) : Type 0 where
  pub assign : Assign
  pub stands : Stands p.assigns.items n assign
  pub is : m ≡ assign.target.n
  pub passes : PassesConditions (Knows values known) (assign_of assign).conditions
  pub yields : Yields (Knows values known) (out-Expr ℕ (assign_of assign).value) v

-- what is left to do: for each value that may become known one look at each reader, and the looks that wait
abbrev pub work_left : Plan → List Bool → Queue → ℕ
work_left plan known work = (length plan.readers.pairs.items + 1) * unmarked known + waiting_places work

-- assignment n was looked at
pub record Looks (p : GtsParts) (plan : Plan) (n : ℕ) (values : List Value) (known : List Bool) (work : Queue)
    (values_then : List Value) (known_then : List Bool) (work_then : Queue) : Type 0 where
  pub grows : (m : ℕ) (v : Value) → Knows values known m v → Knows values_then known_then m v
  pub only : (m : ℕ) (v : Value) → Knows values_then known_then m v
      → Knows values known m v ⊎ IsYieldedAnew p n values known m v
  pub is : IsQueue work_then
  pub same : work_then.list.items ≡ work.list.items
  pub settled : (m : ℕ) (a : Assign) → Stands p.assigns.items m a
      → (m ≡ n) ⊎ (WaitsInQueue plan work m ⊎ HasAll (Knows values known) (assign_of a))
      → WaitsInQueue plan work_then m ⊎ HasAll (Knows values_then known_then) (assign_of a)
  pub less : work_left plan known_then work_then ≤ work_left plan known work

-- the list has the places of the assignments to the members, and no others
pub record HasPlacesTo (p : GtsParts) (plan : Plan) (members list : List ℕ) : Type 0 where
  pub within : AreWithin list plan.order.items
  pub targets : (q n : ℕ) (a : Assign) → IsOneOf list q → Stands plan.order.items q n → Stands p.assigns.items n a
      → IsOneOf members a.target.n
  pub all : (m q : ℕ) (a : Assign) → Stands p.assigns.items m a → IsOneOf members a.target.n
      → Stands plan.places.items m q → IsOneOf list q

-- what is known has what each assignment to a member yields, and no more than the facts of the state; the list has the
-- places of these assignments
pub record ClosesUp (p : GtsParts) (plan : Plan) (members : List ℕ) (state : List Value) (known : List Bool)
    (values : List Value) (known_then : List Bool) (list : List ℕ) : Type 0 where
  pub total : IsTotal p values
  pub grows : (m : ℕ) (v : Value) → Knows state known m v → Knows values known_then m v
  pub sound : (m : ℕ) (v : Value) → Knows values known_then m v → FactOf (net_of p) state m v
  pub has_all : (m : ℕ) (a : Assign) → Stands p.assigns.items m a → IsOneOf members a.target.n
      → HasAll (Knows values known_then) (assign_of a)
  pub places : HasPlacesTo p plan members list
