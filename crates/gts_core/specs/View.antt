-- The system that a flat system's parts stand for.
use Rattle.std.specs.Prelude.{◌≡◌, ℕ, ◌+◌, Bool, List, [], ◌∷◌, map}
use Rattle.ar_base.specs.Lists.{Along}
use Rattle.ar_base.specs.Numbers.{VarId, WayId}
use Rattle.domains.specs.Domains.{values_of}
use Rattle.typed_expr.specs.declared.expr.Expr.{Expr, roll-Expr}
use Rattle.typed_expr.specs.declared.expr.Expr.TheOpen.{Expr-F, Constant, Variable, Not, All, Any, Compare, Sum, Product, Least, Greatest, Count, Choose}
use Rattle.typed_expr.specs.declared.expr.Expr.TheFolds.{fold-Expr}
use Rattle.ar_meaning.specs.Systems as s
use Rattle.ar_meaning.specs.Numbered.{Body, Acts, Joins, Means_way}
use Rattle.gts_core.specs.declared.system.Variable.{Variable as FlatVariable}
use Rattle.gts_core.specs.declared.system.Event.{Event}
use Rattle.gts_core.specs.declared.system.Way.{Way}
use Rattle.gts_core.specs.declared.system.WayBody.{WayBody}
use Rattle.gts_core.specs.declared.system.WayBody.TheVariants.{Local, Sync}
use Rattle.gts_core.specs.declared.system.Assign.{Assign}
use Rattle.gts_core.specs.declared.system.Observer.{Observer}
use Rattle.gts_core.specs.declared.system.GtsParts.{GtsParts}

-- one form with each variable's plain number in its place
abbrev pub number_step : Expr-F VarId (Expr ℕ) → Expr-F ℕ (Expr ℕ)
number_step (Constant v) = Constant v
number_step (Variable x) = Variable x.n
number_step (Not a) = Not a
number_step (All es) = All es
number_step (Any es) = Any es
number_step (Compare r a b) = Compare r a b
number_step (Sum parts) = Sum parts
number_step (Product es) = Product es
number_step (Least es) = Least es
number_step (Greatest es) = Greatest es
number_step (Count es) = Count es
number_step (Choose cases other) = Choose cases other

-- the expression over plain numbers
abbrev pub numbered : Expr VarId → Expr ℕ
numbered = fold-Expr VarId (Expr ℕ) (λ x. roll-Expr ℕ (number_step x))

-- a variable, with its number as what stands for it
abbrev pub variable_of : ℕ → FlatVariable → s.Variable ℕ
variable_of n x = record {
  key = n;
  unit = x.unit.n;
  domain = values_of x.domain;
  is_state = x.is_state;
  value = x.value;
}

-- the variables from number n on
abbrev pub variables_from : ℕ → List FlatVariable → List (s.Variable ℕ)
variables_from n [] = []
variables_from n (x ∷ xs) = variable_of n x ∷ variables_from (n + 1) xs

-- a condition over plain numbers
abbrev pub condition_of : Expr VarId × Bool → Expr ℕ × Bool
condition_of c = (numbered c.0, c.1)

-- an assignment over plain numbers
abbrev pub assign_of : Assign → s.Assign ℕ
assign_of a = record { target = a.target.n; conditions = map condition_of a.when.items; value = numbered a.value }

-- a part of a synchronisation by its mark and the plain number of its way
abbrev pub part_of : Bool × WayId → Bool × ℕ
part_of p = (p.0, p.1.n)

-- a way by its number alone
abbrev pub of_body : WayBody → Body (s.Transition ℕ)
of_body (Local guard action) = Acts (record { guard = numbered guard; action = map assign_of action.items })
of_body (Sync parts) = Joins (map part_of parts.items)

abbrev pub body_of_way : Way → Body (s.Transition ℕ)
body_of_way w = of_body w.body

-- the ways of the system by number
abbrev pub way_bodies : GtsParts → List (Body (s.Transition ℕ))
way_bodies p = map body_of_way p.ways.items

-- the variables and the assertions of the system
abbrev pub net_of : GtsParts → s.Net ℕ
net_of p = record { variables = variables_from 0 p.variables.items; assertions = map assign_of p.assigns.items }

-- the number stands for the way
abbrev pub IsWayAt : GtsParts → ℕ → s.Way ℕ → Type 0
IsWayAt p n w = Means_way (way_bodies p) n w

-- an event with the ways that its numbers stand for
pub record IsEventView (p : GtsParts) (e : Event) (event : s.Event ℕ) : Type 0 where
  pub unit : event.unit ≡ e.unit.n
  pub hidden : event.hidden ≡ e.hidden
  pub ways : Along (λ (n : WayId) (w : s.Way ℕ). IsWayAt p n.n w) e.ways.items event.ways

-- the observers' expressions
abbrev pub observers_of : GtsParts → List (Expr ℕ)
observers_of p = map (λ (o : Observer). numbered o.value) p.observers.items

-- the system that the parts stand for
pub record Views (p : GtsParts) (system : s.System ℕ) : Type 0 where
  pub net : system.net ≡ net_of p
  pub events : Along (IsEventView p) p.events.items system.events
  pub observers : system.observers ≡ observers_of p
