-- How many nodes the expressions of a system have.
use Rattle.std.specs.Prelude.{ℕ, ◌+◌, Bool, List, [], ◌∷◌}
use Rattle.typed_expr.specs.declared.expr.Expr.{Expr}
use Rattle.typed_expr.specs.declared.expr.Expr.TheOpen.{Expr-F, Constant, Variable, Not, All, Any, Compare, Sum, Product, Least, Greatest, Count, Choose}
use Rattle.typed_expr.specs.declared.expr.Expr.TheFolds.{fold-Expr}
use Rattle.ar_meaning.specs.Systems.{Assign, Transition, Way, Leaf, Joint, Event, System}

-- the sum of these numbers; the same of numbers with marks, and of pairs of numbers
abbrev pub total : List ℕ → ℕ
total [] = 0
total (n ∷ ns) = n + total ns

abbrev pub total_marked : List (Bool × ℕ) → ℕ
total_marked [] = 0
total_marked (p ∷ ps) = p.1 + total_marked ps

abbrev pub total_paired : List (ℕ × ℕ) → ℕ
total_paired [] = 0
total_paired (p ∷ ps) = (p.0 + p.1) + total_paired ps

-- a form counts one, and its operands besides
abbrev pub form_nodes : {V : Type 0} → Expr-F V ℕ → ℕ
form_nodes (Constant v) = 1
form_nodes (Variable x) = 1
form_nodes (Not a) = a.value + 1
form_nodes (All es) = total es.items + 1
form_nodes (Any es) = total es.items + 1
form_nodes (Compare r a b) = (a.value + b.value) + 1
form_nodes (Sum terms) = total_marked terms.items + 1
form_nodes (Product es) = total es.items + 1
form_nodes (Least es) = total es.items + 1
form_nodes (Greatest es) = total es.items + 1
form_nodes (Count es) = total es.items + 1
form_nodes (Choose cases other) = (total_paired cases.items + other.value) + 1

-- the nodes of an expression
abbrev pub nodes_of : {V : Type 0} → Expr V → ℕ
nodes_of {V = V} = fold-Expr V ℕ form_nodes

-- the nodes of expressions, of the terms of a sum, and of the cases of a choice
abbrev pub nodes_in : {V : Type 0} → List (Expr V) → ℕ
nodes_in [] = 0
nodes_in (e ∷ es) = nodes_of e + nodes_in es

-- the nodes of conditions
abbrev pub condition_nodes : {V : Type 0} → List (Expr V × Bool) → ℕ
condition_nodes [] = 0
condition_nodes (c ∷ cs) = nodes_of c.0 + condition_nodes cs

-- the nodes of an assignment: of its conditions and of its expression
abbrev pub assign_nodes : {V : Type 0} → Assign V → ℕ
assign_nodes a = condition_nodes a.conditions + nodes_of a.value

abbrev pub assigns_nodes : {V : Type 0} → List (Assign V) → ℕ
assigns_nodes [] = 0
assigns_nodes (a ∷ rest) = assign_nodes a + assigns_nodes rest

-- the nodes of the guard and of the action
abbrev pub transition_nodes : {V : Type 0} → Transition V → ℕ
transition_nodes d = nodes_of d.guard + assigns_nodes d.action

-- a synchronised way has no expressions of its own
abbrev pub way_nodes : {V : Type 0} → Way V → ℕ
way_nodes (Leaf d) = transition_nodes d
way_nodes (Joint bs) = 0

abbrev pub ways_nodes : {V : Type 0} → List (Way V) → ℕ
ways_nodes [] = 0
ways_nodes (w ∷ ws) = way_nodes w + ways_nodes ws

abbrev pub events_nodes : {V : Type 0} → List (Event V) → ℕ
events_nodes [] = 0
events_nodes (e ∷ es) = ways_nodes e.ways + events_nodes es

-- the nodes of the ways' guards and actions, of the assertions and of the observers
abbrev pub system_nodes : {V : Type 0} → System V → ℕ
system_nodes sys =
    events_nodes sys.events + (assigns_nodes sys.net.assertions + nodes_in sys.observers)
