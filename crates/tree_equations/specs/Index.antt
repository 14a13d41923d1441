-- What is looked up in a system.
use Rattle.std.specs.Prelude.{◌≡◌, ◌<◌, ℕ, nat_eq, if◌then◌else◌, List, [], ◌∷◌, ◌++◌, length, Vec}
use Rattle.std.specs.Global.{Global}
use Rattle.ar_base.specs.Lists.{Stands, Along, IsOneOf}
use Rattle.ar_meaning.specs.Systems as s
use Rattle.flow_blocks.specs.Bits.{row_of}
use Rattle.gts_core.specs.View.{net_of, variable_of, assign_of}
use Rattle.gts_core.specs.declared.system.Variable.{Variable}
use Rattle.gts_core.specs.declared.system.Assign.{Assign}
use Rattle.gts_core.specs.declared.system.GtsParts.{GtsParts}
use Rattle.eq_build.specs.Steps.{flows_from, AllMayLeave, MayLeaveOf}
use Rattle.tree_equations.specs.declared.index.Index.{Index}

-- the assignments to a variable
abbrev pub to_target : ℕ → List Assign → List Assign
to_target n [] = []
to_target n (a ∷ rest) = if nat_eq a.target.n n then a ∷ to_target n rest else to_target n rest

-- these numbers stand for these assignments
abbrev pub AreNumbersOf : List Assign → List ℕ → List Assign → Type 0
AreNumbersOf all ks picked = Along (λ k a. Stands all k a) ks picked

-- the numbers of the assignments to each variable, of the first so many
pub record AreByTarget (count : ℕ) (assigns : List Assign) (old : List Assign) (rows : List (Vec ℕ Global)) : Type
    0 where
  pub long : length rows ≡ count
  pub row : (n : ℕ) → n < count → AreNumbersOf assigns (row_of rows n) (to_target n old)

-- the number stands for the flow
pub record IsFlowPair (variables : List Variable) (n : ℕ) (pair : ℕ × s.Variable ℕ) : Type 0 where
  pub variable : Variable
  pub stands : Stands variables n variable
  pub is : pair ≡ (n, variable_of n variable)

-- these are the numbers of the flows, from number n on
abbrev pub AreFlows : List Variable → List ℕ → List (ℕ × s.Variable ℕ) → Type 0
AreFlows variables flows pairs = Along (IsFlowPair variables) flows pairs

-- the flows, and the assignments to each variable
pub record IsIndex (p : GtsParts) (index : Index) : Type 0 where
  pub flows : AreFlows p.variables.items index.flows.items (flows_from 0 (net_of p).variables)
  pub assigns : AreByTarget (length p.variables.items) p.assigns.items p.assigns.items index.assigns.items

-- each number is below the count
abbrev pub AreUnder : ℕ → List ℕ → Type 0
AreUnder count ns = (n : ℕ) → IsOneOf ns n → n < count

-- the number stands for the assignment, and this is its target
pub record IsLeaving (p : GtsParts) (k : ℕ) (pair : s.Variable ℕ × s.Assign ℕ) : Type 0 where
  pub assign : Assign
  pub stands : Stands p.assigns.items k assign
  pub variable : Variable
  pub is_target : Stands p.variables.items assign.target.n variable
  pub is : pair ≡ (variable_of assign.target.n variable, assign_of assign)

-- these are the numbers of the assignments that may leave the domains of their targets
pub record AreLeaving (p : GtsParts) (ks : List ℕ) : Type 0 where
  pub leaving : List (s.Variable ℕ × s.Assign ℕ)
  pub all : AllMayLeave (net_of p) 0 (net_of p).variables leaving
  pub are : Along (IsLeaving p) ks leaving

-- to these came the numbers of those of one flow's assignments that may leave its domain
pub record AddsLeaving (p : GtsParts) (x : s.Variable ℕ) (assigns : List (s.Assign ℕ)) (old new : List ℕ) : Type 0 where
  pub added : List ℕ
  pub leaving : List (s.Variable ℕ × s.Assign ℕ)
  pub are_all : MayLeaveOf (net_of p) x assigns leaving
  pub are : Along (IsLeaving p) added leaving
  pub is : new ≡ old ++ added
