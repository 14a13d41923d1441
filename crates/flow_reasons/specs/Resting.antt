-- The variables that the reasons of flows rest on, as they are gathered from the pairs of variables and assignments.
use Rattle.std.specs.Prelude.{◌≡◌, ◌↔◌, ℕ, Bool, true, false, nat_lt, List, [], ◌∷◌, ◌++◌, length, Some, None, Vec}
use Rattle.std.specs.Global.{Global}
use Rattle.ar_base.specs.Lists.{Stands, IsOneOf}
use Rattle.ar_base.specs.Numbers.{VarId}
use Rattle.ar_base.specs.NumbersInside.{AssignId}
use Rattle.ar_base.specs.Sets.{Ascends}
use Rattle.domains.specs.declared.Value.{Value}
use Rattle.flow_reasons.specs.Reasons as rounds
use Rattle.gts_core.specs.declared.system.GtsParts.{GtsParts}
use Rattle.flow_propagate.specs.Plan.{AreReaders}
use Rattle.flow_reasons.specs.Answers.{numbers_of}
use Rattle.flow_reasons.specs.FactMarks.{IsTo}
use Rattle.flow_reasons.specs.declared.fact_marks.Mark.{Mark}
use Rattle.flow_reasons.specs.declared.fact_marks.Mark.TheVariants.{Unknown, Given, Added}

-- the mark says that the fact stood before this round
abbrev pub came_before : Mark → ℕ → Bool
came_before Unknown round = false
came_before Given round = true
came_before (Added r by) round = nat_lt r round

-- the pair of variable x and assignment a gives one of the variables that the reason of flow n rests on: the assignment
-- is one to the flow and added its fact, and the variable had its fact before
pub record IsReasonRest (p : GtsParts) (marks : List Mark) (n x a : ℕ) : Type 0 where
  pub is_to : IsTo p a n
  pub round : ℕ
  pub by : AssignId
  pub added : Stands marks n (Added round by)
  pub is_by : by.n ≡ a
  pub other : Mark
  pub stands : Stands marks x other
  pub before : came_before other round ≡ true

-- a pair that gives variable x for flow n
pub record HasRest (p : GtsParts) (marks : List Mark) (pairs : List (ℕ × ℕ)) (n x : ℕ) : Type 0 where
  pub assign : ℕ
  pub pair : IsOneOf pairs (x, assign)
  pub is : IsReasonRest p marks n x assign

-- the variables that the reason of flow n rests on, by these pairs
pub record IsRestRow (p : GtsParts) (marks : List Mark) (pairs : List (ℕ × ℕ)) (n : ℕ) (row : List ℕ) : Type 0 where
  pub ascends : Ascends row
  pub each : (x : ℕ) → (IsOneOf row x ↔ HasRest p marks pairs n x)

-- the same for each variable
pub record AreRests (p : GtsParts) (marks : List Mark) (pairs : List (ℕ × ℕ)) (rests : List (Vec VarId Global)) : Type
    0 where
  pub long : length rests ≡ length marks
  pub each : (n : ℕ) (row : Vec VarId Global) → Stands rests n row → IsRestRow p marks pairs n (numbers_of row.items)

-- the assignment of this number added the first fact, and the other one came before
pub data IsMarkedRest : Mark → ℕ → Mark → Type 0 where
  added : {round : ℕ} {by : AssignId} {a : ℕ} {other : Mark} → by.n ≡ a → came_before other round ≡ true
      → IsMarkedRest (Added round by) a other

-- so many empty lists
pub record AreEmpty (count : ℕ) (rests : List (Vec VarId Global)) : Type 0 where
  pub long : length rests ≡ count
  pub each : (n : ℕ) (row : Vec VarId Global) → Stands rests n row → row.items ≡ []

-- the list got the variable last, where it is one of those that the reason rests on
pub record IsRowThen (marks : List Mark) (target variable assign : ℕ) (before after : List VarId) : Type 0 where
  pub taken : (mark other : Mark) → Stands marks target mark → Stands marks variable other
      → IsMarkedRest mark assign other → numbers_of after ≡ numbers_of before ++ variable ∷ []
  pub left : ((mark other : Mark) → Stands marks target mark → Stands marks variable other
      → IsMarkedRest mark assign other → ⊥) → after ≡ before

-- the row of the target got the variable where it is one of those that its reason rests on
pub record AddsRest (marks : List Mark) (target variable assign : ℕ) (old new : List (Vec VarId Global)) : Type 0 where
  pub long : length new ≡ length old
  pub other : (n : ℕ) (row : Vec VarId Global) → Stands new n row → (n ≡ target → ⊥) → Stands old n row
  pub row : (before after : Vec VarId Global) → Stands old target before → Stands new target after
      → IsRowThen marks target variable assign before.items after.items

-- the reason that the mark of a flow with this value makes, and what it rests on
abbrev pub reason_made : ℕ → Value → Mark → List VarId → rounds.Reason
reason_made n v Unknown rests = record { flow = n; value = v; round = 0; by = None; rests_on = [] }
reason_made n v Given rests = record { flow = n; value = v; round = 0; by = None; rests_on = [] }
reason_made n v (Added round by) rests =
    record { flow = n; value = v; round = round; by = Some by.n; rests_on = numbers_of rests }

-- the lists are those by the pairs of the system
pub record HaveRests (p : GtsParts) (marks : List Mark) (rests : List (Vec VarId Global)) : Type 0 where
  pub pairs : List (ℕ × ℕ)
  pub readers : AreReaders p pairs
  pub are : AreRests p marks pairs rests
