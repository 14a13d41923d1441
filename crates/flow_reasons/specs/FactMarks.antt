-- Marks of which facts are known, and how they are set.
use Rattle.std.specs.Prelude.{◌≡◌, ◌≤◌, ◌⊎◌, ℕ, Bool, true, false, List, length, Option, Some, None}
use Rattle.ar_base.specs.Lists.{Stands, IsOneOf}
use Rattle.ar_base.specs.NumbersInside.{AssignId}
use Rattle.gts_core.specs.declared.system.Assign.{Assign}
use Rattle.gts_core.specs.declared.system.GtsParts.{GtsParts}
use Rattle.flow_reasons.specs.declared.fact_marks.Mark.{Mark}
use Rattle.flow_reasons.specs.declared.fact_marks.Mark.TheVariants.{Unknown, Given, Added}

-- the mark says that the variable has its fact
abbrev pub is_fact : Mark → Bool
is_fact Unknown = false
is_fact Given = true
is_fact (Added round by) = true

-- the same of a mark that was looked up
abbrev pub is_fact_found : Option Mark → Bool
is_fact_found None = false
is_fact_found (Some m) = is_fact m

-- the variable of this number has no fact yet
pub record HasNoFact (marks : List Mark) (n : ℕ) : Type 0 where
  pub mark : Mark
  pub stands : Stands marks n mark
  pub is : is_fact mark ≡ false

-- assignment n has this target
pub record IsTo (p : GtsParts) (n target : ℕ) : Type 0 where
  pub assign : Assign
  pub stands : Stands p.assigns.items n assign
  pub is : assign.target.n ≡ target

-- the first of these assignments that is one to the variable, as the mark of a round
pub record IsMarkedBy (p : GtsParts) (bringing : List ℕ) (round n : ℕ) (m : Mark) : Type 0 where
  pub by : AssignId
  pub is : m ≡ Added round by
  pub is_one : IsOneOf bringing by.n
  pub is_to : IsTo p by.n n
  pub least : (k : ℕ) → IsOneOf bringing k → IsTo p k n → by.n ≤ k

-- the targets of these assignments were marked, where they had no fact, each by the first that is one to it
pub record MarksAll (p : GtsParts) (bringing : List ℕ) (round : ℕ) (old new : List Mark) (fresh : List ℕ) : Type 0 where
  pub long : length new ≡ length old
  pub kept : (n : ℕ) (m : Mark) → Stands old n m → is_fact m ≡ true → Stands new n m
  pub only : (n : ℕ) (m : Mark) → Stands new n m
      → Stands old n m ⊎ (HasNoFact old n × (IsOneOf fresh n × IsMarkedBy p bringing round n m))
  pub all : (k n : ℕ) → IsOneOf bringing k → IsTo p k n → HasNoFact new n → ⊥
