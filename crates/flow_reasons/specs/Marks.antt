-- What is known of the facts of a standing valuation after some rounds: a mark for each variable.
use Rattle.std.specs.Prelude.{◌≡◌, ◌+◌, ℕ, suc, true, false, List, [], ◌∷◌, length, map, slice_get, if◌then◌else◌}
use Rattle.ar_base.specs.Lists.{Stands, IsFirst}
use Rattle.domains.specs.declared.Value.{Value}
use Rattle.ar_meaning.specs.Facts.{FactOf}
use Rattle.ar_meaning.specs.Flows.{Flows, Total}
use Rattle.flow_reasons.specs.Rounds.{Round, AddsFact}
use Rattle.gts_core.specs.View.{net_of}
use Rattle.gts_core.specs.Readings.{IsTotal, valuation_values}
use Rattle.gts_core.specs.declared.system.Variable.{Variable}
use Rattle.gts_core.specs.declared.system.GtsParts.{GtsParts}
use Rattle.flow_reasons.specs.FactMarks.{is_fact, is_fact_found}
use Rattle.flow_reasons.specs.declared.fact_marks.Mark.{Mark}
use Rattle.flow_reasons.specs.declared.fact_marks.Mark.TheVariants.{Unknown, Given, Added}

-- the value of the variable of this number, where it has its fact
abbrev pub fact_value_at : List Value → List Mark → ℕ → List Value
fact_value_at values marks n = if is_fact_found (slice_get marks n) then valuation_values values n else []

-- the variable has its fact, and it is this value
pub record Known (values : List Value) (marks : List Mark) (n : ℕ) (v : Value) : Type 0 where
  pub mark : Mark
  pub stands : Stands marks n mark
  pub is : is_fact mark ≡ true
  pub value : Stands values n v

-- how many variables have no fact yet
abbrev pub unknown_count : List Mark → ℕ
unknown_count [] = 0
unknown_count (m ∷ ms) = (if is_fact m then 0 else 1) + unknown_count ms

-- the valuation determines itself
pub record IsStanding (p : GtsParts) (values : List Value) : Type 0 where
  pub total : IsTotal p values
  pub flows : Flows (net_of p) values (Total values)

-- the flow's value came in this round by this assignment
pub record IsAddedIn (p : GtsParts) (values : List Value) (n : ℕ) (v : Value) (round by : ℕ) : Type 0 where
  pub before : ℕ
  pub is_round : round ≡ suc before
  pub not_yet : Round (net_of p) values before n v → ⊥
  pub first : IsFirst (net_of p).assertions (AddsFact (net_of p) (Round (net_of p) values before) n v) by

-- what the mark of a variable with this value says
abbrev pub MarkSays : GtsParts → List Value → ℕ → Variable → Value → Mark → Type 0
MarkSays p values n x v Unknown = x.is_state ≡ false
MarkSays p values n x v Given = x.is_state ≡ true
MarkSays p values n x v (Added round by) = (x.is_state ≡ false) × IsAddedIn p values n v round by.n

-- the marks after so many rounds
pub record AreRoundMarks (p : GtsParts) (values : List Value) (rounds : ℕ) (marks : List Mark) : Type 0 where
  pub long : length marks ≡ length p.variables.items
  pub sound : (n : ℕ) (v : Value) → Known values marks n v → Round (net_of p) values rounds n v
  pub whole : (n : ℕ) (v : Value) → Round (net_of p) values rounds n v → Known values marks n v
  pub says : (n : ℕ) (x : Variable) (v : Value) (m : Mark) → Stands p.variables.items n x → Stands values n v
      → Stands marks n m → MarkSays p values n x v m

-- the marks after all rounds: each fact is known
pub record AreLastMarks (p : GtsParts) (values : List Value) (marks : List Mark) : Type 0 where
  pub rounds : ℕ
  pub are : AreRoundMarks p values rounds marks
  pub facts : (n : ℕ) (v : Value) → FactOf (net_of p) values n v → Known values marks n v

-- the first mark of a variable: the state gives the facts of state variables
abbrev pub first_mark_of : Variable → Mark
first_mark_of x = if x.is_state then Given else Unknown

-- the marks before the first round
abbrev pub first_marks_of : List Variable → List Mark
first_marks_of xs = map first_mark_of xs
