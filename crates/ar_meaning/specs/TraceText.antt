-- The text of a run: one text for each of its moments.
use Rattle.std.specs.Prelude.{◌≡◌, ℕ, ◌+◌, ◌==◌, if◌then◌else◌, List, [], ◌∷◌, ◌++◌, Option, Some, None, length, slice_get, codes, decimal}
use Rattle.ar_base.specs.Lists.{Along}
use Rattle.ar_base.specs.Texts.{text_at, line}
use Rattle.ar_base.specs.declared.places.Place.{Place}
use Rattle.domains.specs.declared.Value.{Value}
use Rattle.typed_expr.specs.Yields.{Yields}
use Rattle.typed_expr.specs.declared.expr.Expr.{out-Expr}
use Rattle.ar_meaning.specs.Systems.{System, Event}
use Rattle.ar_meaning.specs.ValueTexts.{value_text}
use Rattle.ar_meaning.specs.Facts.{HasValue}
use Rattle.ar_meaning.specs.Flows.{FlowFault, Two, Outside, Broken}
use Rattle.ar_meaning.specs.Steps.{StepFault, NotEnabled, Clash, Range, Flow}
use Rattle.ar_meaning.specs.Runs.{Label, Moment, Starts, Start_fails, Fires, Fire_fails, Goes_back, No_step, Shows, Lists, Ends}

-- what things are called: the canonical paths of variables, events and observers by number, the names of symbols by
-- number,
-- and where the target of each assignment of an assertion stands
pub record Naming : Type 0 where
  pub variables : List (List ℕ)
  pub events : List (List ℕ)
  pub observers : List (List ℕ)
  pub symbols : List (List ℕ)
  pub places : List Place

-- `  PATH = VALUE`
abbrev pub variable_line : Naming → ℕ → Value → List ℕ
variable_line names n v =
    line (codes "  " ++ (text_at names.variables n ++ (codes " = " ++ value_text names.symbols v)))

-- `  observer PATH = VALUE`
abbrev pub observer_line : Naming → ℕ → Value → List ℕ
observer_line names n v =
    line (codes "  observer " ++ (text_at names.observers n ++ (codes " = " ++ value_text names.symbols v)))

-- the lines of these values, numbered from n on
abbrev pub lines_from : (ℕ → Value → List ℕ) → ℕ → List Value → List ℕ
lines_from one n [] = []
lines_from one n (v ∷ vs) = one n v ++ lines_from one (n + 1) vs

-- the lines of those new values that differ from the old ones, numbered from n on
pub data Changed (one : ℕ → Value → List ℕ) : ℕ → List Value → List Value → List ℕ → Type 0 where
  none : {n : ℕ} → Changed one n [] [] []
  same : {n : ℕ} {v : Value} {vs ws : List Value} {text : List ℕ} → Changed one (n + 1) vs ws text
      → Changed one n (v ∷ vs) (v ∷ ws) text
  differs : {n : ℕ} {v w : Value} {vs ws : List Value} {text : List ℕ} → (v ≡ w → ⊥) → Changed one (n + 1) vs ws text
      → Changed one n (v ∷ vs) (w ∷ ws) (one n w ++ text)

-- the observers' values under a total valuation
abbrev pub Observed : {V : Type 0} → System V → List Value → List Value → Type 0
Observed {V = V} sys t seen = Along (λ e v. Yields (HasValue sys.net t) (out-Expr V e) v) sys.observers seen

-- the lines of all variables, and then of all observers
abbrev pub all_lines : Naming → List Value → List Value → List ℕ
all_lines names values seen = lines_from (variable_line names) 0 values ++ lines_from (observer_line names) 0 seen

-- the lines of the variables that changed, and then of the observers that did
pub record ChangedLines {V : Type 0} (names : Naming) (sys : System V) (old new : List Value)
    (text : List ℕ) : Type 0 where
  pub seen : List Value
  pub seen_then : List Value
  pub is_seen : Observed sys old seen
  pub is_seen_then : Observed sys new seen_then
  pub variables : List ℕ
  pub observers : List ℕ
  pub variables_changed : Changed (variable_line names) 0 old new variables
  pub observers_changed : Changed (observer_line names) 0 seen seen_then observers
  pub joined : text ≡ variables ++ observers

-- the path alone where the event has one way, else with the way's number, counted from 1
abbrev pub way_text : List ℕ → ℕ → ℕ → List ℕ
way_text path count way = if count == 1 then path else path ++ (codes "#" ++ decimal (way + 1))

abbrev pub ways_of : {V : Type 0} → Option (Event V) → ℕ
ways_of None = 0
ways_of (Some e) = length e.ways

-- the canonical label
abbrev pub label_text : {V : Type 0} → Naming → System V → Label → List ℕ
label_text names sys l = way_text (text_at names.events l.event) (ways_of (slice_get sys.events l.event)) l.way

-- the canonical labels, each on a line
abbrev pub label_lines : {V : Type 0} → Naming → System V → List Label → List ℕ
label_lines names sys [] = []
label_lines names sys (l ∷ ls) = line (codes "  " ++ label_text names sys l) ++ label_lines names sys ls

-- `LINE:COLUMN`
abbrev pub optional_place_text : Option Place → List ℕ
optional_place_text None = []
optional_place_text (Some p) = decimal p.line ++ (codes ":" ++ decimal p.column)

-- a fault of the flows; an assignment by its number, counted from 1, and its place
abbrev pub flow_fault_text : Naming → FlowFault → List ℕ
flow_fault_text names (Two n) = codes "flow " ++ (text_at names.variables n ++ codes " has two values")
flow_fault_text names (Outside n) = codes "flow " ++ (text_at names.variables n ++ codes " is outside its domain")
flow_fault_text names (Broken i) = codes
    "assignment " ++ (decimal (i + 1) ++ (codes
    " at " ++ (optional_place_text (slice_get names.places i) ++ codes " does not hold")))

-- a fault of a step
abbrev pub step_fault_text : Naming → StepFault → List ℕ
step_fault_text names NotEnabled = codes "not enabled"
step_fault_text names (Clash n) = codes "two values for " ++ text_at names.variables n
step_fault_text names (Range n) = text_at names.variables n ++ codes " outside its domain"
step_fault_text names (Flow f) = flow_fault_text names f

-- the lines of one moment
pub data MomentText {V : Type 0} (names : Naming) (sys : System V) : Moment → List ℕ → Type 0 where
  starts : {t seen : List Value} → Observed sys t seen
      → MomentText names sys (Starts t) (line (codes "start") ++ all_lines names t seen)
  start_fails : {f : FlowFault}
      → MomentText names sys (Start_fails f) (line (codes "fault: start: " ++ flow_fault_text names f))
  fires : {l : Label} {old new : List Value} {text : List ℕ} → ChangedLines names sys old new text
      → MomentText names sys (Fires l old new) (line (codes "fire " ++ label_text names sys l) ++ text)
  fire_fails : {l : Label} {f : StepFault}
      → MomentText names sys (Fire_fails l f)
      (line (codes "fault: " ++ (label_text names sys l ++ (codes ": " ++ step_fault_text names f))))
  goes_back : {old new : List Value} {text : List ℕ} → ChangedLines names sys old new text
      → MomentText names sys (Goes_back old new) (line (codes "back") ++ text)
  no_step : MomentText names sys No_step (line (codes "fault: back: no step"))
  shows : {t seen : List Value} → Observed sys t seen
      → MomentText names sys (Shows t) (line (codes "show") ++ all_lines names t seen)
  lists : {ls : List Label} → MomentText names sys (Lists ls) (line (codes "enabled") ++ label_lines names sys ls)
  ends : {n : ℕ} → MomentText names sys (Ends n) (line (codes "end " ++ decimal n))

-- the texts of the moments, one after the other
pub data TraceText {V : Type 0} (names : Naming) (sys : System V) : List Moment → List ℕ → Type 0 where
  none : TraceText names sys [] []
  one_and : {m : Moment} {ms : List Moment} {text texts : List ℕ} → MomentText names sys m text
      → TraceText names sys ms texts → TraceText names sys (m ∷ ms) (text ++ texts)
