-- What printing answers.
use Rattle.std.specs.Prelude.{◌≡◌, ◌<◌, ℕ, Bool, false, List, [], ◌∷◌, ◌++◌, length, Option, Some, None, Result, Ok, Err, slice_get, unwrap_or, if◌then◌else◌}
use Rattle.ar_base.specs.Lists.{IsOneOf}
use Rattle.ar_base.specs.NumbersInside.{AssignId}
use Rattle.ar_io.specs.Writing.{SinkState}
use Rattle.ar_io.specs.Handing.{Writes}
use Rattle.typed_expr.specs.declared.expr.Expr.{Expr}
use Rattle.ar_meaning.specs.Image.{Expr_renames}
use Rattle.ar_meaning.specs.FlatOf.{IsNumber}
use Rattle.ar_meaning.specs.TraceText.{Naming}
use Rattle.flow_reasons.specs.Reasons as rounds
use Rattle.ar_meaning.specs.Found.{IsAnswer}
use Rattle.gts_core.specs.View.{net_of, numbered}
use Rattle.gts_core.specs.declared.system.Observer.{Observer}
use Rattle.gts_core.specs.declared.system.GtsParts.{GtsParts}
use Rattle.replayer.specs.declared.ends.ReplayFault.{ReplayFault}
use Rattle.replayer.specs.declared.ends.ReplayFault.TheVariants.{Write, Memory}
use Rattle.flow_reasons.specs.declared.reason.Reason.{Reason}
use Rattle.reason_text.specs.Texts.{reason_line, IsTold}

-- such a text is written; or the sink failed, and some first bytes of one are written; or memory was refused, and
-- nothing is written
abbrev pub Explains : SinkState → SinkState → (List ℕ → Type 0) → Result (Unit {0}) ReplayFault → Type 0
Explains old new IsText (Ok u) = (text : List ℕ) × IsText text × Writes old new text (Ok u)
Explains old new IsText (Err Write) = (text : List ℕ) × IsText text × Writes old new text (Err (record {}))
Explains old new IsText (Err Memory) = new ≡ old

-- there is no observer, or its number is one of the system's
abbrev pub IsObserverIn : GtsParts → Option ℕ → Type 0
IsObserverIn p None = Unit {0}
IsObserverIn p (Some n) = n < length p.observers.items

-- the expression of an observer that was looked up
abbrev pub value_found : Option Observer → Option (Expr ℕ)
value_found None = None
value_found (Some o) = Some (numbered o.value)

-- the expression of the observer, where there is one
abbrev pub observed : GtsParts → Option ℕ → Option (Expr ℕ)
observed p None = None
observed p (Some n) = value_found (slice_get p.observers.items n)

-- no observer, or one by paths and by numbers
abbrev pub AreSameObserver : {V : Type 0} → List V → Option (Expr V) → Option (Expr ℕ) → Type 0
AreSameObserver things None None = Unit {0}
AreSameObserver things None (Some f) = ⊥
AreSameObserver things (Some e) None = ⊥
AreSameObserver things (Some e) (Some f) = Expr_renames (IsNumber things) e f

-- whether the variable of this number is told
abbrev pub told_at : List Bool → ℕ → Bool
told_at told n = unwrap_or (slice_get told n) false

-- the line of a reason, where its flow is told
abbrev pub told_line : Naming → List Bool → rounds.Reason → List ℕ
told_line names told r = if told_at told r.flow then reason_line names r else []

-- the same of these reasons
abbrev pub told_lines : Naming → List Bool → List rounds.Reason → List ℕ
told_lines names told [] = []
told_lines names told (r ∷ rs) = told_line names told r ++ told_lines names told rs

-- for each variable whether it is told
pub record AreToldVariables (p : GtsParts) (reasons : List rounds.Reason) (observer : Option (Expr ℕ)) (told : List Bool) : Type
    0 where
  pub each : (n : ℕ) → n < length p.variables.items → IsAnswer (told_at told n) (IsTold (net_of p) reasons observer n)

-- so many marks, of which those of these numbers are set
pub record HasMarksAt (count : ℕ) (numbers : List ℕ) (marks : List Bool) : Type 0 where
  pub each : (n : ℕ) → n < count → IsAnswer (told_at marks n) (IsOneOf numbers n)

-- the assignment that added the value is one of the system's
abbrev pub HasAssign : GtsParts → Reason → Type 0
HasAssign p r = (a : AssignId) → r.by ≡ Some a → a.n < length p.assigns.items

-- the same of each of these reasons
pub record HaveAssigns (p : GtsParts) (reasons : List Reason) : Type 0 where
  pub each : (r : Reason) → IsOneOf reasons r → HasAssign p r
