-- The text of why flows have their values.
use Rattle.std.specs.Prelude.{◌+◌, ℕ, true, List, [], ◌∷◌, ◌++◌, map, codes, decimal, Option, Some, None, slice_get}
use Rattle.ar_base.specs.Texts.{line, separated, text_at}
use Rattle.domains.specs.declared.Value.{Value}
use Rattle.typed_expr.specs.declared.expr.Expr.{Expr}
use Rattle.ar_meaning.specs.Systems.{Net}
use Rattle.ar_meaning.specs.TraceText.{Naming, optional_place_text}
use Rattle.ar_meaning.specs.ValueTexts.{value_text}
use Rattle.flow_reasons.specs.Reasons.{Reason, AreReasons, InCone}

-- the path of a variable
abbrev pub path_of : Naming → ℕ → List ℕ
path_of names n = text_at names.variables n

-- the paths of these variables
abbrev pub paths_of : Naming → List ℕ → List (List ℕ)
paths_of names ns = map (path_of names) ns

-- ` from a, b`, or nothing where there are none
abbrev pub from_text : Naming → List ℕ → List ℕ
from_text names [] = []
from_text names (n ∷ ns) = codes " from " ++ separated true (codes ", ") (paths_of names (n ∷ ns))

-- ` round R assignment K at L:C from a, b`, where assignments are counted from 1
abbrev pub added_text : Naming → ℕ → ℕ → List ℕ → List ℕ
added_text names a round ns =
    codes " round " ++ (decimal round ++ (codes
    " assignment " ++ (decimal (a + 1)
    ++ (codes " at " ++ (optional_place_text (slice_get names.places a) ++ from_text names ns)))))

-- ` by reset`, or the round, the assignment and what the value rests on
abbrev pub why_text : Naming → Option ℕ → ℕ → List ℕ → List ℕ
why_text names None round ns = codes " by reset"
why_text names (Some a) round ns = added_text names a round ns

-- `PATH = VALUE` and why
abbrev pub reason_line : Naming → Reason → List ℕ
reason_line names r =
    line (text_at names.variables r.flow
    ++ (codes " = " ++ (value_text names.symbols r.value ++ why_text names r.by r.round r.rests_on)))

-- the lines of those of these reasons whose flows are told
pub data ReasonLines (names : Naming) (told : ℕ → Type 0) : List Reason → List ℕ → Type 0 where
  none : ReasonLines names told [] []
  tells : {r : Reason} {rs : List Reason} {text : List ℕ} → told r.flow → ReasonLines names told rs text
      → ReasonLines names told (r ∷ rs) (reason_line names r ++ text)
  leaves : {r : Reason} {rs : List Reason} {text : List ℕ} → (told r.flow → ⊥) → ReasonLines names told rs text
      → ReasonLines names told (r ∷ rs) text

-- without an observer each flow is told, and with one those of its cone
abbrev pub IsTold : {V : Type 0} → Net V → List Reason → Option (Expr V) → ℕ → Type 0
IsTold net reasons None n = Unit {0}
IsTold net reasons (Some e) n = InCone net reasons e n

-- the text of why flows have their values under a valuation: the lines of the reasons of its flows, by number, or, with
-- an observer, of the flows of its cone
pub record IsReasonText {V : Type 0} (names : Naming) (net : Net V) (values : List Value) (observer : Option (Expr V))
    (text : List ℕ) : Type 0 where
  pub reasons : List Reason
  pub are_reasons : AreReasons net values reasons
  pub lines : ReasonLines names (IsTold net reasons observer) reasons text
