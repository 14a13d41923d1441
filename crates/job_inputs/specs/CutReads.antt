-- What the code's lines of a list say, and how far a list is read.
use Rattle.std.specs.Prelude.{◌≡◌, ◌+◌, ◌<◌, ℕ, List, [], ◌∷◌, ◌++◌, length, Option, Some, None, Result, Ok, Err, Vec}
use Rattle.std.specs.Global.{Global}
use denote.Bor.{Bor}
use Rattle.ar_base.specs.Lists.{Stands, IsOneOf, Along}
use Rattle.ar_base.specs.Numbers.{WayId}
use Rattle.ar_meaning.specs.Runs.{Label}
use Rattle.gts_core.specs.declared.system.GtsParts.{GtsParts}
use Rattle.gts_flatten.specs.Elaborating.{Elaborated}
use Rattle.job_inputs.specs.CutLines.{IsPassed, IsCutLine, texts_in, is_comma}
use Rattle.job_inputs.specs.Chains.{chain_labels}
use Rattle.job_inputs.specs.CutLists.{CutLine, ListsCutLines, IsBadLabel, IsFirstBadLabel, IsBadCut}
use Rattle.job_inputs.specs.Labels.{IsLabel}
use Rattle.job_inputs.specs.Lines.{pieces}
use Rattle.job_inputs.specs.Scripts.{Why, IsNoCommand, LacksWay, NamesNoEvent}
use Rattle.job_inputs.specs.declared.faults.ScriptFault.{ScriptFault}
use Rattle.job_inputs.specs.declared.faults.ScriptFault.TheVariants as fault
use Rattle.job_inputs.specs.declared.cut_lines.ListLine.{ListLine}
use Rattle.job_inputs.specs.declared.cut_lines.ListLine.TheVariants.{Passed, Labels, NoCut}

-- the code's line says this
abbrev pub IsListLine : ListLine → List ℕ → Type 0
IsListLine Passed line = IsPassed line
IsListLine (Labels inner) line = (IsPassed line → ⊥) × IsCutLine line (texts_in inner.now)
IsListLine NoCut line = (IsPassed line → ⊥) × ((texts : List (List ℕ)) → IsCutLine line texts → ⊥)

-- the pieces between commas that are left to read
abbrev pub commas_left : Option (Bor (List ℕ)) → List (List ℕ)
commas_left None = []
commas_left (Some rest) = pieces is_comma rest.now

-- these ways are those of the system
pub record AreKnownWays (p : GtsParts) (ways : List WayId) : Type 0 where
  pub each : (w : WayId) → IsOneOf ways w → w.n < length p.ways.items

-- the ways that the labels of a line name, none of which is bad, or the fault of its first bad label
abbrev pub AnswersLabels : Elaborated → GtsParts → List (List ℕ) → ℕ → Result (Vec WayId Global) ScriptFault → Type 0
AnswersLabels x p texts number (Ok ways) =
    Along (IsLabel x) texts (chain_labels p ways.items) × AreKnownWays p ways.items
    × ((n : ℕ) (text : List ℕ) (why : Why) → Stands texts n text → IsBadLabel x why text → ⊥)
AnswersLabels x p texts number (Err (fault.Which n)) = (n ≡ number) × IsFirstBadLabel x texts LacksWay
AnswersLabels x p texts number (Err (fault.Unknown n)) = (n ≡ number) × IsFirstBadLabel x texts NamesNoEvent
AnswersLabels x p texts number (Err (fault.Line n)) = ⊥
AnswersLabels x p texts number (Err fault.Memory) = Unit {0}

-- the texts before those that are left are labels of these ways, and none of them is bad
pub record AreLabelsSoFar (x : Elaborated) (all left : List (List ℕ)) (labels : List Label) : Type 0 where
  pub done : List (List ℕ)
  pub split : all ≡ done ++ left
  pub along : Along (IsLabel x) done labels
  pub good : (n : ℕ) (text : List ℕ) (why : Why) → Stands done n text → IsBadLabel x why text → ⊥

-- the cuts with those that a line of this number adds, which is not bad
pub record AddsCuts (x : Elaborated) (line : List ℕ) (number : ℕ) (old new : List CutLine) : Type 0 where
  pub added : List CutLine
  pub is : new ≡ old ++ added
  pub gives : (lines : List (List ℕ)) (more : List CutLine) → ListsCutLines x (number + 1) lines more
      → ListsCutLines x number (line ∷ lines) (added ++ more)
  pub good : (why : Why) → IsBadCut x why line → ⊥

-- the line of this number is bad, as the fault says
abbrev pub IsBadCutLine : Elaborated → List ℕ → ℕ → ScriptFault → Type 0
IsBadCutLine x line number (fault.Line n) = (n ≡ number) × IsBadCut x IsNoCommand line
IsBadCutLine x line number (fault.Unknown n) = (n ≡ number) × IsBadCut x NamesNoEvent line
IsBadCutLine x line number (fault.Which n) = (n ≡ number) × IsBadCut x LacksWay line
IsBadCutLine x line number fault.Memory = Unit {0}

-- the lines before those that are left have given these cuts, and none of them is bad; this is the next line's number
pub record HasRead (x : Elaborated) (all left : List (List ℕ)) (cuts : List CutLine) (number : ℕ) : Type 0 where
  pub done : List (List ℕ)
  pub split : all ≡ done ++ left
  pub counts : length done + 1 ≡ number
  pub given : (lines : List (List ℕ)) (more : List CutLine) → ListsCutLines x number lines more
      → ListsCutLines x 1 (done ++ lines) (cuts ++ more)
  pub good : (k : ℕ) (line : List ℕ) (why : Why) → Stands done k line → IsBadCut x why line → ⊥
