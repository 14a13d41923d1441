-- The cut lines of a list by the numbers of a flat system's ways.
use Rattle.std.specs.Prelude.{◌<◌, ℕ, List, map, length, Result, Ok, Err, Vec}
use Rattle.std.specs.Global.{Global}
use Rattle.ar_base.specs.Lists.{IsOneOf}
use Rattle.ar_base.specs.Numbers.{WayId}
use Rattle.ar_meaning.specs.Runs.{Label}
use Rattle.gts_core.specs.declared.bound.Chain.{Chain}
use Rattle.gts_core.specs.declared.system.GtsParts.{GtsParts}
use Rattle.gts_flatten.specs.Elaborating.{Elaborated}
use Rattle.job_inputs.specs.CutLists.{CutLine, CutList}
use Rattle.text_pieces.specs.WayLabels.{numbered_label}
use Rattle.job_inputs.specs.Scripts.{IsNoCommand, LacksWay, NamesNoEvent}
use Rattle.job_inputs.specs.declared.faults.ScriptFault.{ScriptFault}
use Rattle.job_inputs.specs.declared.faults.ScriptFault.TheVariants as fault

-- the labels of these ways
abbrev pub chain_labels : GtsParts → List WayId → List Label
chain_labels p ways = map (λ (w : WayId). numbered_label p w.n) ways

-- a chain of ways as a cut line
abbrev pub cut_of : GtsParts → Chain → CutLine
cut_of p c = record { number = c.line; labels = chain_labels p c.ways.items }

-- the ways of these chains are those of the system
pub record HaveKnownWays (p : GtsParts) (chains : List Chain) : Type 0 where
  pub each : (c : Chain) → IsOneOf chains c → (w : WayId) → IsOneOf c.ways.items w → w.n < length p.ways.items

-- the fault is the first bad line, or want of memory
abbrev pub IsBadList : Elaborated → List ℕ → ScriptFault → Type 0
IsBadList x text (fault.Line n) = CutList text x (Err (record { number = n; why = IsNoCommand }))
IsBadList x text (fault.Which n) = CutList text x (Err (record { number = n; why = LacksWay }))
IsBadList x text (fault.Unknown n) = CutList text x (Err (record { number = n; why = NamesNoEvent }))
IsBadList x text fault.Memory = Unit {0}

-- what the reading of a list answers: its cut lines by the ways of their labels, which are those of the system, or its
-- first bad line
abbrev pub AnswersCuts : Elaborated → GtsParts → List ℕ → Result (Vec Chain Global) ScriptFault → Type 0
AnswersCuts x p text (Ok chains) = CutList text x (Ok (map (cut_of p) chains.items)) × HaveKnownWays p chains.items
AnswersCuts x p text (Err fault) = IsBadList x text fault
