-- What a check of a list of cuts, and an explanation, say of the model once they end well.
use Rattle.std.specs.Prelude.{◌≡◌, ◌<◌, ◌↔◌, ℕ, ◌++◌, Bool, List, [], Option, Some, Ok, reverse}
use Rattle.ar_base.specs.Lists.{Stands, IsOneOf}
use Rattle.ar_firing.specs.Cuts.{AreEvents, Reaches}
use Rattle.ar_meaning.specs.Facts.{PassesConditions as Reached, FactOf, HasValue}
use Rattle.ar_meaning.specs.Flows.{Flows, Total}
use Rattle.ar_meaning.specs.Runs.{Label}
use Rattle.ar_meaning.specs.Systems.{Assign}
use Rattle.check_text.specs.Texts.{AreSaid, within_order, lines_in, said_lines, missing_lines, last_line}
use Rattle.check_text.specs.TextsInside.{EndsYes}
use Rattle.cut_check.specs.Verdicts.{Said, IsListed, IsMissing}
use Rattle.cut_check.specs.VerdictsInside.{AreTheCuts}
use Rattle.firable_families.specs.Firable.{AndUpTo}
use Rattle.domains.specs.declared.Value.{Value}
use Rattle.flow_reasons.specs.Reasons.{Reason, AreReasons}
use Rattle.flow_reasons.specs.RoundsInside.{OfThese}
use Rattle.gts_flatten.specs.Flat.{naming_of}
use Rattle.hierarchy.specs.Units.{Thing}
use Rattle.reason_text.specs.Texts.{ReasonLines, IsTold}
use Rattle.replayer.specs.Settles.{Settles}
use Rattle.run_words.specs.declared.jobs.Asked.{Asked}
use Rattle.typed_expr.specs.Yields.{Yields}
use Rattle.typed_expr.specs.declared.expr.Expr.{Expr, out-Expr}
use Rattle.altarica_run.specs.Follows.{Call, Wrote}
use Rattle.altarica_run.specs.Listings.{IsCutOrder}
use Rattle.job_stages.specs.Stages.{Ready, Passes}
use Rattle.job_stages.specs.Tells.{HasCuts, IsObserverOf}

-- Checks of lists

-- the lines of the list that stands ready, of those that are not above the order
abbrev pub given_lines : Ready → List (List Label)
given_lines w = lines_in (within_order w.order w.lines)

-- the sets of the given lines are the cuts of the observer's value that are asked for, each once, and each line is an order of its
-- events that ends with this value
abbrev pub GivesTheCuts : (w : Ready) → HasCuts w → Type 0
GivesTheCuts w has = AreTheCuts w.order w.source.system w.dropped has.observed has.wanted.value (given_lines w)

-- a cut that is asked for and that no given line lists
abbrev pub IsMissingIn : (w : Ready) → HasCuts w → List ℕ → Type 0
IsMissingIn w has = AndUpTo w.order
    (IsMissing w.source.system w.dropped has.observed has.wanted.value (given_lines w))

-- an order of such a cut: fired as it stands in the whole model it meets no fault and ends with the wanted value
pub record IsMissingOrder (w : Ready) (has : HasCuts w) (ls : List Label) : Type 0 where
  pub order : IsCutOrder w has ls
  pub unlisted : IsListed (given_lines w) order.set → ⊥

-- the labels, fired as they stand in the whole model, dropped events included, meet no fault, and the observer then has
-- the wanted value
pub record ReplaysWhole (w : Ready) (has : HasCuts w) (ls : List Label) : Type 0 where
  pub values : List Value
  pub reaches : Reaches w.source.system [] (reverse ls) values
  pub shows : Yields (HasValue w.source.system.net values) (out-Expr Thing has.observed) has.wanted.value

-- what was written are the verdicts of the given lines, and of each other line that it is above the order, then a line `missing` for each cut that they lack, and last `yes`
-- or `no`. It is `yes` exactly where the given lines are the cuts, and each of them then replays in the whole model. Each
-- order of a line `missing` is of a cut that is missing, each such cut has one, and no cut has two
pub record IsCheckOf (c : Call) (asked : Asked) : Type 0 where
  pub ready : Ready
  pub passes : Passes c.files asked (Ok ready)
  pub has : HasCuts ready
  pub text : List ℕ
  pub wrote : Wrote c text
  pub yes : EndsYes ready.order text ↔ GivesTheCuts ready has
  pub replay : EndsYes ready.order text → (k : ℕ) (ls : List Label) → Stands (given_lines ready) k ls → ReplaysWhole ready has ls
  pub verdicts : List Said
  pub are_said : AreSaid ready.source.system ready.dropped has.observed has.wanted.value (given_lines ready) verdicts
  pub missing : List (List Label)
  pub right : Bool
  pub is_text : text ≡ said_lines ready.order (within_order ready.order ready.lines) ready.lines verdicts
      ++ (missing_lines (naming_of ready.source.declarations) ready.source.system missing
      ++ last_line ready.order right)
  pub sound : (k : ℕ) (ls : List Label) → Stands missing k ls → IsMissingOrder ready has ls
  pub whole : (set : List ℕ) → IsMissingIn ready has set
      → (k : ℕ) × (ls : List Label) × Stands missing k ls × AreEvents (reverse ls) set
  pub once : (j k : ℕ) (ls ms : List Label) (set : List ℕ) → Stands missing j ls → Stands missing k ms
      → AreEvents (reverse ls) set → AreEvents (reverse ms) set → j ≡ k

-- Explanations

-- from the facts of the variables that a reason rests on, and from no others, the assignment that it names is reached and
-- yields the value of its flow
abbrev pub Suffices : Ready → List Value → Reason → Type 0
Suffices w values r = (n : ℕ) (a : Assign Thing) → r.by ≡ Some n → Stands w.source.system.net.assertions n a
    → Reached (OfThese w.source.system.net r.rests_on (FactOf w.source.system.net values)) a.conditions
    × Yields (OfThese w.source.system.net r.rests_on (FactOf w.source.system.net values)) (out-Expr Thing a.value)
    r.value

-- what was written are the lines of the reasons of the flows, or of those in the observer's cone, under the valuation
-- where the run of the script ends, which is total. Each reason suffices, and the flows that it rests on have smaller
-- rounds
pub record IsExplanation (c : Call) (asked : Asked) : Type 0 where
  pub ready : Ready
  pub passes : Passes c.files asked (Ok ready)
  pub values : List Value
  pub settles : Settles ready.source.system ready.commands values
  pub flows : Flows ready.source.system.net values (Total values)
  pub observer : Option (Expr Thing)
  pub is_observer : IsObserverOf ready.source.system ready.shown observer
  pub reasons : List Reason
  pub are_reasons : AreReasons ready.source.system.net values reasons
  pub text : List ℕ
  pub lines : ReasonLines (naming_of ready.source.declarations) (IsTold ready.source.system.net reasons observer)
      reasons text
  pub wrote : Wrote c text
  pub suffices : (r : Reason) → IsOneOf reasons r → Suffices ready values r
  pub descends : (r s : Reason) → IsOneOf reasons r → IsOneOf reasons s → IsOneOf r.rests_on s.flow
      → s.round < r.round
