-- Definitions beside those of Settles, of which clauses inside the program speak: what the whole program promises does
-- not rest on them.
use Rattle.std.specs.Prelude.{◌≡◌, ℕ, List, Option, Some, None, Result, Ok, Err}
use Rattle.ar_io.specs.Writing.{SinkState}
use Rattle.ar_io.specs.Handing.{Writes}
use Rattle.ar_meaning.specs.Systems.{System}
use Rattle.ar_meaning.specs.Runs.{Command}
use Rattle.ar_meaning.specs.TraceText.{Naming}
use Rattle.gts_core.specs.declared.system.Valuation.{Valuation}
use Rattle.replayer.specs.declared.ends.ReplayFault.{ReplayFault}
use Rattle.replayer.specs.declared.ends.ReplayFault.TheVariants.{Write, Memory}
use Rattle.replayer.specs.Settles.{Settles, IsFaultLine}

-- what settling answers: the last standing valuation, and nothing was written; or the run ends in a fault, whose line
-- alone was written, or its first bytes where the sink failed; or memory was refused, and nothing was written
abbrev pub AnswersSettle : {V : Type 0} → Naming → System V → List Command → SinkState → SinkState
    → Result (Option Valuation) ReplayFault → Type 0
AnswersSettle names sys cs old new (Ok (Some t)) = Settles sys cs t.values.items × (new ≡ old)
AnswersSettle names sys cs old new (Ok None) =
    (text : List ℕ) × IsFaultLine names sys cs text × Writes old new text (Ok tt)
AnswersSettle names sys cs old new (Err Write) =
    (text : List ℕ) × IsFaultLine names sys cs text × Writes old new text (Err (record {}))
AnswersSettle names sys cs old new (Err Memory) = new ≡ old
