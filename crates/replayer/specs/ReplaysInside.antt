-- Definitions beside those of Replays, of which clauses inside the program speak: what the whole program promises does
-- not rest on them.
use Rattle.std.specs.Prelude.{◌≡◌, ℕ, List, Result, Ok, Err}
use Rattle.ar_io.specs.Outside.{Rose}
use Rattle.ar_io.specs.Writing.{SinkState, Appended, WroteFront}
use Rattle.ar_meaning.specs.Systems.{System}
use Rattle.ar_meaning.specs.Runs.{Command}
use Rattle.ar_meaning.specs.TraceText.{Naming}
use Rattle.replayer.specs.declared.ends.End.{End}
use Rattle.replayer.specs.declared.ends.ReplayFault.{ReplayFault}
use Rattle.replayer.specs.declared.ends.ReplayFault.TheVariants.{Write, Memory}
use Rattle.replayer.specs.Replays.{IsReplay}

-- what a replay answers: the whole text was written, or its first bytes, where the sink's count of faults rose or
-- memory was refused; the count is as it was but where it rose
pub data AnswersReplay {V : Type 0} (names : Naming) (sys : System V) (cs : List Command) (old new : SinkState) : Result
    End ReplayFault → Type 0 where
  whole : {text : List ℕ} {end : End} → IsReplay names sys cs text end → Appended old.bytes new.bytes text
      → new.faults ≡ old.faults
      → AnswersReplay names sys cs old new (Ok end)
  write : {text : List ℕ} {end : End} → IsReplay names sys cs text end → WroteFront old.bytes new.bytes text
      → Rose old.faults new.faults
      → AnswersReplay names sys cs old new (Err Write)
  memory : {text : List ℕ} {end : End} → IsReplay names sys cs text end → WroteFront old.bytes new.bytes text
      → new.faults ≡ old.faults
      → AnswersReplay names sys cs old new (Err Memory)
