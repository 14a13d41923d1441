-- What the calls that write the text of a job answer.
use Rattle.std.specs.Prelude.{◌≡◌, ℕ, List, Result, Ok, Err}
use Rattle.ar_io.specs.Outside.{Rose}
use Rattle.ar_io.specs.Writing.{SinkState, Appended, WroteFront}
use Rattle.ar_io.specs.declared.outside.SinkFailed.{SinkFailed}
use Rattle.cut_text.specs.declared.faults.PrintFault.{PrintFault}
use Rattle.cut_text.specs.declared.faults.PrintFault.TheVariants as print
use Rattle.replayer.specs.declared.ends.End.{End}
use Rattle.replayer.specs.declared.ends.ReplayFault.{ReplayFault}
use Rattle.replayer.specs.declared.ends.ReplayFault.TheVariants as fault
use Rattle.run_words.specs.declared.jobs.Asked.{Asked}
use Rattle.run_words.specs.declared.verbs.Verb.TheVariants.{Replay}
use Rattle.job_stages.specs.Tells.{status_at}
use Rattle.job_stages.specs.declared.status.Status.{Status}
use Rattle.job_stages.specs.declared.status.Status.TheVariants.{Write, Memory}

-- the status of a text that was written, or was not
abbrev pub status_written : Status → Result (Unit {0}) SinkFailed → Status
status_written whole (Ok x) = whole
status_written whole (Err e) = Write

-- the status of a replay
abbrev pub status_replayed : Result End ReplayFault → Status
status_replayed (Ok end) = status_at end
status_replayed (Err fault.Write) = Write
status_replayed (Err fault.Memory) = Memory

-- the status of a text that was broken off, or was not
abbrev pub status_printed : Result Status PrintFault → Status
status_printed (Ok ends) = ends
status_printed (Err print.Write) = Write
status_printed (Err print.Memory) = Memory

-- the status of an explanation that was broken off, or was not
abbrev pub status_explained : Result Status ReplayFault → Status
status_explained (Ok ends) = ends
status_explained (Err fault.Write) = Write
status_explained (Err fault.Memory) = Memory

-- one of these texts was written whole, with its status, and the sink met no fault; or first bytes of one, where the
-- sink's count rose; or nothing, where memory was refused
pub data IsWritten (told : List ℕ → Status → Type 0) (old new : SinkState) : Status → Type 0 where
  whole : {text : List ℕ} {ends : Status} → told text ends → Appended old.bytes new.bytes text
      → new.faults ≡ old.faults
      → IsWritten told old new ends
  cut : {text : List ℕ} {ends : Status} → told text ends → WroteFront old.bytes new.bytes text
      → Rose old.faults new.faults → IsWritten told old new Write
  nothing : new ≡ old → IsWritten told old new Memory

-- such a text of a job; a replay writes as it goes, so where memory is refused to it some first bytes may stand, though
-- the sink met no fault
pub data IsWrittenFor (asked : Asked) (told : List ℕ → Status → Type 0) (old new : SinkState) : Status → Type 0 where
  written : {ends : Status} → IsWritten told old new ends → IsWrittenFor asked told old new ends
  stopped : {text : List ℕ} {ends : Status} → asked.job.command ≡ Replay → told text ends
      → WroteFront old.bytes new.bytes text → new.faults ≡ old.faults
      → IsWrittenFor asked told old new Memory
