-- How far a replay is: what follows from standing valuations, and what one command answers.
use Rattle.std.specs.Prelude.{◌≡◌, ℕ, List, ◌∷◌, ◌++◌, codes, Result, Ok, Err}
use Rattle.ar_base.specs.Lists.{IsOneOf}
use Rattle.ar_base.specs.Texts.{line}
use Rattle.ar_io.specs.declared.outside.SinkFailed.{SinkFailed}
use Rattle.ar_io.specs.Outside.{Rose}
use Rattle.ar_io.specs.Writing.{SinkState, WroteFront}
use Rattle.ar_io.specs.Handing.{Writes}
use Rattle.domains.specs.declared.Value.{Value}
use Rattle.ar_meaning.specs.Systems.{System}
use Rattle.ar_meaning.specs.Runs.{Command, Moment, Goes}
use Rattle.ar_meaning.specs.RunsInside.{FiresWays}
use Rattle.ar_meaning.specs.TraceText.{Naming, TraceText}
use Rattle.gts_core.specs.Readings.{IsTotal}
use Rattle.gts_core.specs.declared.system.GtsParts.{GtsParts}
use Rattle.stepper.specs.Steps.{Standing}
use Rattle.stepper.specs.declared.faults.StepFault.{StepFault}
use Rattle.stepper.specs.declared.faults.StepFault.TheVariants as fault
use Rattle.text_pieces.specs.WayLabels.{way_label}
use Rattle.text_pieces.specs.Faults.{step_text}
use Rattle.replayer.specs.Replays.{end_of, IsReplay}
use Rattle.replayer.specs.declared.ends.End.{End}
use Rattle.replayer.specs.declared.ends.End.TheVariants.{Done, Fault}
use Rattle.replayer.specs.declared.ends.ReplayFault.{ReplayFault}
use Rattle.replayer.specs.declared.ends.ReplayFault.TheVariants.{Write, Memory}

-- each of these valuations has a value of its domain for each variable
pub record AreTotal (p : GtsParts) (below : List (List Value)) : Type 0 where
  pub each : (t : List Value) → IsOneOf below t → IsTotal p t

-- the text of what follows where t is the last standing valuation and these stand below it, and how it ends
pub record Follows (names : Naming) (sys : System ℕ) (below : List (List Value)) (t : List Value) (cs : List Command)
    (text : List ℕ) (end : End) : Type 0 where
  pub moments : List Moment
  pub goes : Goes sys below t cs moments
  pub trace : TraceText names sys moments text
  pub ends : end ≡ end_of moments

-- a command writes the first bytes of what follows, whatever comes behind it
pub record IsCutShort (names : Naming) (sys : System ℕ) (below : List (List Value)) (t : List Value) (c : Command)
    (old new : SinkState) (cs : List Command) : Type 0 where
  pub text : List ℕ
  pub end : End
  pub follows : Follows names sys below t (c ∷ cs) text end
  pub front : WroteFront old.bytes new.bytes text

-- what one command answers: its text was written and the run goes on from the new standing, or ends in a fault; or the
-- first bytes of what follows were written, where the sink's count of faults rose or memory was refused; the count is
-- as it was but where it rose
pub data AnswersOneCommand (names : Naming) (sys : System ℕ) (before after : Standing) (c : Command)
    (old new : SinkState) : Result End ReplayFault → Type 0 where
  goes_on : {text : List ℕ} → Writes old new text (Ok tt)
      → ((cs : List Command) (more : List ℕ) (end : End) → Follows names sys after.below after.values cs more end
      → Follows names sys before.below before.values (c ∷ cs) (text ++ more) end)
      → AnswersOneCommand names sys before after c old new (Ok Done)
  stops : {text : List ℕ} → Writes old new text (Ok tt)
      → ((cs : List Command) → Follows names sys before.below before.values (c ∷ cs) text Fault)
      → AnswersOneCommand names sys before after c old new (Ok Fault)
  write : ((cs : List Command) → FiresWays sys (c ∷ cs) → IsCutShort names sys before.below before.values c old new cs)
      → Rose old.faults new.faults → AnswersOneCommand names sys before after c old new (Err Write)
  memory : ((cs : List Command) → FiresWays sys (c ∷ cs) → IsCutShort names sys before.below before.values c old new cs)
      → new.faults ≡ old.faults → AnswersOneCommand names sys before after c old new (Err Memory)

-- so much of the replay of all commands is written, and what follows for those that are left is its rest
pub record IsPlayed (names : Naming) (sys : System ℕ) (all : List Command) (at : Standing) (left : List Command)
    (old new : SinkState) : Type 0 where
  pub text : List ℕ
  pub writes : Writes old new text (Ok tt)
  pub fires : FiresWays sys left
  pub rest : (more : List ℕ) (end : End) → Follows names sys at.below at.values left more end
      → IsReplay names sys all (text ++ more) end

-- the line of a way that meets this fault
abbrev pub refusal_text : GtsParts → ℕ → StepFault → List ℕ
refusal_text p n f = line (codes "fault: " ++ (way_label p n ++ (codes ": " ++ step_text p f)))

-- the fault is want of memory, and nothing is written; or it is another one, whose line is written, or first bytes of it
pub data IsReplayRefusal (p : GtsParts) (n : ℕ) (f : StepFault) (old new : SinkState) : Result End ReplayFault → Type 0 where
  memory : f ≡ fault.Memory → old ≡ new → IsReplayRefusal p n f old new (Err Memory)
  told : (f ≡ fault.Memory → ⊥) → Writes old new (refusal_text p n f) (Ok tt) → IsReplayRefusal p n f old new (Ok Fault)
  cut : {e : SinkFailed} → (f ≡ fault.Memory → ⊥) → Writes old new (refusal_text p n f) (Err e)
      → IsReplayRefusal p n f old new (Err Write)
