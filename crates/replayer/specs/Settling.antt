-- How far a run is, and what one command adds to it.
use Rattle.std.specs.Prelude.{◌≡◌, ℕ, List, [], ◌∷◌, ◌++◌, Result, Ok, Err}
use Rattle.ar_io.specs.Writing.{SinkState}
use Rattle.ar_io.specs.Handing.{Writes}
use Rattle.domains.specs.declared.Value.{Value}
use Rattle.ar_meaning.specs.Systems.{System}
use Rattle.ar_meaning.specs.Runs.{Command, Moment, Starts, Goes, Runs}
use Rattle.ar_meaning.specs.TraceText.{Naming, MomentText}
use Rattle.stepper.specs.Steps.{Standing}
use Rattle.replayer.specs.Replays.{end_of}
use Rattle.replayer.specs.Settles.{last_standing}
use Rattle.replayer.specs.declared.ends.End.{End}
use Rattle.replayer.specs.declared.ends.End.TheVariants.{Done, Fault}
use Rattle.replayer.specs.declared.ends.ReplayFault.{ReplayFault}
use Rattle.replayer.specs.declared.ends.ReplayFault.TheVariants.{Write, Memory}

-- the command adds a moment that is no fault to what follows from the standing after it
pub record GoesOn (sys : System ℕ) (before after : Standing) (c : Command) : Type 0 where
  pub moment : Moment
  pub goes : (cs : List Command) (ms : List Moment) → Goes sys after.below after.values cs ms
      → Goes sys before.below before.values (c ∷ cs) (moment ∷ ms)
  pub quiet : (ms : List Moment) → end_of (moment ∷ ms) ≡ end_of ms
  pub last : (ms : List Moment) → last_standing before.values (moment ∷ ms) ≡ last_standing after.values ms

-- the command meets a fault, of which this is the text
pub record StopsCommand (names : Naming) (sys : System ℕ) (before : Standing) (c : Command) (text : List ℕ) : Type 0 where
  pub fault : Moment
  pub goes : (cs : List Command) → Goes sys before.below before.values (c ∷ cs) (fault ∷ [])
  pub is_fault : end_of (fault ∷ []) ≡ Fault
  pub told : MomentText names sys fault text

-- what one command answers: the run goes on, and nothing was written; or it meets a fault, whose text was written, or
-- its first bytes where the sink failed; or memory was refused, and nothing was written
abbrev pub AnswersCommand : Naming → System ℕ → Standing → Standing → Command → SinkState → SinkState
    → Result End ReplayFault → Type 0
AnswersCommand names sys before after c old new (Ok Done) = GoesOn sys before after c × (new ≡ old)
AnswersCommand names sys before after c old new (Ok Fault) =
    (text : List ℕ) × StopsCommand names sys before c text × Writes old new text (Ok tt)
AnswersCommand names sys before after c old new (Err Write) =
    (text : List ℕ) × StopsCommand names sys before c text × Writes old new text (Err (record {}))
AnswersCommand names sys before after c old new (Err Memory) = new ≡ old

-- the run of all these commands has come to this standing, without a fault, and these are left
pub record IsRunning (sys : System ℕ) (all : List Command) (at : Standing) (left : List Command) : Type 0 where
  pub first : List Value
  pub done : List Moment
  pub rest : (ms : List Moment) → Goes sys at.below at.values left ms → Runs sys all (Starts first ∷ (done ++ ms))
  pub quiet : (ms : List Moment) → end_of (done ++ ms) ≡ end_of ms
  pub last : (ms : List Moment) → last_standing first (done ++ ms) ≡ last_standing at.values ms
