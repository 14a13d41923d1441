-- Where a run stands at its end, and the line of a fault that it ends in.
use Rattle.std.specs.Prelude.{◌≡◌, ℕ, List, [], ◌∷◌, ◌++◌}
use Rattle.domains.specs.declared.Value.{Value}
use Rattle.ar_meaning.specs.Systems.{System}
use Rattle.ar_meaning.specs.Runs.{Command, Moment, Starts, Start_fails, Fires, Fire_fails, Goes_back, No_step, Shows, Lists, Ends, Runs}
use Rattle.ar_meaning.specs.TraceText.{Naming, MomentText}
use Rattle.replayer.specs.Replays.{end_of}
use Rattle.replayer.specs.declared.ends.End.TheVariants.{Done, Fault}

-- the valuation that stands after these moments, where t stood before them
abbrev pub last_standing : List Value → List Moment → List Value
last_standing t [] = t
last_standing t (Starts u ∷ ms) = last_standing u ms
last_standing t (Start_fails f ∷ ms) = last_standing t ms
last_standing t (Fires l old new ∷ ms) = last_standing new ms
last_standing t (Fire_fails l f ∷ ms) = last_standing t ms
last_standing t (Goes_back old new ∷ ms) = last_standing new ms
last_standing t (No_step ∷ ms) = last_standing t ms
last_standing t (Shows u ∷ ms) = last_standing t ms
last_standing t (Lists ls ∷ ms) = last_standing t ms
last_standing t (Ends n ∷ ms) = last_standing t ms

-- the run of the commands does not end in a fault, and t is its last standing valuation
pub record Settles {V : Type 0} (sys : System V) (cs : List Command) (t : List Value) : Type 0 where
  pub first : List Value
  pub moments : List Moment
  pub runs : Runs sys cs (Starts first ∷ moments)
  pub no_fault : end_of moments ≡ Done
  pub last : last_standing first moments ≡ t

-- the run of the commands ends in a fault, and this is the text of that last moment
pub record IsFaultLine {V : Type 0} (names : Naming) (sys : System V) (cs : List Command) (text : List ℕ) : Type 0 where
  pub before : List Moment
  pub fault : Moment
  pub runs : Runs sys cs (before ++ fault ∷ [])
  pub is_fault : end_of (fault ∷ []) ≡ Fault
  pub told : MomentText names sys fault text
