-- The text of a replay, and how it ends.
use Rattle.std.specs.Prelude.{◌≡◌, ℕ, List, [], ◌∷◌}
use Rattle.ar_meaning.specs.Systems.{System}
use Rattle.ar_meaning.specs.Runs.{Command, Moment, Starts, Start_fails, Fires, Fire_fails, Goes_back, No_step, Shows, Lists, Ends, Runs}
use Rattle.ar_meaning.specs.TraceText.{Naming, TraceText}
use Rattle.replayer.specs.declared.ends.End.{End}
use Rattle.replayer.specs.declared.ends.End.TheVariants.{Done, Fault}

-- a run that meets a fault ends in it
abbrev pub end_of : List Moment → End
end_of [] = Done
end_of (Starts t ∷ ms) = end_of ms
end_of (Start_fails f ∷ ms) = Fault
end_of (Fires l old new ∷ ms) = end_of ms
end_of (Fire_fails l f ∷ ms) = Fault
end_of (Goes_back old new ∷ ms) = end_of ms
end_of (No_step ∷ ms) = Fault
end_of (Shows t ∷ ms) = end_of ms
end_of (Lists ls ∷ ms) = end_of ms
end_of (Ends n ∷ ms) = end_of ms

-- the text of the whole run of the commands, and how it ends
pub record IsReplay {V : Type 0} (names : Naming) (sys : System V) (cs : List Command) (text : List ℕ)
    (end : End) : Type 0 where
  pub moments : List Moment
  pub runs : Runs sys cs moments
  pub trace : TraceText names sys moments text
  pub ends : end ≡ end_of moments
