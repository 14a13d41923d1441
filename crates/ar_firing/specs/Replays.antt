-- What the run of a script that fires labels alone tells.
use Rattle.std.specs.Prelude.{ℕ, List, [], ◌∷◌}
use Rattle.ar_base.specs.Lists.{Stands}
use Rattle.domains.specs.declared.Value.{Value}
use Rattle.ar_meaning.specs.Systems.{Way, System}
use Rattle.ar_meaning.specs.Flows.{FlowFault}
use Rattle.ar_meaning.specs.Steps.{Flow}
use Rattle.ar_meaning.specs.Runs.{Label, Moment, Starts, Start_fails, Fires, Fire_fails, Ends}
use Rattle.ar_firing.specs.Fragment.{IsOpen}

-- each label is that of a way of a visible event that is not dropped
pub record AreOpen {V : Type 0} (sys : System V) (dropped : List ℕ) (ls : List Label) : Type 0 where
  pub each : (k : ℕ) (l : Label) → Stands ls k l → (w : Way V) × IsOpen sys dropped l w

-- these moments fire the labels in this order, from the first valuation to the last, and then the script ends with so
-- many steps
pub data AllFire (steps : ℕ) : List Label → List Value → List Moment → List Value → Type 0 where
  none : {t : List Value} → AllFire steps [] t (Ends steps ∷ []) t
  fire : {l : Label} {ls : List Label} {t u v : List Value} {ms : List Moment} → AllFire steps ls u ms v
      → AllFire steps (l ∷ ls) t (Fires l t u ∷ ms) v

-- these moments fire the labels in this order up to the last one, and this meets the flow fault
pub data LastFails (f : FlowFault) : List Label → List Value → List Moment → Type 0 where
  last : {l : Label} {t : List Value} → LastFails f (l ∷ []) t (Fire_fails l (Flow f) ∷ [])
  fire : {l : Label} {ls : List Label} {t u : List Value} {ms : List Moment} → LastFails f ls u ms
      → LastFails f (l ∷ ls) t (Fires l t u ∷ ms)

-- what the run of the script that fires these labels tells where it meets the flow fault at its last label, or, without
-- a label, at its start
pub data FailsLast (f : FlowFault) : List Label → List Moment → Type 0 where
  at_start : FailsLast f [] (Start_fails f ∷ [])
  at_last : {ls : List Label} {t : List Value} {ms : List Moment} → LastFails f ls t ms → FailsLast f ls (Starts t ∷ ms)
