-- Runs over commands, and their moments.
use Rattle.std.specs.Prelude.{◌≡◌, ◌+◌, ℕ, true, false, List, [], ◌∷◌, ◌++◌, length}
use Rattle.ar_base.specs.Lists.{Stands}
use Rattle.domains.specs.declared.Value.{Value}
use Rattle.ar_meaning.specs.Systems.{Variable, Net, System, Event, Way}
use Rattle.ar_meaning.specs.Facts.{HasValue}
use Rattle.ar_meaning.specs.Flows.{Flows, FlowFault, Fails, Total}
use Rattle.ar_meaning.specs.Ways.{Can}
use Rattle.ar_meaning.specs.Steps.{StepFault, Refused, Next, Step}

-- a label: the event's number, and its way's among the ways of the event, counted from 0
pub record Label : Type 0 where
  pub event : ℕ
  pub way : ℕ

-- the way that a label names
pub record IsWay {V : Type 0} (sys : System V) (l : Label) (w : Way V) : Type 0 where
  pub event : Event V
  pub is_event : Stands sys.events l.event event
  pub is_way : Stands event.ways l.way w

-- the commands of a script
pub data Command : Type 0 where
  Fire : Label → Command
  Back : Command
  Show : Command
  Enabled : Command

-- what a run has to tell, moment by moment: how it starts or fails to; a fired way, from the old valuation to the new;
-- a way that meets a fault;
-- a step taken back, from the old valuation to the one before it, or none to take back; what is shown; what can fire;
-- and at the end how many steps stand
pub data Moment : Type 0 where
  Starts : (values : List Value) → Moment
  Start_fails : FlowFault → Moment
  Fires : Label → (old new : List Value) → Moment
  Fire_fails : Label → StepFault → Moment
  Goes_back : (old new : List Value) → Moment
  No_step : Moment
  Shows : (values : List Value) → Moment
  Lists : List Label → Moment
  Ends : (steps : ℕ) → Moment

-- the labels of those of these ways of event e, numbered from k on, that can fire
pub data Ways_listed {V : Type 0} (facts : V → Value → Type 0) (e : ℕ) : ℕ → List (Way V) → List Label → Type 0 where
  none : {k : ℕ} → Ways_listed facts e k [] []
  can : {k : ℕ} {w : Way V} {ws : List (Way V)} {ls : List Label} → Can facts w → Ways_listed facts e (k + 1) ws ls
      → Ways_listed facts e k (w ∷ ws) (record { event = e; way = k } ∷ ls)
  cannot : {k : ℕ} {w : Way V} {ws : List (Way V)} {ls : List Label} → (Can facts w → ⊥)
      → Ways_listed facts e (k + 1) ws ls → Ways_listed facts e k (w ∷ ws) ls

-- the labels of the ways that can fire, of the visible ones of these events, numbered from e on
pub data Listed {V : Type 0} (facts : V → Value → Type 0) : ℕ → List (Event V) → List Label → Type 0 where
  none : {e : ℕ} → Listed facts e [] []
  visible : {e : ℕ} {v : Event V} {vs : List (Event V)} {ls ms : List Label} → v.hidden ≡ false
      → Ways_listed facts e 0 v.ways ls → Listed facts (e + 1) vs ms
      → Listed facts e (v ∷ vs) (ls ++ ms)
  hidden : {e : ℕ} {v : Event V} {vs : List (Event V)} {ms : List Label} → v.hidden ≡ true → Listed facts (e + 1) vs ms
      → Listed facts e (v ∷ vs) ms

-- what follows where t is the last standing valuation and these stand below it, the nearest first
pub data Goes {V : Type 0} (sys : System V) : List (List Value) → List Value → List Command → List Moment → Type 0 where
  ends : {below : List (List Value)} {t : List Value} → Goes sys below t [] (Ends (length below) ∷ [])
  fires : {below : List (List Value)} {t u : List Value} {l : Label} {cs : List Command} {ms : List Moment} (w : Way V)
      → IsWay sys l w → Step sys.net t w (Next u)
      → Goes sys (t ∷ below) u cs ms → Goes sys below t (Fire l ∷ cs) (Fires l t u ∷ ms)
  fails : {below : List (List Value)} {t : List Value} {l : Label} {f : StepFault} {cs : List Command} (w : Way V)
      → IsWay sys l w → Step sys.net t w (Refused f)
      → Goes sys below t (Fire l ∷ cs) (Fire_fails l f ∷ [])
  back : {below : List (List Value)} {t u : List Value} {cs : List Command} {ms : List Moment} → Goes sys below u cs ms
      → Goes sys (u ∷ below) t (Back ∷ cs) (Goes_back t u ∷ ms)
  no_step : {t : List Value} {cs : List Command} → Goes sys [] t (Back ∷ cs) (No_step ∷ [])
  shows : {below : List (List Value)} {t : List Value} {cs : List Command} {ms : List Moment} → Goes sys below t cs ms
      → Goes sys below t (Show ∷ cs) (Shows t ∷ ms)
  lists : {below : List (List Value)} {t : List Value} {ls : List Label} {cs : List Command} {ms : List Moment}
      → Listed (HasValue sys.net t) 0 sys.events ls → Goes sys below t cs ms
      → Goes sys below t (Enabled ∷ cs) (Lists ls ∷ ms)

-- the values of init and reset, in the order of the variables
abbrev pub first_values : {V : Type 0} → List (Variable V) → List Value
first_values [] = []
first_values (x ∷ xs) = x.value ∷ first_values xs

-- a run starts with the flows of the init values
abbrev pub Start : {V : Type 0} → Net V → (values : List Value) → Type 0
Start net t = Flows net (first_values net.variables) (Total t)

-- a run fails to start where these flows are a fault
abbrev pub StartFails : {V : Type 0} → Net V → FlowFault → Type 0
StartFails net f = Flows net (first_values net.variables) (Fails f)

-- the moments of a run: it ends at the last command, at the first fault, or where it is to go back and no step stands
pub data Runs {V : Type 0} (sys : System V) : List Command → List Moment → Type 0 where
  starts : {t : List Value} {cs : List Command} {ms : List Moment} → Start sys.net t → Goes sys [] t cs ms
      → Runs sys cs (Starts t ∷ ms)
  start_fails : {f : FlowFault} {cs : List Command} → StartFails sys.net f → Runs sys cs (Start_fails f ∷ [])
