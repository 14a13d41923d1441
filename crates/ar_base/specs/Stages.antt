-- Stages, one after the other: each gives something or refuses, and the first that refuses decides.
use Rattle.std.specs.Prelude.{◌≡◌, ℕ, ◌<◌, ◌≤◌, Bool, true, false, List, Result, Ok, Err}
use Rattle.ar_base.specs.Breach.{IsBroken, AreKept}
use Rattle.ar_base.specs.Counts.{limit_of}
use Rattle.ar_base.specs.declared.counts.Count.{Count}
use Rattle.ar_base.specs.declared.faults.RuleFault.{RuleFault}
use Rattle.ar_base.specs.declared.faults.RuleFault.TheVariants.{Rule, Limit}
use Rattle.ar_base.specs.declared.places.Place.{Place}

-- two stages: the first refuses, or it passes something on and the second answers
pub data Then {A B C R : Type 0} (first : A → Result B R → Type 0) (second : B → Result C R → Type 0) (a : A) : Result C
    R → Type 0 where
  refuses : {r : R} → first a (Err r) → Then first second a (Err r)
  passes : {answer : Result C R} (b : B) → first a (Ok b) → second b answer → Then first second a answer

-- a stage that is passed only where the test holds: elsewhere what is given goes on as it is
abbrev pub Where : {A R : Type 0} → Bool → (A → Result A R → Type 0) → A → Result A R → Type 0
Where true stage a answer = stage a answer
Where false stage a answer = answer ≡ Ok a

-- a test of rules: what is given passes where none is broken, else the least that is broken is told, with its earliest
-- place
pub data Keeps {A : Type 0} (rules : List ℕ) (breaks : A → ℕ → Place → Type 0) (a : A) : Result A RuleFault
    → Type 0 where
  kept : AreKept rules (breaks a) → Keeps rules breaks a (Ok a)
  broken : {r : ℕ} {p : Place} → IsBroken rules (breaks a) r p → Keeps rules breaks a (Err (Rule r p))

-- a test of a limit: what is given passes where the count is within it
pub data Fits {A : Type 0} (count : Count) (counted : A → ℕ) (a : A) : Result A RuleFault → Type 0 where
  fits : counted a ≤ limit_of count → Fits count counted a (Ok a)
  passes_it : limit_of count < counted a → Fits count counted a (Err (Limit count))
