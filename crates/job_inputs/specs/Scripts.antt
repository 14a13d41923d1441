-- The commands that the lines of a script give, and the first line that is bad.
use Rattle.std.specs.Prelude.{◌≡◌, ◌<◌, ◌+◌, ℕ, List, [], ◌∷◌, Result, Ok, Err}
use Rattle.ar_base.specs.Lists.{Stands}
use Rattle.ar_meaning.specs.Runs.{Label, Command, Fire, Back, Show, Enabled}
use Rattle.gts_flatten.specs.Elaborating.{Elaborated}
use Rattle.job_inputs.specs.Labels.{IsLabel, NeedsWay}
use Rattle.job_inputs.specs.Lines.{lines_of, line_said, Skipped, Fires, GoesBack, Shows, ListsEnabled, NoCommand}

-- the commands that the lines give, where none of them is bad
pub data GivesCommands (x : Elaborated) : List (List ℕ) → List Command → Type 0 where
  none : GivesCommands x [] []
  skips : {line : List ℕ} {lines : List (List ℕ)} {cs : List Command} → line_said line ≡ Skipped → GivesCommands x lines
      cs → GivesCommands x (line ∷ lines) cs
  fires : {line label : List ℕ} {l : Label} {lines : List (List ℕ)} {cs : List Command} → line_said line ≡ Fires label
      → IsLabel x label l → GivesCommands x lines cs
      → GivesCommands x (line ∷ lines) (Fire l ∷ cs)
  goes_back : {line : List ℕ} {lines : List (List ℕ)} {cs : List Command} → line_said line ≡ GoesBack → GivesCommands x
      lines cs → GivesCommands x (line ∷ lines) (Back ∷ cs)
  shows : {line : List ℕ} {lines : List (List ℕ)} {cs : List Command} → line_said line ≡ Shows → GivesCommands x lines
      cs → GivesCommands x (line ∷ lines) (Show ∷ cs)
  lists : {line : List ℕ} {lines : List (List ℕ)} {cs : List Command} → line_said line ≡ ListsEnabled → GivesCommands x
      lines cs → GivesCommands x (line ∷ lines) (Enabled ∷ cs)

-- why a line is bad
pub data Why : Type 0 where
  IsNoCommand : Why
  LacksWay : Why
  NamesNoEvent : Why

-- the line is bad for this reason
pub data IsBad (x : Elaborated) : Why → List ℕ → Type 0 where
  no_command : {line : List ℕ} → line_said line ≡ NoCommand → IsBad x IsNoCommand line
  needs_way : {line label : List ℕ} → line_said line ≡ Fires label → NeedsWay x label → IsBad x LacksWay line
  no_event : {line label : List ℕ} → line_said line ≡ Fires label → (NeedsWay x label → ⊥)
      → ((l : Label) → IsLabel x label l → ⊥) → IsBad x NamesNoEvent line

-- the line at place n is bad, and none before it is
pub record IsFirstBad (x : Elaborated) (lines : List (List ℕ)) (n : ℕ) (why : Why) : Type 0 where
  pub line : List ℕ
  pub stands : Stands lines n line
  pub bad : IsBad x why line
  pub before : (k : ℕ) (other : List ℕ) (w : Why) → k < n → Stands lines k other → IsBad x w other → ⊥

-- a bad line by its number, counted from 1, and why it is bad
pub record BadLine : Type 0 where
  pub number : ℕ
  pub why : Why

-- the commands that a script gives, or its first bad line
pub data Commands (script : List ℕ) (x : Elaborated) : Result (List Command) BadLine → Type 0 where
  gives : {cs : List Command} → GivesCommands x (lines_of script) cs → Commands script x (Ok cs)
  bad : {n : ℕ} {why : Why} → IsFirstBad x (lines_of script) n why
      → Commands script x (Err (record { number = n + 1; why = why }))
