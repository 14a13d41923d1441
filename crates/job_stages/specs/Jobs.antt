-- The jobs of words, and which commands make their model.
use Rattle.std.specs.Prelude.{◌≡◌, Bool, true, ℕ, List}
use Rattle.run_words.specs.Commands.{shape_of, is_made}
use Rattle.run_words.specs.Jobs.{IsAsked}
use Rattle.run_words.specs.declared.jobs.Asked.{Asked}
use Rattle.run_words.specs.declared.verbs.Verb.{Verb}

-- the words give no job
abbrev pub IsNoJob : List (List ℕ) → Type 0
IsNoJob words = (asked : Asked) → IsAsked words asked → ⊥

-- the command makes its model; those of the others are files
abbrev pub makes_model : Verb → Bool
makes_model command = is_made (shape_of command).files

-- the words ask for no file: they are no job, or the command makes its model
abbrev pub LoadsNothing : List (List ℕ) → Type 0
LoadsNothing words = (asked : Asked) → IsAsked words asked → makes_model asked.job.command ≡ true
