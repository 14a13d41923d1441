-- Definitions beside those of Jobs, of which clauses inside the program speak: what the whole program promises does not
-- rest on them.
use Rattle.std.specs.Prelude.{◌≡◌, ℕ, List, Result, Ok, Err}
use Rattle.run_words.specs.Jobs.{IsAsked}
use Rattle.run_words.specs.declared.jobs.Asked.{Asked}
use Rattle.job_stages.specs.declared.refusals.Refusal.TheVariants.{Usage}
use Rattle.job_stages.specs.declared.stops.Stop.{Stop}
use Rattle.job_stages.specs.declared.stops.Stop.TheVariants.{Refused, Memory}
use Rattle.job_stages.specs.Jobs.{IsNoJob}

-- what the reading of words answers: the job, or that there is none, or want of memory
abbrev pub AnswersJob : List (List ℕ) → Result Asked Stop → Type 0
AnswersJob words (Ok asked) = IsAsked words asked
AnswersJob words (Err (Refused r)) = (r ≡ Usage) × IsNoJob words
AnswersJob words (Err Memory) = Unit {0}
