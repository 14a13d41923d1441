-- Definitions beside those of Jobs, of which clauses inside the program speak: what the whole program promises does not
-- rest on them.
use Rattle.std.specs.Prelude.{◌≡◌, List, [], None}
use Rattle.clap.specs.Words.{Text, fault_of}
use Rattle.run_words.specs.Lines.{program}
use Rattle.run_words.specs.declared.jobs.Job.{Job}
use Rattle.run_words.specs.Jobs.{IsJobOf, given_words, found_words}

-- the words give the job: `clap` takes them, what it finds gives it, and `--max-order` is not used
pub record IsJob (words : List Text) (job : Job) : Type 0 where
  pub taken : fault_of program (given_words words) ≡ []
  pub job_of : IsJobOf (found_words words) job
  pub without_order : (found_words words).order ≡ None
