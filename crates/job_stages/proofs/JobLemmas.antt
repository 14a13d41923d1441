-- Words that give a job, and words that give none.
use Rattle.std.proofs.Common.{◌≡◌, ◌≤◌, ℕ, true, false, List, None, Result, Err, refl, sym, ◌∙◌, ap, subst}
use Rattle.run_words.specs.Commands.{shape_of, is_made}
use Rattle.run_words.specs.Jobs.{IsAsked, IsJobOf, NamesFiles}
use Rattle.run_words.specs.Lines.{CommandWords}
use Rattle.run_words.specs.declared.jobs.Asked.{Asked}
use Rattle.run_words.specs.declared.jobs.JobFault.{JobFault}
use Rattle.run_words.specs.declared.jobs.JobFault.TheVariants as words
use Rattle.run_words.specs.declared.shapes.Form.{Form}
use Rattle.run_words.specs.declared.shapes.Form.TheVariants as form
use Rattle.job_stages.specs.Jobs.{makes_model}
use Rattle.job_stages.specs.JobsInside.{AnswersJob}
use Rattle.job_stages.specs.Passing.{stop_of_words}
use Rattle.job_stages.specs.declared.stops.Stop.{Stop}

-- no words give a job
pub job_stops : (ws : List (List ℕ)) (r : Result Asked Stop) (d : Stop) (e : JobFault) → r ≡ Err d → d ≡ stop_of_words e
    → ((let z : Result Asked JobFault = Err e in z ≡ Err words.Usage) → (asked : Asked) → IsAsked ws asked → ⊥) → AnswersJob ws r
job_stops ws r d e i j h = subst (AnswersJob ws) (sym (i ∙ ap Err j)) (go e h)
  where
    go : (e : JobFault)
        → ((let z : Result Asked JobFault = Err e in z ≡ Err words.Usage) → (asked : Asked) → IsAsked ws asked → ⊥)
        → AnswersJob ws (Err (stop_of_words e))
    go words.Usage h = (refl, λ asked b. h refl asked b)
    go words.Memory h = tt

-- a command that makes its model has a number behind it
number_behind : (f : Form) → is_made f ≡ true → f ≡ form.Number
number_behind form.Model e = let k : false ≡ true = e in absurd cc
number_behind form.ModelAndScript e = let k : false ≡ true = e in absurd cc
number_behind form.ModelAndList e = let k : false ≡ true = e in absurd cc
number_behind form.Number e = refl

-- the words of such a command have a number from 1 to 200 and no script
pub record IsMade (asked : Asked) : Type 0 where
  pub at_least : 1 ≤ asked.job.number
  pub at_most : asked.job.number ≤ 200
  pub script : asked.job.script ≡ None

made_line : (line : CommandWords) (asked : Asked) → IsJobOf line asked.job → makes_model asked.job.command ≡ true → IsMade asked
made_line line asked of e =
    let f = subst (λ (z : Form). NamesFiles z line.files asked.job.model asked.job.script asked.job.number)
    (number_behind (shape_of asked.job.command).files e) of.files in
    record { at_least = f.0.2.at_least; at_most = f.0.2.at_most; script = f.2 }

pub made_job : (ws : List (List ℕ)) (asked : Asked) → IsAsked ws asked → makes_model asked.job.command ≡ true → IsMade asked
made_job ws asked b e = made_line _ asked b.asked_of.job e
