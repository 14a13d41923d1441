use Rattle.std.proofs.Common.{Err, sym, ◌∙◌, ap, subst}
use Rattle.run_words.specs.Commands.{shape_of}
use Rattle.run_words.specs.Jobs.{IsOrder}
use Rattle.run_words.specs.Told.{told}
use Rattle.run_words.specs.declared.jobs.Job.{Job}
use Rattle.run_words.specs.declared.shapes.Shape.{Shape}
use Rattle.run_words.proofs.OneJob.{of_one_line}
use Rattle.run_words.proofs.reading.asked_of.Goals as goal

pub returns-in_err-order-clause-usage : goal.returns-in_err-order-clause-usage
returns-in_err-order-clause-usage c = λ e asked is.
    let line = told c.args.line.now in
    let job = of_one_line line asked.job c.in_ok-job.job is.job c.in_ok-job.ensures.found in
    c.in_err-order.ensures.none (ap Err c.in_err-order.ensures.usage) asked.order
    (subst (λ (s : Shape). IsOrder s line.order asked.order)
    (ap (λ (j : Job). shape_of j.command) job ∙ sym c.shape.ensures) is.order)
