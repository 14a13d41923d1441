use Rattle.std.proofs.Common.{ap}
use Rattle.std.proofs.lemmas.Result.{err_from_is_err_and}
use Rattle.run_words.specs.Commands.{shape_of}
use Rattle.run_words.specs.declared.shapes.Shape.{Shape}
use Rattle.job_stages.specs.Stages.{bare}
use Rattle.job_stages.specs.Telling.{written}
use Rattle.altarica_run.proofs.CommandLemmas.{elaborate_stops, done, plain_ready}
use Rattle.job_stages.proofs.TellLemmas.{checked}
use Rattle.altarica_run.proofs.commands.check.Goals as goal

pub elaborate-requires : goal.elaborate-requires
elaborate-requires g c = c.requires.given.model

pub returns-in_err-model : goal.returns-in_err-model
returns-in_err-model g c =
    let r = err_from_is_err_and c.from_residual.result c.from_residual.ensures.1 in
    elaborate_stops c.args.asked.now c.args.texts _ _ _ _ r.1 r.2 c.in_err-model.ensures

pub returns : goal.returns
returns g c =
    let asked = c.args.asked.now in
    let t = c.args.texts in
    let e = c.requires.command in
    let row = ap shape_of e in
    let none = c.requires.given.dropped (ap (λ (s : Shape). s.dropped) row) in
    let f = c.in_ok-model.ensures in
    let w = bare asked.order f.0 in
    done asked t f.0 f.1 w _ (plain_ready asked t f.0 f.1 row none)
    (written (checked asked w c.in_ok-model.model.system f.2.flat e _ _ c.written.ensures c.write_counts.ensures))
