use Rattle.std.proofs.Common.{◌∙◌, rules, Ok, Err, sym, ap, subst, Result}
use Rattle.std.proofs.lemmas.Result.{err_from_is_err_and}
use Rattle.ar_io.specs.Gathering.{gathered_state}
use Rattle.altarica_run.specs.Doing.{AnswersFor}
use Rattle.job_stages.specs.declared.status.Status.{Status}
use Rattle.job_stages.specs.declared.stops.Stop.{Stop}
use Rattle.altarica_run.proofs.CommandLemmas.{memory_stops}
use Rattle.altarica_run.proofs.GatherLemmas.{IsHandedOn, gathered_done, gathered_stops, of_sink}
use Rattle.altarica_run.proofs.program.run_gathered.Goals as goal

pub returns-in_err-room : goal.returns-in_err-room
returns-in_err-room g c =
    let r = err_from_is_err_and c.from_residual.result c.from_residual.ensures.1 in
    memory_stops c.args.asked.now c.args.texts _ _ _ r.1 r.2

pub returns-in_err-status : goal.returns-in_err-status
returns-in_err-status g c =
    let r = err_from_is_err_and c.from_residual-in_err-status.result c.from_residual-in_err-status.ensures.1 in
    let asked = c.args.asked.now in
    let t = c.args.texts in
    let start = g.S.Beginning.start in
    let sink = c.finish-handed.new.self.to.now in
    let from = c.new-gathered.result in
    let put = c.run-answer.new.out in
    let on : IsHandedOn start (g.K.Sink.state sink) put.told.text put.failed c.finish-handed.result = record {
      writes = c.finish-handed.ensures.writes;
      fails = c.finish-handed.ensures.failed;
      empty = c.finish-handed.ensures.nothing;
    } in
    let h = gathered_stops asked t from.failed put.failed c.new-gathered.ensures.text
    c.new-gathered.ensures.failed _ on c.in_err-status.field-0.0
    (subst (λ (z : Result Status Stop). AnswersFor asked t (gathered_state from.to.ghost_name from.told.text from.failed)
    (gathered_state put.to.ghost_name put.told.text put.failed) z) c.in_err-status.was c.run-answer.ensures) in
    of_sink g.K.Sink.state (λ old new. AnswersFor asked t old new c.from_residual-in_err-status.result) {y = sink}
    (sym (c.finish-handed.ensures.same_reference ∙ h.0)) (search rules) c.requires.begins
    (subst (λ (z : Result Status Stop). AnswersFor asked t start (g.K.Sink.state sink) z) (sym (r.1 ∙ ap Err r.2)) h.1)

pub returns : goal.returns
returns g c =
    let asked = c.args.asked.now in
    let t = c.args.texts in
    let start = g.S.Beginning.start in
    let sink = c.finish-handed.new.self.to.now in
    let from = c.new-gathered.result in
    let put = c.run-answer.new.out in
    let on : IsHandedOn start (g.K.Sink.state sink) put.told.text put.failed c.finish-handed.result = record {
      writes = c.finish-handed.ensures.writes;
      fails = c.finish-handed.ensures.failed;
      empty = c.finish-handed.ensures.nothing;
    } in
    let h = gathered_done asked t from.failed put.failed c.new-gathered.ensures.text
    c.new-gathered.ensures.failed _ on c.in_ok-status.status
    (subst (λ (z : Result Status Stop). AnswersFor asked t (gathered_state from.to.ghost_name from.told.text from.failed)
    (gathered_state put.to.ghost_name put.told.text put.failed) z) c.in_ok-status.was c.run-answer.ensures) in
    of_sink g.K.Sink.state (λ old new. AnswersFor asked t old new (Ok c.written.result)) {y = sink}
    (sym (c.finish-handed.ensures.same_reference ∙ h.0)) (search rules) c.requires.begins
    (subst (λ (z : Status). AnswersFor asked t start (g.K.Sink.state sink) (Ok z)) (sym c.written.ensures) h.1)
