use Rattle.std.proofs.Common.{[], ◌∙◌}
use Rattle.std.proofs.lemmas.Result.{err_from_is_err_and}
use Rattle.job_stages.specs.Passing.{no_list}
use Rattle.job_stages.proofs.PassLemmas.{list_refused_same, list_given_same, list_stops, list_given}
use Rattle.job_stages.proofs.ForestLemmas.{none_dropped}
use Rattle.job_stages.proofs.requesting.dropped_of.Goals as goal

pub returns-in_err-events-in-Some : goal.returns-in_err-events-in-Some
returns-in_err-events-in-Some c = λ x of.
    let r = err_from_is_err_and c.from_residual.result c.from_residual.ensures.1 in
    let p = c.args.model.now.system in
    let h = list_refused_same x p _ _ c.in_err-events-in-Some.field-0.0
    (c.as_bytes-bytes.ensures.value ∙ c.as_str.ensures) (c.in_err-events-in-Some.ensures x of) in
    rw c.in-Some.is (list_stops x p _ _ _ c.in_err-events-in-Some.field-0.0 r.1 r.2 h)

pub returns-in_ok-events-in-Some : goal.returns-in_ok-events-in-Some
returns-in_ok-events-in-Some c = λ x of.
    let p = c.args.model.now.system in
    let h = list_given_same x p _ _ c.in_ok-events-in-Some.events (c.as_bytes-bytes.ensures.value ∙ c.as_str.ensures)
    (c.in_ok-events-in-Some.ensures x of) in
    rw c.in-Some.is (list_given x p _ c.in_ok-events-in-Some.events h)

pub returns-in-None : goal.returns-in-None
returns-in-None c = λ x of. ([], no_list c.in-None.is, none_dropped c.args.model.now.system _ c.new.ensures.items)
