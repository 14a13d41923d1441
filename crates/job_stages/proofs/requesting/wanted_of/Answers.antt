use Rattle.std.proofs.Common.{Ok, Err}
use Rattle.std.proofs.lemmas.Result.{err_from_is_err_and}
use Rattle.job_stages.proofs.PassLemmas.{wanted_same, wanted_stops, wanted_given}
use Rattle.job_stages.proofs.requesting.wanted_of.Goals as goal

pub returns-in_err-wanted : goal.returns-in_err-wanted
returns-in_err-wanted c = λ x of.
    let r = err_from_is_err_and c.from_residual.result c.from_residual.ensures.1 in
    let p = c.args.model.now.system in
    let h = wanted_same x p _ _ c.args.value.now (Err c.in_err-wanted.field-0.0) c.as_bytes-bytes.ensures.value
    (c.in_err-wanted.ensures x of) in
    wanted_stops x p _ c.args.value.now _ _ c.in_err-wanted.field-0.0 r.1 r.2 h

pub returns : goal.returns
returns c = λ x of.
    let p = c.args.model.now.system in
    let h = wanted_same x p _ _ c.args.value.now (Ok c.in_ok-wanted.wanted) c.as_bytes-bytes.ensures.value
    (c.in_ok-wanted.ensures x of) in
    wanted_given x p _ c.args.value.now c.in_ok-wanted.wanted h
