use Rattle.std.proofs.Common.{refl}
use Rattle.std.proofs.lemmas.Result.{err_from_is_err_and}
use Rattle.job_stages.proofs.PassLemmas.{dropped_refused, wanted_refused, all_given, few_events}
use Rattle.job_stages.proofs.requesting.request_of.Goals as goal

pub returns-in_err-dropped-clause-sought : goal.returns-in_err-dropped-clause-sought
returns-in_err-dropped-clause-sought c = λ x cuts of.
    let r = err_from_is_err_and c.from_residual.result c.from_residual.ensures.1 in
    dropped_refused c.args.asked.now x cuts c.args.model.system c.requires.command c.requires.observer.0
    c.requires.observer.1 _ _ _ r.1 r.2 (c.in_err-dropped.ensures x of)

pub returns-in_err-wanted-clause-sought : goal.returns-in_err-wanted-clause-sought
returns-in_err-wanted-clause-sought c = λ x cuts of.
    let r = err_from_is_err_and c.from_residual-in_err-wanted.result c.from_residual-in_err-wanted.ensures.1 in
    let k = c.in_ok-dropped.ensures x of in
    wanted_refused c.args.asked.now x cuts c.args.model.system c.requires.command _ c.observer_of.ensures k.0 k.1 _ _ _
    r.1 r.2 (c.in_err-wanted.ensures x of)

pub returns-clause-sought : goal.returns-clause-sought
returns-clause-sought c = λ x cuts of.
    let k = c.in_ok-dropped.ensures x of in
    let m = c.in_ok-wanted.ensures x of in
    all_given c.args.asked.now x cuts c.args.model.system c.requires.command _ c.observer_of.ensures k.0 k.1 _ of.flat refl
    (few_events x c.args.model of) k.2 m.0 m.1 m.2
