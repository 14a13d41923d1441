use Rattle.std.proofs.Common.{◌∙◌, Err, ap, refl}
use Rattle.std.proofs.lemmas.Result.{err_from_is_err_and}
use Rattle.replayer.specs.Playing as refusal
use Rattle.replayer.proofs.ObeyLemmas.{refusal_as}
use Rattle.replayer.proofs.obeying.refuse.Goals as goal

pub returns-in_err-not_fired-in_default : goal.returns-in_err-not_fired-in_default
returns-in_err-not_fired-in_default g c =
    let r = err_from_is_err_and c.from_residual.result c.from_residual.ensures.1 in
    refusal_as (r.1 ∙ ap Err r.2) (refusal.cut c.in_default.not-Memory c.in_err-not_fired-in_default.ensures)

pub returns-in-Memory : goal.returns-in-Memory
returns-in-Memory g c = refusal.memory c.in-Memory.is refl

pub returns-in_ok-not_fired-in_default : goal.returns-in_ok-not_fired-in_default
returns-in_ok-not_fired-in_default g c = refusal.told c.in_default.not-Memory c.in_ok-not_fired-in_default.ensures
