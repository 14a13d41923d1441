use Rattle.std.proofs.Common.{◌≡◌, refl}
use Rattle.job_stages.specs.Refusals.{line_of, status_of}
use Rattle.job_stages.proofs.TellLemmas.{text_written}
use Rattle.job_stages.proofs.telling.refuse.Goals as goal

pub returns : goal.returns
returns g c =
    text_written (λ text ends. (text ≡ line_of c.args.refusal.now) × (ends ≡ status_of c.args.refusal.now))
    (line_of c.args.refusal.now) c.status-whole.result _ _ c.written.ensures (refl, c.status-whole.ensures)
    c.put.ensures
