use Rattle.std.proofs.Common.{Ok, Err}
use Rattle.ar_firing.specs.Rules.{rule_number}
use Rattle.ar_firing.proofs.Neither.{neither_asked_refuted}
use Rattle.job_stages.specs.Stages.{keeps, outside, spot_path}
use Rattle.job_stages.specs.declared.refusals.Refusal.TheVariants.{Outside}
use Rattle.existence_laws.proofs.Told.{told_thing}
use Rattle.existence_laws.proofs.jobs.static_is_answered.Goals as goal

pub returns : goal.returns
returns c = λ w targets k. neither_asked_refuted told_thing w.source.system w.dropped targets w.order (λ h. k (Ok w) (keeps h))
    (λ rule spot q h. k (Err (Outside (rule_number rule) (spot_path w.source spot))) (outside q h))
