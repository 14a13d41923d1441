use Rattle.job_laws.proofs.Findings.{modules_of, conflict_of}
use Rattle.job_laws.proofs.answer_laws.cuts_are_cuts.Goals as goal

pub returns-clause-modules_stand_for_cuts : goal.returns-clause-modules_stand_for_cuts
returns-clause-modules_stand_for_cuts c =
    λ k asked gave is sought. modules_of c.one_reading.ensures.trees_keep k asked (c.one_job.ensures k.words) is
    c.combinations_are_cuts.ensures sought gave

pub returns-clause-conflicts_are_met : goal.returns-clause-conflicts_are_met
returns-clause-conflicts_are_met c = λ k asked gave is sought. conflict_of c.one_reading.ensures.trees_keep k asked (c.one_job.ensures k.words) is sought gave
