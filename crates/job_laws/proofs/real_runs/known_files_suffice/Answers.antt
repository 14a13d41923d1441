use Rattle.job_laws.proofs.KnownFiles.{settled_known, quiet_after, gave_after, passes_after}
use Rattle.job_laws.proofs.real_runs.known_files_suffice.Goals as goal

pub returns-clause-known : goal.returns-clause-known
returns-clause-known c = λ k name. settled_known (k.files name)

pub returns-clause-quiet : goal.returns-clause-quiet
returns-clause-quiet c = quiet_after

pub returns-clause-gave : goal.returns-clause-gave
returns-clause-gave c = λ k s asked g is known. gave_after k s asked (c.one_job.ensures k.words) g is known

pub returns-clause-passes : goal.returns-clause-passes
returns-clause-passes c = λ k asked x known p. passes_after k.files asked x known p
