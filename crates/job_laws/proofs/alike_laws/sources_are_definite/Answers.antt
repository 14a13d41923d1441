use Rattle.job_laws.proofs.Sources.{text_definite}
use Rattle.job_laws.proofs.alike_laws.sources_are_definite.Goals as goal

pub returns : goal.returns
returns c = λ main text x h. text_definite main text x (c.one_reading.ensures.trees_keep text) h
