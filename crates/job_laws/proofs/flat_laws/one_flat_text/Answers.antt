use Rattle.job_laws.proofs.Flats.{flat_one}
use Rattle.job_laws.proofs.flat_laws.one_flat_text.Goals as goal

pub returns : goal.returns
returns c = λ x different p q a b f g. flat_one x different p q a b f g
