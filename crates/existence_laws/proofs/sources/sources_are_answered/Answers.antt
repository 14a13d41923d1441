use Rattle.existence_laws.proofs.Chain.{answered}
use Rattle.existence_laws.proofs.sources.sources_are_answered.Goals as goal

pub returns : goal.returns
returns c = λ main text p t d. answered main text p t d
