use Rattle.reason_text.proofs.Source.{text_of_source}
use Rattle.reason_text.proofs.laws.reasons_of_the_source.Goals as goal

pub returns : goal.returns
returns c = text_of_source
