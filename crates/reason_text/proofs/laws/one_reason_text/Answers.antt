use Rattle.reason_text.proofs.Source.{text_one}
use Rattle.reason_text.proofs.laws.one_reason_text.Goals as goal

pub returns : goal.returns
returns g c = text_one
