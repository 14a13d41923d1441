use Rattle.module_text.proofs.Combining.{combined}
use Rattle.module_text.proofs.laws.combinations_are_cuts.Goals as goal

pub returns : goal.returns
returns c = λ x dropped observer wanted text t kept units. combined x dropped observer wanted text t kept units
