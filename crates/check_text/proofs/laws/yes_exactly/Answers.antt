use Rattle.check_text.proofs.YesLemmas.{yes_told, told_yes}
use Rattle.check_text.proofs.laws.yes_exactly.Goals as goal

pub returns : goal.returns
returns g c = λ order names sys dropped observer wanted cuts text t. (
  λ y. yes_told order names sys dropped observer wanted cuts text t y,
  λ h. told_yes order names sys dropped observer wanted cuts
      text t h,
)
