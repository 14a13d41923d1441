use Rattle.ar_meaning.specs.FlatOf.{IsNumber}
use Rattle.ar_meaning.proofs.FlatSystems.{flat_image}
use Rattle.cut_check.proofs.LawLemmas.{line_there, line_back, said_there, said_back, missing_there, missing_back, said_once, right_cuts, cuts_right}
use Rattle.cut_check.proofs.laws.verdict_laws.Goals as goal

pub returns-clause-flat_lines : goal.returns-clause-flat_lines
returns-clause-flat_lines g c = λ things sys flat f dropped observer other q wanted ls. (
  λ h. line_there (IsNumber things) sys flat (flat_image things sys flat f) dropped observer other q wanted ls h,
  λ h. line_back (IsNumber things) sys flat (flat_image things sys flat f) dropped observer other q wanted ls h,
)

pub returns-clause-flat_verdicts : goal.returns-clause-flat_verdicts
returns-clause-flat_verdicts g c = λ things sys flat f dropped observer other q wanted lines n said. (
  λ h. said_there (IsNumber things) sys flat (flat_image things sys flat f) dropped observer other q wanted lines n said
      h,
  λ h. said_back (IsNumber things) sys flat (flat_image things sys flat f) dropped observer other q wanted lines n said
      h,
)

pub returns-clause-flat_missing : goal.returns-clause-flat_missing
returns-clause-flat_missing g c = λ things sys flat f dropped observer other q wanted lines set. (
  λ h. missing_there (IsNumber things) sys flat (flat_image things sys flat f) dropped observer other q wanted lines set
      h,
  λ h. missing_back (IsNumber things) sys flat (flat_image things sys flat f) dropped observer other q wanted lines set
      h,
)

pub returns-clause-one_verdict : goal.returns-clause-one_verdict
returns-clause-one_verdict g c = λ sys dropped observer wanted lines n a b h k. said_once sys dropped observer wanted lines n a b h k

pub returns-clause-right_lists : goal.returns-clause-right_lists
returns-clause-right_lists g c = λ order sys dropped observer wanted lines small. (
  λ h. right_cuts sys dropped observer wanted lines order small h,
  λ h. cuts_right sys dropped observer wanted lines order h,
)
