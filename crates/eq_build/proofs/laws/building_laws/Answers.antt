use Rattle.std.proofs.Common.{◌≡◌, true, refl}
use Rattle.eq_build.proofs.BuildsTell.{builds_tell}
use Rattle.eq_build.proofs.BuildsOrdered.{builds_ordered}
use Rattle.eq_build.proofs.Existing.{some_built}
use Rattle.eq_build.proofs.Growing.{builds_more}
use Rattle.eq_build.proofs.Same.{builds_same}
use Rattle.eq_build.proofs.Never.{one_alike}
use Rattle.eq_build.proofs.laws.building_laws.Goals as goal

pub returns-clause-entries_tell : goal.returns-clause-entries_tell
returns-clause-entries_tell c = λ known set kinds read g e kind b kept are typed d.
    builds_tell (λ x v. known x v ≡ true) set kinds kept read d typed (record { each = are })

pub returns-clause-one_building : goal.returns-clause-one_building
returns-clause-one_building c = λ read g e b c d f. builds_same read refl d f

pub returns-clause-some_building : goal.returns-clause-some_building
returns-clause-some_building c = λ read kinds g e kind typed. some_built kinds read typed g

pub returns-clause-more_gates : goal.returns-clause-more_gates
returns-clause-more_gates c = λ read g e b d. builds_more d

pub returns-clause-gates_in_order : goal.returns-clause-gates_in_order
returns-clause-gates_in_order c = λ read g e b a are d. builds_ordered read d a (record { each = are })

pub returns-clause-terms_with_never : goal.returns-clause-terms_with_never
returns-clause-terms_with_never c = one_alike
