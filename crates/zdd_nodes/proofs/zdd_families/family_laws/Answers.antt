use Rattle.std.proofs.Common.{refl}
use Rattle.zdd_nodes.specs.Families.{minimal, without}
use Rattle.zdd_nodes.specs.FamiliesInside.{union, meet, minus, having}
use Rattle.zdd_nodes.specs.Sections.{section}
use Rattle.zdd_nodes.proofs.Members.{order_law, order_equal, holds_law, same_law, within_law, has-union, has-meet, has-minus, has-having, has-without, has-minimal}
use Rattle.zdd_nodes.proofs.OneList.{same_sets}
use Rattle.zdd_nodes.proofs.zdd_families.family_laws.Goals as goal

pub returns-clause-worked_union : goal.returns-clause-worked_union
unfolding union
returns-clause-worked_union c = refl

pub returns-clause-worked_meet : goal.returns-clause-worked_meet
unfolding meet
returns-clause-worked_meet c = refl

pub returns-clause-worked_minus : goal.returns-clause-worked_minus
unfolding minus
returns-clause-worked_minus c = refl

pub returns-clause-worked_having : goal.returns-clause-worked_having
unfolding having
returns-clause-worked_having c = refl

pub returns-clause-worked_minimal : goal.returns-clause-worked_minimal
unfolding minimal
returns-clause-worked_minimal c = refl

pub returns-clause-worked_without : goal.returns-clause-worked_without
unfolding without
returns-clause-worked_without c = refl

pub returns-clause-worked_halves : goal.returns-clause-worked_halves
returns-clause-worked_halves c = refl

pub returns-clause-worked_with_first : goal.returns-clause-worked_with_first
unfolding section
returns-clause-worked_with_first c = refl

pub returns-clause-worked_without_first : goal.returns-clause-worked_without_first
unfolding section
returns-clause-worked_without_first c = refl

pub returns-clause-order_of_sets : goal.returns-clause-order_of_sets
returns-clause-order_of_sets c = order_law

pub returns-clause-equal_sets : goal.returns-clause-equal_sets
returns-clause-equal_sets c = order_equal

pub returns-clause-order_holds : goal.returns-clause-order_holds
returns-clause-order_holds c = holds_law

pub returns-clause-same_order : goal.returns-clause-same_order
returns-clause-same_order c = same_law

pub returns-clause-order_within : goal.returns-clause-order_within
returns-clause-order_within c = within_law

pub returns-clause-sets_of_union : goal.returns-clause-sets_of_union
returns-clause-sets_of_union c = has-union

pub returns-clause-sets_of_meet : goal.returns-clause-sets_of_meet
returns-clause-sets_of_meet c = has-meet

pub returns-clause-sets_of_minus : goal.returns-clause-sets_of_minus
returns-clause-sets_of_minus c = has-minus

pub returns-clause-sets_of_having : goal.returns-clause-sets_of_having
returns-clause-sets_of_having c = has-having

pub returns-clause-sets_of_without : goal.returns-clause-sets_of_without
returns-clause-sets_of_without c = has-without

pub returns-clause-sets_of_minimal : goal.returns-clause-sets_of_minimal
returns-clause-sets_of_minimal c = has-minimal

pub returns-clause-one_list_each : goal.returns-clause-one_list_each
returns-clause-one_list_each c = λ f g a b h. same_sets f g a.in_order b.in_order h
