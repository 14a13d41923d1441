use Rattle.class_table.proofs.OneDeclared.{declared_one}
use Rattle.class_table.proofs.Inheriting.{members_one}
use Rattle.class_table.proofs.OneRefusal.{refusal_one, never_both}
use Rattle.class_table.proofs.OneList.{first_inherited}
use Rattle.class_table.proofs.laws.declaring_laws.Goals as goal

pub returns-clause-one_declared : goal.returns-clause-one_declared
returns-clause-one_declared k = declared_one

pub returns-clause-one_list_of_members : goal.returns-clause-one_list_of_members
returns-clause-one_list_of_members k = members_one

pub returns-clause-one_refusal : goal.returns-clause-one_refusal
returns-clause-one_refusal k = refusal_one

pub returns-clause-table_or_refusal : goal.returns-clause-table_or_refusal
returns-clause-table_or_refusal k = never_both

pub returns-clause-inherited_members_come_first : goal.returns-clause-inherited_members_come_first
returns-clause-inherited_members_come_first k = first_inherited
