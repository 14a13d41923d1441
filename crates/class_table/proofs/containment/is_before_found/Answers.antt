use Rattle.ar_base.proofs.Truths.{not_both}
use Rattle.class_table.specs.Earliest.{behind}
use Rattle.class_table.proofs.containment.is_before_found.Goals as goal

pub returns-in-Some-clause-no : goal.returns-in-Some-clause-no
returns-in-Some-clause-no c = λ e. rw c.in-Some.is (behind (λ l. not_both _ e (c.is_before.ensures.1 l)))
