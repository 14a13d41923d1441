use Rattle.class_table.specs.Earliest.{nowhere}
use Rattle.class_table.proofs.FirstItems.{none_there, none_nowhere}
use Rattle.class_table.proofs.items.no_domain.Goals as goal

pub returns-then-branch : goal.returns-then-branch
returns-then-branch c = rw c.in-Domain.is (none_there _ (c.in_ok-is_no_domain-in-Domain.ensures.0 c.if-branch.true))

pub returns-else-branch : goal.returns-else-branch
returns-else-branch c = rw c.in-Domain.is
    (none_nowhere _ (λ n. let h = c.in_ok-is_no_domain-in-Domain.ensures.1 n in cc))

pub returns-in-Class : goal.returns-in-Class
returns-in-Class c = rw c.in-Class.is (nowhere (λ p h. h))

pub returns-in-Block : goal.returns-in-Block
returns-in-Block c = rw c.in-Block.is (nowhere (λ p h. h))
