use Rattle.sync_expand.specs.Links.{first, second}
use Rattle.sync_expand.proofs.FirstLinks.{of_first, of_second, of_both}
use Rattle.sync_expand.proofs.links.earlier.Goals as goal

pub returns-in-None : goal.returns-in-None
returns-in-None c = of_first _ _ c.in-None.is

pub returns-in-None-other : goal.returns-in-None-other
returns-in-None-other c = of_second _ _ _ c.in-Some.is c.in-None-other.is

pub returns-then-is_before : goal.returns-then-is_before
returns-then-is_before c =
    of_both _ _ _ _ _ c.in-Some.is c.in-Some-other.is (second (c.is_before.ensures.0 c.if-is_before.true))

pub returns-else-is_before : goal.returns-else-is_before
returns-else-is_before c =
    of_both _ _ _ _ _ c.in-Some.is c.in-Some-other.is (first (λ h. let e = c.is_before.ensures.1 h in cc))
