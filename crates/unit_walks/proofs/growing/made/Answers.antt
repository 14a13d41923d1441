use Rattle.std.proofs.Common.{sym}
use Rattle.unit_walks.proofs.Fronts.{alias_none, inner_own, clone_own, clone_lost}
use Rattle.unit_walks.proofs.growing.made.Goals as goal

pub returns-in-Alias : goal.returns-in-Alias
returns-in-Alias c = λ m u g f t p named kind. alias_none m c.args.table.now u c.args.named.now g t named c.in-Alias.is

pub returns-in-Inner : goal.returns-in-Inner
returns-in-Inner c = λ m u g f t p named kind. c.inner_unit.ensures m u g f t p (sym named.name) kind
    (inner_own c.args.named.now g named c.in-Inner.is)

pub returns-then-is_lost : goal.returns-then-is_lost
returns-then-is_lost c = λ m u g f t p named kind. clone_lost m c.args.table.now c.args.unit u c.args.named.now g t p
    named kind c.in-Clone.is (λ k. c.is_lost.ensures c.if-is_lost.true m u g.name f t p k)

pub returns-else-is_lost : goal.returns-else-is_lost
returns-else-is_lost c = λ m u g f t p named kind. c.inner_unit-in-Clone.ensures m u g f t p (sym named.name) kind
    (clone_own c.args.named.now g named c.in-Clone.is)
