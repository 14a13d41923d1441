use Rattle.std.proofs.Common.{◌≡◌, None, sym, ◌∙◌}
use Rattle.class_table.specs.Members.{extended}
use Rattle.class_table.specs.declared.tables.Owned.{Owned}
use Rattle.class_table.proofs.Retested.{apart_first, some_extended, none_extended}
use Rattle.class_table.proofs.Taken.{item_stands, below_next}
use Rattle.class_table.proofs.naming.count_first.Goals as goal

pub loop-owned-preserved : goal.loop-owned-preserved
loop-owned-preserved c =
    let s = item_stands c.args.own.now c.loop-owned.owned-index c.owned-item.result c.loop-owned-test.true c.owned-item.is in
    below_next c.args.own.now (λ (o : Owned). extended o ≡ None) c.loop-owned.owned-index c.owned-item.result s
    c.loop-owned.invariant
    (none_extended c.extended.result _ c.extended.ensures (sym c.is_some.ensures ∙ c.if-is_some.false))

pub returns-then-is_some : goal.returns-then-is_some
returns-then-is_some c = λ d b all shown listed m e.
    let s = item_stands c.args.own.now c.loop-owned.owned-index c.owned-item.result c.loop-owned-test.true c.owned-item.is in
    let x = some_extended c.extended.result _ c.extended.ensures (sym c.is_some.ensures ∙ c.if-is_some.true) in
    apart_first d b all c.args.own.now c.count_inherited.result c.loop-owned.owned-index c.owned-item.result x.0 m e
    c.loop-owned.invariant s x.1
    (λ class sites named are. c.count_inherited.ensures d x.0 class sites shown listed x.1 named are)
