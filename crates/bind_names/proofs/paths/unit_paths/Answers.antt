use Rattle.std.proofs.Common.{List, arith, subst, sym}
use Rattle.ar_base.specs.Lists.{Along}
use Rattle.hierarchy.specs.Paths.{unit_path}
use Rattle.hierarchy.specs.Tie.{IsUnitNode}
use Rattle.hierarchy.specs.declared.tree.UnitNode.{UnitNode}
use Rattle.bind_names.proofs.Named.{item_of, texts_more, texts_end, fronts_all}
use Rattle.bind_names.proofs.paths.unit_paths.Goals as goal

pub loop-node-preserved : goal.loop-node-preserved
loop-node-preserved c = λ m units tree fronts.
    let along = subst (λ (ds : List UnitNode). Along (IsUnitNode m units) units ds)
    (sym c.deref-node-items.ensures.value)
    tree.units_are in
    let w = item_of (IsUnitNode m units) (unit_path m) units c.deref-node-items.result.now along c.loop-node.node-index
    c.node-item.result c.loop-node-test.true c.node-item.is in
    texts_more (IsUnitNode m units) (unit_path m) units c.deref-node-items.result.now along c.loop-node.node-index w.0
    c.loop-node.paths.items c.push.new.self.items c.in_ok-path.path
    w.1 (c.loop-node.invariant m units tree fronts)
    (c.in_ok-path.ensures m units w.0 tree.table.table.names (fronts_all m units w.0 c.args.prefixes.now fronts)
    w.2.owner w.2.name)
    c.in_ok-push.ensures.items

pub returns : goal.returns
returns c = λ m units tree fronts.
    let along = subst (λ (ds : List UnitNode). Along (IsUnitNode m units) units ds)
    (sym c.deref-node-items.ensures.value)
    tree.units_are in
    texts_end (IsUnitNode m units) (unit_path m) units c.deref-node-items.result.now along c.loop-node.node-index
    c.loop-node.paths.items (omega (arith, c.loop-node-test.false))
    (c.loop-node.invariant m units tree fronts)
