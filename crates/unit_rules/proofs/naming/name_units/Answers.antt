use Rattle.std.proofs.Common.{◌≡◌, ℕ, List, [], sym, subst, rules}
use Rattle.ar_base.specs.Lists.{Stands, Along, none}
use Rattle.hierarchy.specs.Tie.{IsUnitNode}
use Rattle.hierarchy.specs.declared.tree.UnitNode.{UnitNode}
use Rattle.unit_rules.proofs.Nodes.{outline_at, along_next, along_all}
use Rattle.unit_rules.proofs.naming.name_units.Goals as goal

pub loop-place-init : goal.loop-place-init
loop-place-init c = λ m units o a. subst (λ (ns : List UnitNode). Along (IsUnitNode m units) [] ns)
    (sym c.new-nodes.ensures.items) none

pub loop-place-preserved : goal.loop-place-preserved
loop-place-preserved c = λ m units o a.
    let at = outline_at o c.loop-place.place c.loop-place-test.true _ in
    let number : c.new.result.n ≡ c.loop-place.place = search (rules, c.new.ensures) in
    along_next units c.loop-place.place at.0 c.loop-place.nodes.items c.push.new.self.items c.in_ok-node.node at.1
    (c.in_ok-node.ensures m units at.0 o.table a (subst (λ (n : ℕ). Stands units n at.0) (sym number) at.1) at.2)
    c.in_ok-push.ensures.items (c.loop-place.invariant m units o a)

pub returns : goal.returns
returns c = λ m units o a. along_all o c.loop-place.place c.loop-place-test.false (c.loop-place.invariant m units o a)
