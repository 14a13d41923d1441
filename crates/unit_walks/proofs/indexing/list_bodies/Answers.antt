use Rattle.std.proofs.Common.{List, subst, arith}
use Rattle.std.proofs.Common.{map}
use Rattle.std.proofs.lemmas.List.{take_all}
use Rattle.ar_base.specs.Lists.{Along, none}
use Rattle.class_table.specs.declared.tables.Body.{Body}
use Rattle.hierarchy.specs.ModelsInside.{sites_kept}
use Rattle.unit_walks.specs.Forms.{IsUnitList}
use Rattle.unit_walks.proofs.NameLists.{list_pushed}
use Rattle.unit_walks.proofs.indexing.list_bodies.Goals as goal

pub loop-body-preserved : goal.loop-body-preserved
loop-body-preserved c = λ d k shown. list_pushed d c.loop-body.lists.items c.push.new.self.items c.args.bodies.now
    c.loop-body.body-index c.body-item.result c.in_ok-list.list c.loop-body-test.true c.body-item.is
    c.in_ok-push.ensures.items
    (c.loop-body.invariant d k shown) (rw c.deref.ensures.value at (c.in_ok-list.ensures d k shown))

pub returns : goal.returns
returns c = λ d k shown.
    let e = take_all c.loop-body.body-index c.args.bodies.now (omega arith) in
    subst (λ (xs : List Body). Along (IsUnitList d) c.loop-body.lists.items (map sites_kept xs)) e
    (c.loop-body.invariant d k shown)

pub loop-body-init : goal.loop-body-init
loop-body-init c = λ d k shown. rw c.new-lists.ensures.items none
