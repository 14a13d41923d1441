use Rattle.std.proofs.Common.{sym, ap, subst, arith}
use Rattle.std.specs.Map.{lookup}
use Rattle.class_table.proofs.Taken.{item_stands}
use Rattle.unit_walks.specs.Forms.{same_pair, AreIndexed}
use Rattle.unit_walks.proofs.NameLists.{index_none}
use Rattle.unit_walks.proofs.indexing.index.Goals as goal

pub loop-body-init : goal.loop-body-init
loop-body-init c = index_none c.args.lists.now c.new-places.result
    (λ q. ap (lookup (same_pair q)) c.new-places.ensures.empty)

pub loop-body-preserved : goal.loop-body-preserved
loop-body-preserved c = c.in_ok-index_list.ensures c.args.lists.now c.index-lists-body.result
    (item_stands c.args.lists.now c.loop-body.body c.index-lists-body.result c.loop-body-test.true
    c.index-lists-body.is) (sym c.deref.ensures.value) c.loop-body.invariant

pub returns : goal.returns
returns c = subst (λ n. AreIndexed c.args.lists.now n 0 c.loop-body.places) (let a = c.loop-body-test.false in let b = c.loop-body.auto.body-end in omega (arith, a, b)) c.loop-body.invariant
