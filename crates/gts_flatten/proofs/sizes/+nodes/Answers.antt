use Rattle.sync_expand.proofs.Placed.{item_stands}
use Rattle.gts_flatten.proofs.Counting.{all_nodes, any_nodes, product_nodes, least_nodes, greatest_nodes, count_nodes, sum_nodes, choose_nodes, nodes_next, terms_next, cases_next, form_capped, pair_capped}
use Rattle.gts_flatten.proofs.sizes.+nodes.Goals as goal

pub all_nodes-loop-e-preserved : goal.all_nodes-loop-e-preserved
all_nodes-loop-e-preserved t c =
    let s = item_stands c.args.es.now c.loop-e.e-index c.e-item.result c.loop-e-test.true c.e-item.is in
    nodes_next c.args.es.now c.loop-e.e-index c.e-item.result c.loop-e.total c.nodes.result c.sum-total.result s
    c.loop-e.invariant c.nodes.ensures c.sum-total.ensures

pub term_nodes-loop-e-preserved : goal.term_nodes-loop-e-preserved
term_nodes-loop-e-preserved t c =
    let s = item_stands c.args.terms.now c.loop-e.e-index c.loop-e-item.result c.loop-e-test.true c.loop-e-item.is in
    terms_next c.args.terms.now c.loop-e.e-index c.loop-e-item.result c.loop-e.total c.nodes.result c.sum-total.result s
    c.loop-e.invariant c.nodes.ensures c.sum-total.ensures

pub case_nodes-loop-test-preserved : goal.case_nodes-loop-test-preserved
case_nodes-loop-test-preserved t c =
    let s = item_stands c.args.cases.now c.loop-test.test-index c.loop-test-item.result c.loop-test-test.true
    c.loop-test-item.is in
    cases_next c.args.cases.now c.loop-test.test-index c.loop-test-item.result c.loop-test.total c.nodes-first.result
    c.nodes-second.result c.sum.result c.sum-total.result s c.loop-test.invariant c.nodes-first.ensures
    c.nodes-second.ensures c.sum.ensures c.sum-total.ensures

pub nodes-returns-in-All : goal.nodes-returns-in-All
nodes-returns-in-All t c =
    let k = rw c.deref-in-All.ensures.value at c.all_nodes.ensures in
    form_capped _ _ c.all_nodes.result c.sum-in-All.result (all_nodes c.args.expr.now c.in-All.es c.in-All.is) k
    c.sum-in-All.ensures

pub nodes-returns-in-Any : goal.nodes-returns-in-Any
nodes-returns-in-Any t c =
    let k = rw c.deref-in-Any.ensures.value at c.all_nodes-in-Any.ensures in
    form_capped _ _ c.all_nodes-in-Any.result c.sum-in-Any.result (any_nodes c.args.expr.now c.in-Any.es c.in-Any.is) k
    c.sum-in-Any.ensures

pub nodes-returns-in-Product : goal.nodes-returns-in-Product
nodes-returns-in-Product t c =
    let k = rw c.deref-in-Product.ensures.value at c.all_nodes-in-Product.ensures in
    form_capped _ _ c.all_nodes-in-Product.result c.sum-in-Product.result
    (product_nodes c.args.expr.now c.in-Product.es c.in-Product.is) k c.sum-in-Product.ensures

pub nodes-returns-in-Least : goal.nodes-returns-in-Least
nodes-returns-in-Least t c =
    let k = rw c.deref-in-Least.ensures.value at c.all_nodes-in-Least.ensures in
    form_capped _ _ c.all_nodes-in-Least.result c.sum-in-Least.result
    (least_nodes c.args.expr.now c.in-Least.es c.in-Least.is) k c.sum-in-Least.ensures

pub nodes-returns-in-Greatest : goal.nodes-returns-in-Greatest
nodes-returns-in-Greatest t c =
    let k = rw c.deref-in-Greatest.ensures.value at c.all_nodes-in-Greatest.ensures in
    form_capped _ _ c.all_nodes-in-Greatest.result c.sum-in-Greatest.result
    (greatest_nodes c.args.expr.now c.in-Greatest.es c.in-Greatest.is) k c.sum-in-Greatest.ensures

pub nodes-returns-in-Count : goal.nodes-returns-in-Count
nodes-returns-in-Count t c =
    let k = rw c.deref-in-Count.ensures.value at c.all_nodes-in-Count.ensures in
    form_capped _ _ c.all_nodes-in-Count.result c.sum-in-Count.result
    (count_nodes c.args.expr.now c.in-Count.es c.in-Count.is) k c.sum-in-Count.ensures

pub nodes-returns-in-Sum : goal.nodes-returns-in-Sum
nodes-returns-in-Sum t c =
    let k = rw c.deref-in-Sum.ensures.value at c.term_nodes.ensures in
    form_capped _ _ c.term_nodes.result c.sum-in-Sum.result (sum_nodes c.args.expr.now c.in-Sum.terms c.in-Sum.is) k
    c.sum-in-Sum.ensures

pub nodes-returns-in-Choose : goal.nodes-returns-in-Choose
nodes-returns-in-Choose t c =
    let k = rw c.deref-in-Choose.ensures.value at c.case_nodes-first.ensures in
    let j = rw c.deref-in-Choose-2.ensures at c.nodes-last.ensures in
    pair_capped _ _ _ c.case_nodes-first.result c.nodes-last.result c.sum-in-Choose.result c.sum-in-Choose-2.result
    (choose_nodes c.args.expr.now c.in-Choose.cases c.in-Choose.other c.in-Choose.is) k j c.sum-in-Choose.ensures
    c.sum-in-Choose-2.ensures
