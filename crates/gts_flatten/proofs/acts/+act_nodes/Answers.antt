use Rattle.std.proofs.Common.{true, false, ◌++◌, ◌∷◌, [], ap, ◌∙◌, sym, min, ℕ, arith}
use Rattle.gts_core.specs.View.{numbered}
use Rattle.sync_expand.proofs.Placed.{item_stands}
use Rattle.gts_flatten.proofs.Counting.{both_capped}
use Rattle.gts_flatten.proofs.ActLemmas.{skip_nodes, set_nodes, inner_nodes, if_nodes, all_nodes, acts_next}
use Rattle.gts_flatten.proofs.acts.+act_nodes.Goals as goal

pub act_nodes-returns-in-Skip : goal.act_nodes-returns-in-Skip
act_nodes-returns-in-Skip t c = λ cs a. let n = skip_nodes c.args.act.now c.in-Skip.is cs in omega (arith, n)

pub act_nodes-returns-in-Set : goal.act_nodes-returns-in-Set
act_nodes-returns-in-Set t c = λ cs a.
    let n = set_nodes c.args.act.now c.in-Set.field-0 c.in-Set.value c.in-Set.field-2 c.in-Set.is cs in
    both_capped _ _ _ c.args.above c.nodes.result c.sum.result n a c.nodes.ensures c.sum.ensures

pub act_nodes-returns-in-If : goal.act_nodes-returns-in-If
act_nodes-returns-in-If t c = λ cs a.
    let n = if_nodes c.args.act.now c.in-If.test c.in-If.first c.in-If.second c.in-If.is cs in
    let h = rw c.deref.ensures at c.act_nodes-here.ensures in
    let k = rw c.deref-in-If.ensures at c.act_nodes-there.ensures in
    both_capped _ _ _ c.act_nodes-here.result c.act_nodes-there.result c.sum-in-If.result n
    (h (cs ++ (numbered c.in-If.test, true) ∷ [])
    (inner_nodes cs c.in-If.test true c.args.above c.nodes-in-If.result c.sum-inner.result a c.nodes-in-If.ensures
    c.sum-inner.ensures))
    (k (cs ++ (numbered c.in-If.test, false) ∷ [])
    (inner_nodes cs c.in-If.test false c.args.above c.nodes-in-If.result c.sum-inner.result a c.nodes-in-If.ensures
    c.sum-inner.ensures)) c.sum-in-If.ensures

pub act_nodes-returns-in-All : goal.act_nodes-returns-in-All
act_nodes-returns-in-All t c = λ cs a.
    let k = rw c.deref-in-All.ensures.value at c.acts_nodes.ensures in
    k cs a ∙ ap (λ (n : ℕ). min 1000001 n) (sym (all_nodes c.args.act.now c.in-All.acts c.in-All.is cs))

pub acts_nodes-loop-act-preserved : goal.acts_nodes-loop-act-preserved
acts_nodes-loop-act-preserved t c = λ cs a.
    let s = item_stands c.args.acts.now c.loop-act.act-index c.act-item.result c.loop-act-test.true c.act-item.is in
    acts_next c.args.acts.now c.loop-act.act-index c.act-item.result cs c.loop-act.total c.act_nodes.result
    c.sum-total.result s (c.loop-act.invariant cs a) (c.act_nodes.ensures cs a) c.sum-total.ensures
