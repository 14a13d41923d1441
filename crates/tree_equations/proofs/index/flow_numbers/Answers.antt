use Rattle.std.proofs.Common.{refl, sym, subst, rules, ◌+◌}
use Rattle.std.proofs.Common.{Vec, Global, ℕ}
use Rattle.eq_build.proofs.Places.{item_next}
use Rattle.ar_base.proofs.Standing.{stands_item}
use Rattle.ar_base.proofs.Items.{none_left}
use Rattle.tree_equations.proofs.IndexLemmas.{FlowsSoFar, flows_state, flows_flow, flows_end}
use Rattle.tree_equations.proofs.index.flow_numbers.Goals as goal
use Rattle.tree_equations.proofs.index.flow_numbers.Goals.{then-not-variable+in_ok-push, else-not-variable}

pub loop-n-preserved : goal.loop-n-preserved
loop-n-preserved c =
    let vs = c.args.variables.now in
    let n = c.loop-n.n in
    let x = c.index-variables-n.result in
    let left = item_next vs n x c.loop-n-test.true c.index-variables-n.is in
    let st = stands_item vs n x c.loop-n-test.true c.index-variables-n.is in
    elim c.if-not-variable.branch [
      | then-not-variable+in_ok-push w ↦
          subst (λ (z : Vec ℕ Global). FlowsSoFar vs (n + 1) z.items) (sym w.flows-is)
          (flows_flow vs n x c.loop-n.flows.items w.push.new.self.items _ left st (search rules) refl
          w.in_ok-push.ensures.items c.loop-n.invariant)
      | else-not-variable w ↦
          subst (λ (z : Vec ℕ Global). FlowsSoFar vs (n + 1) z.items) (sym w.flows-is)
          (flows_state vs n x c.loop-n.flows.items left (search rules) c.loop-n.invariant)
    ]

pub returns : goal.returns
returns c =
    flows_end c.args.variables.now c.loop-n.n c.loop-n.flows.items
    (none_left c.args.variables.now c.loop-n.n c.loop-n-test.false) c.loop-n.invariant
