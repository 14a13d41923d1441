use Rattle.std.proofs.Common.{◌≡◌, ◌<◌, ◌+◌, ℕ, List, [], drop, length, get_or, sym, ap, ◌∙◌, subst, rules, arith, Vec, Global}
use Rattle.eq_build.proofs.Places.{item_next}
use Rattle.gts_core.specs.declared.system.Variable.{Variable}
use Rattle.tree_equations.specs.Index.{AreNumbersOf, to_target}
use Rattle.ar_base.proofs.Standing.{stands_item}
use Rattle.ar_base.proofs.Items.{none_left}
use Rattle.tree_equations.proofs.LeavingLemmas.{AllSoFar, all_start, all_state, all_flow, all_end}
use Rattle.tree_equations.proofs.leaving.leaving.Goals as goal
use Rattle.tree_equations.proofs.leaving.leaving.Goals.{then-not-variable+in_ok-push_leaving, else-not-variable}
use Rattle.flow_blocks.proofs.RowLemmas.{row_got}

pub loop-n-init : goal.loop-n-init
loop-n-init c = all_start c.args.parts.now c.new-leaving.result.items c.new-leaving.ensures.items

pub push_leaving-requires-clause-numbers : goal.push_leaving-requires-clause-numbers
push_leaving-requires-clause-numbers c =
    let p = c.args.parts.now in
    let n = c.loop-n.n in
    let rows = c.args.index.now.assigns.items in
    let l = subst (λ (z : List Variable). n < length z) c.deref-variable-items.ensures.value c.loop-n-test.true in
    let row = c.deref.ensures.value ∙ ap (λ (r : Vec ℕ Global). r.items) c.index.ensures
    ∙ row_got rows n c.index.result.now (let e = c.requires.index.assigns.long in omega (arith, l, e)) in
    subst (λ (z : List ℕ). AreNumbersOf p.assigns.items z (to_target n p.assigns.items)) (sym row)
    (c.requires.index.assigns.row n l)

pub loop-n-preserved : goal.loop-n-preserved
loop-n-preserved c =
    let p = c.args.parts.now in
    let vs = p.variables.items in
    let n = c.loop-n.n in
    let x = c.variable-item.result in
    let items = c.deref-variable-items.ensures.value in
    let l = subst (λ (z : List Variable). n < length z) items c.loop-n-test.true in
    let is = subst (λ (z : List Variable). x ≡ get_or z n x) items c.variable-item.is in
    let left = item_next vs n x l is in
    let st = stands_item vs n x l is in
    elim c.if-not-variable.branch [
      | then-not-variable+in_ok-push_leaving w ↦
          subst (λ (z : Vec ℕ Global). AllSoFar p (n + 1) z.items) (sym w.leaving-is)
          (all_flow p n c.loop-n.leaving.items x left c.loop-n.invariant w.push_leaving.new.leaving.items (search rules)
          (w.in_ok-push_leaving.ensures x st))
      | else-not-variable w ↦
          subst (λ (z : Vec ℕ Global). AllSoFar p (n + 1) z.items) (sym w.leaving-is)
          (all_state p n c.loop-n.leaving.items x left c.loop-n.invariant (search rules))
    ]

pub returns : goal.returns
returns c =
    let p = c.args.parts.now in
    all_end p c.loop-n.n c.loop-n.leaving.items
    (subst (λ (z : List Variable). drop c.loop-n.n z ≡ []) c.deref-variable-items.ensures.value
    (none_left c.deref-variable-items.result.now c.loop-n.n c.loop-n-test.false)) c.loop-n.invariant
