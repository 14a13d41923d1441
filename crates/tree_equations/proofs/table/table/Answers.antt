use Rattle.std.proofs.Common.{◌≡◌, ◌<◌, ℕ, List, length, map, sym, ap, ◌∙◌, subst, arith, Vec, Global}
use Rattle.std.proofs.lemmas.List.{length-map}
use Rattle.ar_base.specs.Lists.{IsOneOf}
use Rattle.ar_meaning.specs.Dependence.{flow_count}
use Rattle.flow_blocks.specs.Table.{members_of}
use Rattle.flow_blocks.specs.declared.dependences.Block.{Block}
use Rattle.flow_propagate.specs.Plan as plan
use Rattle.typed_expr.specs.declared.expr.Expr.{out-Expr}
use Rattle.eq_core.specs.Gates.{Operand, Table}
use Rattle.eq_core.specs.Views.{operand_of}
use Rattle.eq_core.specs.declared.joints.Gate as flat
use Rattle.eq_build.specs.Builds.{Builds}
use Rattle.eq_build.specs.Entries as e
use Rattle.eq_build.specs.Views.{gates_in, row_at, entries_in, lists_in}
use Rattle.eq_build.specs.declared.entries.Entry.{Entry}
use Rattle.gts_core.specs.View.{net_of, numbered}
use Rattle.gts_core.proofs.Viewing.{are_numbered, variables_long}
use Rattle.gts_core.specs.declared.system.Variable.{Variable}
use Rattle.gts_core.specs.declared.system.GtsParts.{GtsParts}
use Rattle.mode_trees.specs.declared.forests.ModeTree.{ModeTree}
use Rattle.eq_build.specs.Steps.{Reading, Threads, Has_modes, All_rounds, AreBlocks, first_reading, flows_from}
use Rattle.eq_build.specs.Table.{IsTable}
use Rattle.gts_core.specs.View.{variables_from}
use Rattle.tree_equations.specs.Answers.{TooMany, Entries, row_in, trees_in, tree_in}
use Rattle.tree_equations.specs.Blocks.{blocks_in, ArePlacedBlocks}
use Rattle.tree_equations.specs.Index.{AreFlows}
use Rattle.tree_equations.specs.Seen.{Conflicting}
use Rattle.ar_base.proofs.Standing.{stands_item}
use Rattle.tree_equations.proofs.Conflicting.{table_first, table_second, table_third, table_fourth, table_made}
use Rattle.tree_equations.proofs.FewGates.{rows_few}
use Rattle.tree_equations.proofs.Flowing.{threads_long}
use Rattle.tree_equations.proofs.IndexLemmas.{are_blocks, follow_under, flows_long, blocks_under}
use Rattle.tree_equations.proofs.Tabling.{all_need, one_needs, one_table, err_on}
use Rattle.tree_equations.proofs.table.table.Goals as goal

-- the blocks of the plan, by the numbers of the flows that the index has
blocks_here : (p q : GtsParts) → p ≡ q → (flows read : List ℕ) → read ≡ flows
    → AreFlows p.variables.items flows (flows_from 0 (net_of p).variables) → (classes kept : List Block)
    → kept ≡ classes → plan.AreFlowClasses q (members_of classes) → (found : List (List ℕ))
    → ArePlacedBlocks read (members_of kept) found → AreBlocks (net_of q) found
blocks_here p q same flows read i are classes kept j planned found placed =
    are_blocks q flows (members_of classes) found
    (subst (λ (z : GtsParts). AreFlows z.variables.items flows (flows_from 0 (net_of z).variables)) same are) planned
    (subst (λ (z : List Block). ArePlacedBlocks flows (members_of z) found) j
    (subst (λ (z : List ℕ). ArePlacedBlocks z (members_of kept) found) i placed))

pub numbered_blocks-requires : goal.numbered_blocks-requires
numbered_blocks-requires c = λ members o n k.
    let p = c.args.gts.now in
    let plan = c.in_ok-plan.ensures.blocks in
    let classes = members_of c.in_ok-plan.plan.blocks.items in
    let under = follow_under (flow_count (net_of p).variables) plan.uses _ classes plan.follow members
    (subst (λ (z : List Block). IsOneOf (members_of z) members) c.deref-2.ensures.value o) n k in
    let flows = c.in_ok-index.index.flows.items in
    let long = flows_long p flows
    (subst (λ (z : GtsParts). AreFlows z.variables.items flows (flows_from 0 (net_of z).variables))
    c.parts-parts.ensures.parts c.in_ok-index.ensures.flows) in
    let read = ap length c.deref.ensures.value in omega (arith, under, long, read)

pub first_rows-requires-clause-few : goal.first_rows-requires-clause-few
first_rows-requires-clause-few c =
    let g1 = gates_in c.modes.new.gates.items in
    let trees = c.args.forest.now.trees.items in
    let modes = lists_in c.in_ok-modes.modes.items in
    let d1 = subst (λ (ts : List ModeTree). Threads Has_modes (gates_in c.new-gates.result.items) (map tree_in ts) modes
    g1) c.deref-3.ensures.value c.in_ok-modes.ensures.0 in
    rows_few _ g1 trees c.in_ok-modes.modes.items d1 c.requires.few

pub first_rows-requires-clause-long : goal.first_rows-requires-clause-long
first_rows-requires-clause-long c =
    sym (length-map c.in_ok-modes.modes.items _) ∙ threads_long c.in_ok-modes.ensures.0
    ∙ length-map c.deref-3.result.now _
    ∙ ap length (c.deref-3.ensures.value ∙ sym c.deref-5.ensures.value)

pub all_rounds-requires-clause-under : goal.all_rounds-requires-clause-under
all_rounds-requires-clause-under c = λ block o.
    let p = c.parts-parts.result.now in
    let bs = c.in_ok-blocks.blocks.items in
    let are = subst (λ (z : GtsParts). AreBlocks (net_of z) (blocks_in bs)) (sym c.parts-parts.ensures.parts)
    (blocks_here c.parts-parts.result.now c.args.gts.now c.parts-parts.ensures.parts c.in_ok-index.index.flows.items
    c.deref.result.now c.deref.ensures.value c.in_ok-index.ensures.flows c.in_ok-plan.plan.blocks.items
    c.deref-2.result.now c.deref-2.ensures.value c.in_ok-plan.ensures.blocks (blocks_in bs) c.in_ok-blocks.ensures) in
    blocks_under (net_of p) (length p.variables.items) (blocks_in bs) (variables_long 0 p.variables.items)
    (are_numbered p).key are block
    (subst (λ (z : List (Vec ℕ Global)). IsOneOf (blocks_in z) block) c.deref-6.ensures.value o)

pub returns-in_err-modes-clause-gates : goal.returns-in_err-modes-clause-gates
returns-in_err-modes-clause-gates c =
    let p = c.parts-parts.result.now in
    let net = net_of p in
    let forest = c.args.forest.now in
    let trees = trees_in forest.trees.items in
    let first : List flat.Gate → List ModeTree
    → Type 0 = λ gs ts. TooMany (λ ess h. Threads Has_modes (gates_in gs) (map tree_in ts) ess h) in
    err_on (first c.new-gates.result.items c.deref-3.result.now) _ c.from_residual-in_err-modes.result
    c.in_err-modes.field-0.0
    (λ n. all_need p c.args.gts.now c.parts-parts.ensures.parts forest c.args.wanted c.args.observer
    (λ e. table_first net trees e c.args.wanted
    (subst (λ gs. first gs forest.trees.items) c.new-gates.ensures.items
    (subst (λ ts. first c.new-gates.result.items ts) c.deref-3.ensures.value n))))
    c.from_residual-in_err-modes.ensures.1 c.in_err-modes.ensures

pub returns-in_err-all_rounds-clause-gates : goal.returns-in_err-all_rounds-clause-gates
returns-in_err-all_rounds-clause-gates c =
    let p = c.parts-parts.result.now in
    let net = net_of p in
    let forest = c.args.forest.now in
    let trees = trees_in forest.trees.items in
    let modes = lists_in c.in_ok-modes.modes.items in
    let g1 = gates_in c.modes.new.gates.items in
    let d1 = subst (λ (gs : List flat.Gate). Threads Has_modes (gates_in gs) trees modes g1) c.new-gates.ensures.items
    (subst (λ (ts : List ModeTree). Threads Has_modes (gates_in c.new-gates.result.items) (map tree_in ts) modes g1)
    c.deref-3.ensures.value c.in_ok-modes.ensures.0) in
    let bs = c.in_ok-blocks.blocks.items in
    let are = subst (λ (z : GtsParts). AreBlocks (net_of z) (blocks_in bs)) (sym c.parts-parts.ensures.parts)
    (blocks_here c.parts-parts.result.now c.args.gts.now c.parts-parts.ensures.parts c.in_ok-index.index.flows.items
    c.deref.result.now c.deref.ensures.value c.in_ok-index.ensures.flows c.in_ok-plan.plan.blocks.items
    c.deref-2.result.now c.deref-2.ensures.value c.in_ok-plan.ensures.blocks (blocks_in bs) c.in_ok-blocks.ensures) in
    let first = row_at c.in_ok-rows.rows.items in
    let is = c.in_ok-rows.ensures.reading
    ∙ ap (λ (ts : List ModeTree). first_reading (trees_in ts) modes 0 (variables_from 0 c.deref-4.result.now))
    c.deref-5.ensures.value
    ∙ ap (λ (vs : List Variable). first_reading trees modes 0 (variables_from 0 vs)) c.deref-4.ensures.value in
    err_on (TooMany (λ last h. All_rounds net (blocks_in c.deref-6.result.now) g1 first last h)) _
    c.from_residual-in_err-all_rounds.result c.in_err-all_rounds.field-0.0
    (λ n. all_need p c.args.gts.now c.parts-parts.ensures.parts forest c.args.wanted c.args.observer
    (λ e. table_second net trees e c.args.wanted modes g1 d1 (blocks_in bs) are first is
    (subst (λ (z : List (Vec ℕ Global)). TooMany (λ last h. All_rounds net (blocks_in z) g1 first last h))
    c.deref-6.ensures.value n)))
    c.from_residual-in_err-all_rounds.ensures.1 c.in_err-all_rounds.ensures.rounds

pub returns-in_err-conflict-clause-gates : goal.returns-in_err-conflict-clause-gates
returns-in_err-conflict-clause-gates c =
    let p = c.parts-parts.result.now in
    let net = net_of p in
    let forest = c.args.forest.now in
    let trees = trees_in forest.trees.items in
    let modes = lists_in c.in_ok-modes.modes.items in
    let g1 = gates_in c.modes.new.gates.items in
    let d1 = subst (λ (gs : List flat.Gate). Threads Has_modes (gates_in gs) trees modes g1) c.new-gates.ensures.items
    (subst (λ (ts : List ModeTree). Threads Has_modes (gates_in c.new-gates.result.items) (map tree_in ts) modes g1)
    c.deref-3.ensures.value c.in_ok-modes.ensures.0) in
    let bs = c.in_ok-blocks.blocks.items in
    let are = subst (λ (z : GtsParts). AreBlocks (net_of z) (blocks_in bs)) (sym c.parts-parts.ensures.parts)
    (blocks_here c.parts-parts.result.now c.args.gts.now c.parts-parts.ensures.parts c.in_ok-index.index.flows.items
    c.deref.result.now c.deref.ensures.value c.in_ok-index.ensures.flows c.in_ok-plan.plan.blocks.items
    c.deref-2.result.now c.deref-2.ensures.value c.in_ok-plan.ensures.blocks (blocks_in bs) c.in_ok-blocks.ensures) in
    let first = row_at c.in_ok-rows.rows.items in
    let is = c.in_ok-rows.ensures.reading
    ∙ ap (λ (ts : List ModeTree). first_reading (trees_in ts) modes 0 (variables_from 0 c.deref-4.result.now))
    c.deref-5.ensures.value
    ∙ ap (λ (vs : List Variable). first_reading trees modes 0 (variables_from 0 vs)) c.deref-4.ensures.value in
    let known = row_at c.all_rounds.new.rows.items in
    let g2 = gates_in c.all_rounds.new.gates.items in
    let d2 = subst (λ (z : List (Vec ℕ Global)). All_rounds net (blocks_in z) g1 first known g2) c.deref-6.ensures.value
    c.in_ok-all_rounds.ensures.rounds.0 in
    err_on (TooMany (Conflicting net known g2)) _ c.from_residual-in_err-conflict.result c.in_err-conflict.field-0.0
    (λ n. all_need p c.args.gts.now c.parts-parts.ensures.parts forest c.args.wanted c.args.observer
    (λ e. table_third net trees e c.args.wanted modes g1 d1 (blocks_in bs) are first is known g2 d2 n))
    c.from_residual-in_err-conflict.ensures.1 c.in_err-conflict.ensures

pub returns-in_err-seen-clause-gates : goal.returns-in_err-seen-clause-gates
returns-in_err-seen-clause-gates c =
    let p = c.parts-parts.result.now in
    let net = net_of p in
    let forest = c.args.forest.now in
    let trees = trees_in forest.trees.items in
    let modes = lists_in c.in_ok-modes.modes.items in
    let g1 = gates_in c.modes.new.gates.items in
    let d1 = subst (λ (gs : List flat.Gate). Threads Has_modes (gates_in gs) trees modes g1) c.new-gates.ensures.items
    (subst (λ (ts : List ModeTree). Threads Has_modes (gates_in c.new-gates.result.items) (map tree_in ts) modes g1)
    c.deref-3.ensures.value c.in_ok-modes.ensures.0) in
    let bs = c.in_ok-blocks.blocks.items in
    let are = subst (λ (z : GtsParts). AreBlocks (net_of z) (blocks_in bs)) (sym c.parts-parts.ensures.parts)
    (blocks_here c.parts-parts.result.now c.args.gts.now c.parts-parts.ensures.parts c.in_ok-index.index.flows.items
    c.deref.result.now c.deref.ensures.value c.in_ok-index.ensures.flows c.in_ok-plan.plan.blocks.items
    c.deref-2.result.now c.deref-2.ensures.value c.in_ok-plan.ensures.blocks (blocks_in bs) c.in_ok-blocks.ensures) in
    let first = row_at c.in_ok-rows.rows.items in
    let is = c.in_ok-rows.ensures.reading
    ∙ ap (λ (ts : List ModeTree). first_reading (trees_in ts) modes 0 (variables_from 0 c.deref-4.result.now))
    c.deref-5.ensures.value
    ∙ ap (λ (vs : List Variable). first_reading trees modes 0 (variables_from 0 vs)) c.deref-4.ensures.value in
    let known = row_at c.all_rounds.new.rows.items in
    let g2 = gates_in c.all_rounds.new.gates.items in
    let d2 = subst (λ (z : List (Vec ℕ Global)). All_rounds net (blocks_in z) g1 first known g2) c.deref-6.ensures.value
    c.in_ok-all_rounds.ensures.rounds.0 in
    let r : Reading × Operand = (row_at c.conflicts.new.rows.items, operand_of c.in_ok-conflict.conflict) in
    let g3 = gates_in c.conflicts.new.gates.items in
    let o = c.index.result.now in
    let under = subst (λ (z : GtsParts). c.args.observer < length z.observers.items) (sym c.parts-parts.ensures.parts)
    c.requires.observer in
    let st = stands_item p.observers.items c.args.observer o under c.index.ensures in
    err_on (TooMany (λ es h. Builds (row_at c.deref-7.result.now) g3 (out-Expr ℕ (numbered o.value))
    (record { entries = es; gates = h }))) _ c.from_residual-in_err-seen.result c.in_err-seen.field-0.0
    (λ n. one_needs p c.args.gts.now c.parts-parts.ensures.parts forest c.args.wanted c.args.observer o st
    (table_fourth net trees (numbered o.value) c.args.wanted modes g1 d1 (blocks_in bs) are first is known g2 d2 r g3
    c.in_ok-conflict.ensures.0
    (subst (λ (z : List Entries). TooMany (λ es h. Builds (row_at z) g3 (out-Expr ℕ (numbered o.value))
    (record { entries = es; gates = h }))) c.deref-7.ensures.value n)))
    c.from_residual-in_err-seen.ensures.1 c.in_err-seen.ensures

pub returns-clause-table : goal.returns-clause-table
returns-clause-table c =
    let p = c.parts-parts.result.now in
    let net = net_of p in
    let forest = c.args.forest.now in
    let trees = trees_in forest.trees.items in
    let modes = lists_in c.in_ok-modes.modes.items in
    let g1 = gates_in c.modes.new.gates.items in
    let d1 = subst (λ (gs : List flat.Gate). Threads Has_modes (gates_in gs) trees modes g1) c.new-gates.ensures.items
    (subst (λ (ts : List ModeTree). Threads Has_modes (gates_in c.new-gates.result.items) (map tree_in ts) modes g1)
    c.deref-3.ensures.value c.in_ok-modes.ensures.0) in
    let bs = c.in_ok-blocks.blocks.items in
    let are = subst (λ (z : GtsParts). AreBlocks (net_of z) (blocks_in bs)) (sym c.parts-parts.ensures.parts)
    (blocks_here c.parts-parts.result.now c.args.gts.now c.parts-parts.ensures.parts c.in_ok-index.index.flows.items
    c.deref.result.now c.deref.ensures.value c.in_ok-index.ensures.flows c.in_ok-plan.plan.blocks.items
    c.deref-2.result.now c.deref-2.ensures.value c.in_ok-plan.ensures.blocks (blocks_in bs) c.in_ok-blocks.ensures) in
    let first = row_at c.in_ok-rows.rows.items in
    let is = c.in_ok-rows.ensures.reading
    ∙ ap (λ (ts : List ModeTree). first_reading (trees_in ts) modes 0 (variables_from 0 c.deref-4.result.now))
    c.deref-5.ensures.value
    ∙ ap (λ (vs : List Variable). first_reading trees modes 0 (variables_from 0 vs)) c.deref-4.ensures.value in
    let known = row_at c.all_rounds.new.rows.items in
    let g2 = gates_in c.all_rounds.new.gates.items in
    let d2 = subst (λ (z : List (Vec ℕ Global)). All_rounds net (blocks_in z) g1 first known g2) c.deref-6.ensures.value
    c.in_ok-all_rounds.ensures.rounds.0 in
    let r : Reading × Operand = (row_at c.conflicts.new.rows.items, operand_of c.in_ok-conflict.conflict) in
    let g3 = gates_in c.conflicts.new.gates.items in
    let o = c.index.result.now in
    let under = subst (λ (z : GtsParts). c.args.observer < length z.observers.items) (sym c.parts-parts.ensures.parts)
    c.requires.observer in
    let st = stands_item p.observers.items c.args.observer o under c.index.ensures in
    let es = row_in c.in_ok-seen.seen in
    let h = gates_in c.built.new.gates.items in
    let seen = subst (λ (z : List Entries). Builds (row_at z) g3 (out-Expr ℕ (numbered o.value))
    (record { entries = es; gates = h })) c.deref-7.ensures.value c.in_ok-seen.ensures.0 in
    let made = table_made net trees (numbered o.value) c.args.wanted modes g1 d1 (blocks_in bs) are first is known g2 d2
    r
    g3 c.in_ok-conflict.ensures.0 es h seen in
    let top = c.operand_for-top.ensures
    ∙ ap (λ (z : List Entry). e.operand_for (entries_in z) c.args.wanted) c.deref-8.ensures.value in
    let table : Operand → Table = λ z. record { gates = h; conflict = r.1; top = z } in
    one_table p c.args.gts.now c.parts-parts.ensures.parts forest c.args.wanted c.args.observer o st
    (table (operand_of c.operand_for-top.result))
    (subst (λ (z : Operand). IsTable net trees (numbered o.value) c.args.wanted (table z)) (sym top) made)
