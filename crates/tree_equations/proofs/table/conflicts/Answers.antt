use Rattle.std.proofs.Common.{◌++◌, ℕ, List, length, map, sym, ap, ◌∙◌, subst, append_assoc, arith}
use Rattle.std.proofs.lemmas.List.{length-map, map-append}
use Rattle.ar_base.specs.Lists.{Along, IsOneOf}
use Rattle.ar_base.proofs.Standing.{stands_within, along_length}
use Rattle.eq_core.specs.Gates.{Operand, Gate, any_of}
use Rattle.eq_core.specs.Views.{operand_of}
use Rattle.eq_core.specs.declared.joints.Operand as sign
use Rattle.eq_build.specs.Views.{gates_in, row_at, operands_in, lists_in, MakesOperand}
use Rattle.gts_core.specs.View.{net_of, assign_of, variables_from}
use Rattle.gts_core.specs.declared.system.Variable.{Variable}
use Rattle.gts_core.specs.declared.system.Assign.{Assign}
use Rattle.eq_build.specs.Steps.{Threads, Sees_two, Sees_outside, Totals_of, Sees_broken, updated, flows_from}
use Rattle.tree_equations.specs.Answers.{TooMany, Entries, signs_in, itself}
use Rattle.tree_equations.specs.Index.{IsLeaving}
use Rattle.tree_equations.specs.Seen.{Conflicting}
use Rattle.tree_equations.proofs.Conflicting.{conflict_first, conflict_second, conflict_third, conflict_fourth, conflict_last, conflict_one}
use Rattle.tree_equations.proofs.Flowing.{threads_long}
use Rattle.tree_equations.proofs.Giving.{gives_on, both_give}
use Rattle.tree_equations.proofs.IndexLemmas.{flows_under}
use Rattle.tree_equations.proofs.TwosSeen.{twos_seen, numbers_are}
use Rattle.tree_equations.proofs.table.conflicts.Goals as goal

pub twos-requires-clause-under : goal.twos-requires-clause-under
twos-requires-clause-under c = λ n o.
    let p = c.args.parts.now in
    let u = flows_under p.variables.items c.requires.index.flows n
    (subst (λ (z : List ℕ). IsOneOf z n) c.deref-2.ensures.value o) in
    let long = c.requires.long in
    let rows = ap length c.deref.ensures.value in omega (arith, u, long, rows)

pub returns-in_err-seen_twice : goal.returns-in_err-seen_twice
returns-in_err-seen_twice c =
    let p = c.args.parts.now in
    let net = net_of p in
    let known = row_at c.args.rows.now.items in
    let g = gates_in c.args.gates.now.items in
    let seen = twos_seen p c.args.index.now.flows.items c.requires.index.flows c.args.rows.now.items c.deref.result.now
    c.deref-2.result.now g c.deref.ensures.value c.deref-2.ensures.value in
    gives_on (λ (o : sign.Operand). (known, operand_of o)) (Conflicting net known g)
    (TooMany (λ os h. Threads (Sees_two (row_at c.deref.result.now)) g (map itself c.deref-2.result.now) os h))
    c.from_residual.result c.in_err-seen_twice.field-0.0 c.twos.new.gates.items
    (λ n. conflict_first net known g (subst (λ (F : List Operand → List Gate → Type 0). TooMany F) seen n))
    c.from_residual.ensures.1 c.in_err-seen_twice.ensures

pub returns-in_err-seen_outside : goal.returns-in_err-seen_outside
returns-in_err-seen_outside c =
    let p = c.args.parts.now in
    let net = net_of p in
    let known = row_at c.args.rows.now.items in
    let g = gates_in c.args.gates.now.items in
    let g2 = gates_in c.twos.new.gates.items in
    let seen = twos_seen p c.args.index.now.flows.items c.requires.index.flows c.args.rows.now.items c.deref.result.now
    c.deref-2.result.now g c.deref.ensures.value c.deref-2.ensures.value in
    let twos = signs_in c.in_ok-seen_twice.seen_twice in
    let d2 = subst (λ (F : List Operand → List Gate → Type 0). F twos g2) seen c.in_ok-seen_twice.ensures.0 in
    let w = c.in_ok-leaving.ensures in
    let along = subst (λ (z : List ℕ). Along (IsLeaving p) z w.leaving) (sym c.deref-4.ensures.value) w.are in
    gives_on (λ (o : sign.Operand). (known, operand_of o)) (Conflicting net known g)
    (TooMany (λ os h. Threads (Sees_outside (row_at c.deref-3.result.now)) g2 w.leaving os h))
    c.from_residual-in_err-seen_outside.result c.in_err-seen_outside.field-0.0 c.outs.new.gates.items
    (λ n. conflict_second net known g twos g2 d2 w.leaving w.all
    (subst (λ (z : List Entries). TooMany (λ os h. Threads (Sees_outside (row_at z)) g2 w.leaving os h))
    c.deref-3.ensures.value n)) c.from_residual-in_err-seen_outside.ensures.1
    (c.in_err-seen_outside.ensures w.leaving along)

pub returns-in_err-new : goal.returns-in_err-new
returns-in_err-new c =
    let p = c.args.parts.now in
    let net = net_of p in
    let known = row_at c.args.rows.now.items in
    let g = gates_in c.args.gates.now.items in
    let g2 = gates_in c.twos.new.gates.items in
    let g3 = gates_in c.outs.new.gates.items in
    let seen = twos_seen p c.args.index.now.flows.items c.requires.index.flows c.args.rows.now.items c.deref.result.now
    c.deref-2.result.now g c.deref.ensures.value c.deref-2.ensures.value in
    let twos = signs_in c.in_ok-seen_twice.seen_twice in
    let d2 = subst (λ (F : List Operand → List Gate → Type 0). F twos g2) seen c.in_ok-seen_twice.ensures.0 in
    let w = c.in_ok-leaving.ensures in
    let along = subst (λ (z : List ℕ). Along (IsLeaving p) z w.leaving) (sym c.deref-4.ensures.value) w.are in
    let outs = signs_in c.in_ok-seen_outside.seen_outside in
    let d3 = subst (λ (z : List Entries). Threads (Sees_outside (row_at z)) g2 w.leaving outs g3)
    c.deref-3.ensures.value
    (c.in_ok-seen_outside.ensures w.leaving along).0 in
    gives_on (λ (o : sign.Operand). (known, operand_of o)) (Conflicting net known g)
    (TooMany (λ ess h. Threads (Totals_of (row_at c.deref-5.result.now)) g3
    (flows_from 0 (variables_from 0 c.deref-6.result.now)) ess h)) c.from_residual-in_err-new.result
    c.in_err-new.field-0.0 c.totals.new.gates.items
    (λ n. conflict_third net known g twos g2 d2 w.leaving w.all outs g3 d3
    (subst (λ (z : List Entries). TooMany
    (λ ess h. Threads (Totals_of (row_at z)) g3 (flows_from 0 net.variables) ess h))
    c.deref-5.ensures.value
    (subst (λ (vs : List Variable). TooMany (λ ess h. Threads (Totals_of (row_at c.deref-5.result.now)) g3
    (flows_from 0 (variables_from 0 vs)) ess h)) c.deref-6.ensures.value n))) c.from_residual-in_err-new.ensures.1
    c.in_err-new.ensures

pub put_rows-requires-clause-long : goal.put_rows-requires-clause-long
put_rows-requires-clause-long c =
    let flows = c.requires.index.flows in
    sym (length-map c.in_ok-new.new.items _) ∙ threads_long c.in_ok-new.ensures.0
    ∙ ap (λ (vs : List Variable). length (flows_from 0 (variables_from 0 vs))) c.deref-6.ensures.value
    ∙ sym (along_length _ _ flows) ∙ sym (ap length c.deref-8.ensures.value)

pub put_rows-requires-clause-under : goal.put_rows-requires-clause-under
put_rows-requires-clause-under c = λ n o.
    let p = c.args.parts.now in
    let u = flows_under p.variables.items c.requires.index.flows n
    (subst (λ (z : List ℕ). IsOneOf z n) c.deref-8.ensures.value o) in
    let long = c.requires.long in omega (arith, u, long)

pub broken-requires-clause-under : goal.broken-requires-clause-under
broken-requires-clause-under c = λ a o.
    let p = c.args.parts.now in
    let h = c.requires.sound.assertions a (subst (λ (z : List Assign). IsOneOf z a) c.deref-10.ensures.value o) in
    let u = stands_within p.variables.items a.target.n h.variable h.stands in
    let long = c.requires.long in
    let kept = c.put_rows.ensures.long in
    let rows = ap length c.deref-9.ensures.value in omega (arith, u, long, kept, rows)

pub returns-in_err-seen_broken : goal.returns-in_err-seen_broken
returns-in_err-seen_broken c =
    let p = c.args.parts.now in
    let net = net_of p in
    let known = row_at c.args.rows.now.items in
    let g = gates_in c.args.gates.now.items in
    let g2 = gates_in c.twos.new.gates.items in
    let g3 = gates_in c.outs.new.gates.items in
    let g4 = gates_in c.totals.new.gates.items in
    let flows = c.args.index.now.flows.items in
    let seen = twos_seen p flows c.requires.index.flows c.args.rows.now.items c.deref.result.now
    c.deref-2.result.now g c.deref.ensures.value c.deref-2.ensures.value in
    let twos = signs_in c.in_ok-seen_twice.seen_twice in
    let d2 = subst (λ (F : List Operand → List Gate → Type 0). F twos g2) seen c.in_ok-seen_twice.ensures.0 in
    let w = c.in_ok-leaving.ensures in
    let along = subst (λ (z : List ℕ). Along (IsLeaving p) z w.leaving) (sym c.deref-4.ensures.value) w.are in
    let outs = signs_in c.in_ok-seen_outside.seen_outside in
    let d3 = subst (λ (z : List Entries). Threads (Sees_outside (row_at z)) g2 w.leaving outs g3)
    c.deref-3.ensures.value
    (c.in_ok-seen_outside.ensures w.leaving along).0 in
    let totals = lists_in c.in_ok-new.new.items in
    let d4 = subst (λ (z : List Entries). Threads (Totals_of (row_at z)) g3 (flows_from 0 net.variables) totals g4)
    c.deref-5.ensures.value
    (subst (λ (vs : List Variable). Threads (Totals_of (row_at c.deref-5.result.now)) g3
    (flows_from 0 (variables_from 0 vs)) totals g4) c.deref-6.ensures.value c.in_ok-new.ensures.0) in
    let total = row_at c.put_rows.new.rows.items in
    let is = c.put_rows.ensures.reading ∙ ap (λ (ns : List ℕ). updated known ns totals)
    (c.deref-8.ensures.value ∙ sym (numbers_are p flows c.requires.index.flows)) in
    gives_on (λ (o : sign.Operand). (total, operand_of o)) (Conflicting net known g)
    (TooMany (λ os h. Threads (Sees_broken (row_at c.deref-9.result.now)) g4 (map assign_of c.deref-10.result.now) os
    h))
    c.from_residual-in_err-seen_broken.result c.in_err-seen_broken.field-0.0 c.broken.new.gates.items
    (λ n. conflict_fourth net known g twos g2 d2 w.leaving w.all outs g3 d3 totals g4 d4 total is
    (subst (λ (z : List Entries). TooMany (λ os h. Threads (Sees_broken (row_at z)) g4 net.assertions os h))
    c.deref-9.ensures.value
    (subst (λ (xs : List Assign). TooMany (λ os h. Threads (Sees_broken (row_at c.deref-9.result.now)) g4
    (map assign_of xs) os h)) c.deref-10.ensures.value n))) c.from_residual-in_err-seen_broken.ensures.1
    c.in_err-seen_broken.ensures

pub returns : goal.returns
returns c =
    let p = c.args.parts.now in
    let net = net_of p in
    let known = row_at c.args.rows.now.items in
    let g = gates_in c.args.gates.now.items in
    let g2 = gates_in c.twos.new.gates.items in
    let g3 = gates_in c.outs.new.gates.items in
    let g4 = gates_in c.totals.new.gates.items in
    let g5 = gates_in c.broken.new.gates.items in
    let flows = c.args.index.now.flows.items in
    let seen = twos_seen p flows c.requires.index.flows c.args.rows.now.items c.deref.result.now
    c.deref-2.result.now g c.deref.ensures.value c.deref-2.ensures.value in
    let twos = signs_in c.in_ok-seen_twice.seen_twice in
    let d2 = subst (λ (F : List Operand → List Gate → Type 0). F twos g2) seen c.in_ok-seen_twice.ensures.0 in
    let w = c.in_ok-leaving.ensures in
    let along = subst (λ (z : List ℕ). Along (IsLeaving p) z w.leaving) (sym c.deref-4.ensures.value) w.are in
    let outs = signs_in c.in_ok-seen_outside.seen_outside in
    let d3 = subst (λ (z : List Entries). Threads (Sees_outside (row_at z)) g2 w.leaving outs g3)
    c.deref-3.ensures.value
    (c.in_ok-seen_outside.ensures w.leaving along).0 in
    let totals = lists_in c.in_ok-new.new.items in
    let d4 = subst (λ (z : List Entries). Threads (Totals_of (row_at z)) g3 (flows_from 0 net.variables) totals g4)
    c.deref-5.ensures.value
    (subst (λ (vs : List Variable). Threads (Totals_of (row_at c.deref-5.result.now)) g3
    (flows_from 0 (variables_from 0 vs)) totals g4) c.deref-6.ensures.value c.in_ok-new.ensures.0) in
    let total = row_at c.put_rows.new.rows.items in
    let is = c.put_rows.ensures.reading ∙ ap (λ (ns : List ℕ). updated known ns totals)
    (c.deref-8.ensures.value ∙ sym (numbers_are p flows c.requires.index.flows)) in
    let broken = signs_in c.in_ok-seen_broken.seen_broken in
    let d5 = subst (λ (z : List Entries). Threads (Sees_broken (row_at z)) g4 net.assertions broken g5)
    c.deref-9.ensures.value
    (subst (λ (xs : List Assign). Threads (Sees_broken (row_at c.deref-9.result.now)) g4 (map assign_of xs) broken g5)
    c.deref-10.ensures.value c.in_ok-seen_broken.ensures.0) in
    let m = any_of g5 (twos ++ (outs ++ broken)) in
    let first = c.in_ok-seen_twice.seen_twice.items in
    let second = c.in_ok-seen_outside.seen_outside.items in
    let third = c.in_ok-seen_broken.seen_broken.items in
    let joined = c.deref-13.ensures.value ∙ c.in_ok-extend_from_slice-2.ensures.items
    ∙ ap (λ (z : List sign.Operand). z ++ c.deref-12.result.now) c.in_ok-extend_from_slice.ensures.items
    ∙ ap (λ (z : List sign.Operand). (first ++ z) ++ c.deref-12.result.now) c.deref-11.ensures.value
    ∙ ap (λ (z : List sign.Operand). (first ++ second) ++ z) c.deref-12.ensures.value
    ∙ append_assoc first second third in
    let all = ap operands_in joined ∙ map-append operand_of first (second ++ third)
    ∙ ap (λ (z : List Operand). twos ++ z) (map-append operand_of second third) in
    both_give total m (Conflicting net known g) c.made.result c.made.new.gates.items
    (conflict_last net known g twos g2 d2 w.leaving w.all outs g3 d3 totals g4 d4 total is broken g5 d5)
    (conflict_one net known g twos g2 d2 w.leaving w.all outs g3 d3 totals g4 d4 total is broken g5 d5)
    (subst (λ (z : List Operand). MakesOperand (any_of g5 z) c.made.result c.made.new.gates.items) all c.made.ensures)
