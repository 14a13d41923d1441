use Rattle.std.proofs.Common.{rules, ◌≡◌, ◌<◌, ◌-◌, suc, length, map, refl, ap, ◌∙◌, subst, arith}
use Rattle.std.proofs.lemmas.List.{length-map}
use Rattle.std.proofs.lemmas.Option.{slice_get_read}
use Rattle.std.specs.Int.{from_bool}
use Rattle.ar_base.proofs.Standing.{stands_map}
use Rattle.eq_core.specs.Views.{all_needed, operand_of}
use Rattle.least_families.proofs.Held.{keeps_none, keeps_then}
use Rattle.least_families.proofs.Steps.{operand_kept}
use Rattle.coherent_cuts.proofs.Folding.{IsFolded, folded_none, folded_more, folded_all, tabled_kept}
use Rattle.coherent_cuts.proofs.gates.gate_family.Goals as goal

pub loop-left-init : goal.loop-left-init
loop-left-init c =
    let os = map operand_of c.args.gate.now.operands.items in
    let both : c.eq.result ≡ all_needed c.args.gate.now.joint = search rules in
    folded_none c.args.order c.args.trees.now c.args.table.now c.args.ops.now (all_needed c.args.gate.now.joint) os
    c.len-left.result c.args.memo.now c.new-so_far.result.n
    (let l : c.len-left.result ≡ length os =
    grind (arith, c.len-left.ensures, c.args.gate.now.operands.ok, length-map c.args.gate.now.operands.items operand_of) in l)
    (c.new-so_far.ensures ∙ c.from.ensures ∙ ap from_bool both)
    (keeps_none c.args.ops.now c.args.memo.now c.requires.held)

pub operand_family-requires-clause-table : goal.operand_family-requires-clause-table
operand_family-requires-clause-table c =
    tabled_kept c.args.table.now c.args.ops.now c.loop-left.ops c.loop-left.invariant.kept.grows c.requires.table

pub operand_family-requires-clause-below : goal.operand_family-requires-clause-below
operand_family-requires-clause-below c =
    let items = c.args.gate.now.operands.items in
    let k = c.loop-left.left - 1 in
    let low = c.loop-left.invariant.within in
    let inside : k < length items = omega (arith, low, c.loop-left-test.true, length-map items operand_of) in
    let st = stands_map operand_of items k c.index.result.now
    (slice_get_read items (length items) k c.index.result.now refl inside c.index.ensures) in
    c.requires.below.each (operand_of c.index.result.now) (record { place = k; stands = st })

pub operand_family-requires-clause-plain : goal.operand_family-requires-clause-plain
operand_family-requires-clause-plain c =
    let items = c.args.gate.now.operands.items in
    let k = c.loop-left.left - 1 in
    let low = c.loop-left.invariant.within in
    let inside : k < length items = omega (arith, low, c.loop-left-test.true, length-map items operand_of) in
    let st = stands_map operand_of items k c.index.result.now
    (slice_get_read items (length items) k c.index.result.now refl inside c.index.ensures) in
    c.requires.plain.each (operand_of c.index.result.now) (record { place = k; stands = st })

pub returns-in_err-next-clause-kept : goal.returns-in_err-next-clause-kept
returns-in_err-next-clause-kept c =
    keeps_then c.args.ops.now c.loop-left.ops c.operand_family.new.ops c.loop-left.memo c.operand_family.new.memo
    c.loop-left.invariant.kept c.in_err-next.ensures.kept

pub joined-requires-clause-second : goal.joined-requires-clause-second
joined-requires-clause-second c =
    operand_kept c.loop-left.ops c.operand_family.new.ops c.loop-left.so_far.n c.in_ok-next.ensures.kept.grows
    c.loop-left.invariant.operand

pub returns-in_err-so_far-clause-kept : goal.returns-in_err-so_far-clause-kept
returns-in_err-so_far-clause-kept c =
    keeps_then c.args.ops.now c.operand_family.new.ops c.joined.new.ops c.operand_family.new.memo c.joined.new.memo
    (keeps_then c.args.ops.now c.loop-left.ops c.operand_family.new.ops c.loop-left.memo c.operand_family.new.memo
    c.loop-left.invariant.kept c.in_ok-next.ensures.kept) c.in_err-so_far.ensures.kept

pub loop-left-preserved : goal.loop-left-preserved
loop-left-preserved c =
    let items = c.args.gate.now.operands.items in
    let os = map operand_of items in
    let k = c.loop-left.left - 1 in
    let both = all_needed c.args.gate.now.joint in
    let low = c.loop-left.invariant.within in
    let inside : k < length items = omega (arith, low, c.loop-left-test.true, length-map items operand_of) in
    let up : c.loop-left.left ≡ suc k = omega (arith, c.loop-left-test.true) in
    let st = stands_map operand_of items k c.index.result.now
    (slice_get_read items (length items) k c.index.result.now refl inside c.index.ensures) in
    folded_more c.args.order c.args.trees.now c.args.table.now c.args.ops.now both os k c.loop-left.memo
    c.operand_family.new.memo c.joined.new.memo c.loop-left.ops c.operand_family.new.ops c.joined.new.ops
    c.loop-left.so_far.n c.in_ok-next.next.n c.in_ok-so_far.so_far.n (operand_of c.index.result.now) st
    (subst (λ z. IsFolded c.args.order c.args.trees.now c.args.table.now c.args.ops.now both os z c.loop-left.memo
    c.loop-left.ops c.loop-left.so_far.n) up c.loop-left.invariant)
    c.in_ok-next.ensures.kept c.in_ok-next.ensures.operand c.in_ok-next.ensures.family c.in_ok-so_far.ensures.kept
    c.in_ok-so_far.ensures.joined

pub returns-clause-family : goal.returns-clause-family
returns-clause-family c = λ gates each.
    folded_all c.args.order c.args.trees.now c.args.table.now c.args.ops.now (all_needed c.args.gate.now.joint)
    (map operand_of c.args.gate.now.operands.items) c.loop-left.left c.loop-left.memo c.loop-left.ops
    c.loop-left.so_far.n (omega (arith, c.loop-left-test.false)) c.loop-left.invariant gates each
