use Rattle.std.proofs.Common.{ℕ, get_or, rules, arith}
use Rattle.ar_base.specs.Lists.{Stands}
use Rattle.ar_base.proofs.Standing.{stands_get, stands_item, one_here}
use Rattle.flow_propagate.proofs.ReaderPairs.{read_below}
use Rattle.flow_reasons.proofs.Readers.{reader_below}
use Rattle.flow_reasons.proofs.Marking.{target_below}
use Rattle.flow_reasons.proofs.RestRows.{rests_more}
use Rattle.flow_reasons.proofs.resting.rests.Goals as goal

pub index-requires : goal.index-requires
index-requires c =
    let pairs = c.args.pairs.now in
    let i = c.loop-variable.variable-index in
    let q : ℕ × ℕ = get_or pairs i (0, 0) in
    let h = reader_below c.args.parts.now pairs c.requires.pairs q.0 q.1 (one_here pairs i q (stands_get pairs i (0, 0) c.loop-variable-test.true)) in search (rules, h)

pub add_rest-requires-clause-target : goal.add_rest-requires-clause-target
add_rest-requires-clause-target c =
    let pairs = c.args.pairs.now in
    let i = c.loop-variable.variable-index in
    let q : ℕ × ℕ = get_or pairs i (0, 0) in
    let h = reader_below c.args.parts.now pairs c.requires.pairs q.0 q.1
    (one_here pairs i q (stands_get pairs i (0, 0) c.loop-variable-test.true)) in
    let t = target_below c.args.parts.now c.requires.sound q.1 c.index.result.now
    (stands_item c.args.parts.now.assigns.items q.1 c.index.result.now h c.index.ensures) in
    omega (arith, t, c.requires.marks)

pub add_rest-requires-clause-variable : goal.add_rest-requires-clause-variable
add_rest-requires-clause-variable c =
    let pairs = c.args.pairs.now in
    let i = c.loop-variable.variable-index in
    let q : ℕ × ℕ = get_or pairs i (0, 0) in
    let h = read_below c.args.parts.now c.requires.sound pairs c.requires.pairs q
    (one_here pairs i q (stands_get pairs i (0, 0) c.loop-variable-test.true)) in
    omega (arith, h, c.requires.marks)

pub loop-variable-preserved : goal.loop-variable-preserved
loop-variable-preserved c =
    let p = c.args.parts.now in
    let marks = c.args.marks.now in
    let pairs = c.args.pairs.now in
    let i = c.loop-variable.variable-index in
    let q : ℕ × ℕ = get_or pairs i (0, 0) in
    let at : Stands pairs i q = stands_get pairs i (0, 0) c.loop-variable-test.true in
    let h = reader_below p pairs c.requires.pairs q.0 q.1 (one_here pairs i q at) in
    let r = read_below p c.requires.sound pairs c.requires.pairs q (one_here pairs i q at) in
    let st = stands_item p.assigns.items q.1 c.index.result.now h c.index.ensures in
    let t = target_below p c.requires.sound q.1 c.index.result.now st in
    rests_more p marks pairs c.requires.pairs i q.0 q.1 c.loop-variable-test.true at c.index.result.now st
    c.loop-variable.rests.items c.add_rest.new.rests.items
    c.loop-variable.invariant (omega (arith, r, c.requires.marks)) (omega (arith, t, c.requires.marks))
    c.in_ok-add_rest.ensures
