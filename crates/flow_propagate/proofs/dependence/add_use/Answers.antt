use Rattle.std.proofs.Common.{rules, ◌<◌, length, subst, arith}
use Rattle.ar_base.specs.Lists.{Stands}
use Rattle.ar_base.proofs.Standing.{stands_item}
use Rattle.gts_core.specs.declared.system.Assign.{Assign}
use Rattle.flow_propagate.proofs.Putting.{reads_there}
use Rattle.flow_propagate.proofs.Numbered.{read_back}
use Rattle.flow_propagate.proofs.FlowUses.{reads_below, use_not, use_one, target_below}
use Rattle.flow_propagate.proofs.dependence.add_use.Goals as goal

pub index-requires : goal.index-requires
index-requires c = let h = reads_below c.args.parts.now c.args.variable c.args.assign c.requires.sound c.requires.reads in search (rules, h)

pub returns-then-index : goal.returns-then-index
returns-then-index c =
    let p = c.args.parts.now in
    use_not p c.args.variable c.args.assign c.index.result.now c.args.uses.now.items
    (stands_item p.variables.items c.args.variable c.index.result.now
    (reads_below p c.args.variable c.args.assign c.requires.sound c.requires.reads) c.index.ensures) c.if-index.true

pub index-requires-3 : goal.index-requires-3
index-requires-3 c =
    let p = c.args.parts.now in
    let r = read_back p c.args.variable c.args.assign c.requires.reads in
    let is = reads_there p.assigns.items c.args.assign r.assign c.index-2.result.now r.stands c.index-2.ensures in
    let st = subst (λ (z : Assign). Stands p.assigns.items c.args.assign z) is r.stands in
    let h = target_below p c.args.assign c.index-2.result.now c.requires.sound st in
    let k : c.index-2.result.now.target.n < length c.args.places.now.before.items = omega (arith, h, c.requires.places.long) in search (rules, k)

pub index-requires-4 : goal.index-requires-4
index-requires-4 c =
    let h = reads_below c.args.parts.now c.args.variable c.args.assign c.requires.sound c.requires.reads in
    let k : c.args.variable < length c.args.places.now.before.items = omega (arith, h, c.requires.places.long) in search (rules, k)

pub returns : goal.returns
returns c =
    let p = c.args.parts.now in
    let x = c.args.variable in
    let n = c.args.assign in
    let below = reads_below p x n c.requires.sound c.requires.reads in
    let r = read_back p x n c.requires.reads in
    let is = reads_there p.assigns.items n r.assign c.index-2.result.now r.stands c.index-2.ensures in
    let st = subst (λ (z : Assign). Stands p.assigns.items n z) is r.stands in
    let before = c.args.places.now.before.items in
    let h = target_below p n c.index-2.result.now c.requires.sound st in
    let first : c.index-2.result.now.target.n < length before = omega (arith, h, c.requires.places.long) in
    let second : x < length before = omega (arith, below, c.requires.places.long) in
    use_one p x n c.index.result.now c.index-2.result.now before c.requires.sound c.requires.places c.requires.reads
    (stands_item p.variables.items x c.index.result.now below c.index.ensures) c.if-index.false st
    c.index-3.result.now c.index-4.result.now c.args.uses.now.items c.push.new.self.items
    (stands_item before c.index-2.result.now.target.n c.index-3.result.now first c.index-3.ensures)
    (stands_item before x c.index-4.result.now second c.index-4.ensures) c.in_ok-push.ensures.items
