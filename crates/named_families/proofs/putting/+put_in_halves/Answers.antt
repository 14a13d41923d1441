use Rattle.std.proofs.Common.{◌≡◌, Some, rules, sym, subst}
use Rattle.std.specs.HashMap.{get}
use Rattle.zdd_nodes.specs.Nodes.{Stored, family, IsNode}
use Rattle.diagram_steps.specs.Putting.{HasWith}
use Rattle.diagram_steps.proofs.Growing.{extends_none, extends_then, extends_by, kept, still}
use Rattle.named_families.specs.WithEvent.{same_number}
use Rattle.named_families.proofs.Halves.{put_grow, put_more, lower_above, upper_above, halves_have, on_ok}
use Rattle.named_families.proofs.putting.+put_in_halves.Goals as goal

pub returns-in_default-clause-put : goal.returns-in_default-clause-put
returns-in_default-clause-put t c = on_ok _ c.with_event.result
    (put_grow c.args.event.n c.args.ops.now c.with_event.new.ops c.args.put.now c.with_event.ensures.grows
    c.requires.put)

pub returns-in-Some-copied-clause-grows : goal.returns-in-Some-copied-clause-grows
returns-in-Some-copied-clause-grows t c = extends_none c.args.ops.now

pub returns-in-Some-copied-clause-in_store : goal.returns-in-Some-copied-clause-in_store
returns-in-Some-copied-clause-in_store t c =
    let found : get same_number c.args.put.now c.args.sets ≡ Some c.in-Some-copied.number = search rules in
    (c.requires.put.each c.args.sets c.in-Some-copied.number found).new

pub returns-in_err-upper-clause-grows : goal.returns-in_err-upper-clause-grows
returns-in_err-upper-clause-grows t c =
    extends_then c.args.ops.now c.put_in_halves.new.ops c.put_in_halves-2.new.ops c.in_ok-lower.ensures.grows
    c.in_err-upper.ensures.grows

pub node-requires-clause-lo_above : goal.node-requires-clause-lo_above
node-requires-clause-lo_above t c =
    let i = subst
    (λ (v : Stored). IsNode v.families c.args.sets.n c.in-Some.first.n c.in-Some.lo.n c.in-Some.hi.n)
    c.store.ensures.same c.in-Some.ensures.halves.node in
    lower_above c.args.event.n c.args.ops.now c.put_in_halves.new.ops c.put_in_halves-2.new.ops c.args.sets.n
    c.in-Some.first.n c.in-Some.lo.n c.in-Some.hi.n c.in_ok-lower.lower.n c.in_ok-upper.upper.n i c.requires.sets_in
    c.in-Some.ensures.halves.below c.in_ok-lower.ensures.grows c.in_ok-upper.ensures.grows
    c.in_ok-lower.ensures.in_store c.in_ok-lower.ensures.sets c.in_ok-upper.ensures.sets

pub node-requires-clause-hi_above : goal.node-requires-clause-hi_above
node-requires-clause-hi_above t c =
    let i = subst
    (λ (v : Stored). IsNode v.families c.args.sets.n c.in-Some.first.n c.in-Some.lo.n c.in-Some.hi.n)
    c.store.ensures.same c.in-Some.ensures.halves.node in
    upper_above c.args.event.n c.args.ops.now c.put_in_halves.new.ops c.put_in_halves-2.new.ops c.args.sets.n
    c.in-Some.first.n c.in-Some.lo.n c.in-Some.hi.n c.in_ok-lower.lower.n c.in_ok-upper.upper.n i c.requires.sets_in
    c.in-Some.ensures.halves.below c.in_ok-lower.ensures.grows c.in_ok-upper.ensures.grows
    c.in_ok-lower.ensures.in_store c.in_ok-lower.ensures.sets c.in_ok-upper.ensures.sets

pub returns-in_err-made-clause-grows : goal.returns-in_err-made-clause-grows
returns-in_err-made-clause-grows t c =
    extends_then c.args.ops.now c.put_in_halves-2.new.ops c.node.new.self
    (extends_then c.args.ops.now c.put_in_halves.new.ops c.put_in_halves-2.new.ops c.in_ok-lower.ensures.grows
    c.in_ok-upper.ensures.grows)
    (extends_by _ c.put_in_halves-2.new.ops c.node.new.self c.node.ensures.drawn.grows)

pub returns-in_err-insert-clause-grows : goal.returns-in_err-insert-clause-grows
returns-in_err-insert-clause-grows t c =
    extends_then c.args.ops.now c.put_in_halves-2.new.ops c.node.new.self
    (extends_then c.args.ops.now c.put_in_halves.new.ops c.put_in_halves-2.new.ops c.in_ok-lower.ensures.grows
    c.in_ok-upper.ensures.grows)
    (extends_by _ c.put_in_halves-2.new.ops c.node.new.self c.node.ensures.drawn.grows)

pub returns-clause-grows : goal.returns-clause-grows
returns-clause-grows t c =
    extends_then c.args.ops.now c.put_in_halves-2.new.ops c.node.new.self
    (extends_then c.args.ops.now c.put_in_halves.new.ops c.put_in_halves-2.new.ops c.in_ok-lower.ensures.grows
    c.in_ok-upper.ensures.grows)
    (extends_by _ c.put_in_halves-2.new.ops c.node.new.self c.node.ensures.drawn.grows)

pub returns-clause-sets : goal.returns-clause-sets
returns-clause-sets t c =
    let i = subst
    (λ (v : Stored). IsNode v.families c.args.sets.n c.in-Some.first.n c.in-Some.lo.n c.in-Some.hi.n)
    c.store.ensures.same c.in-Some.ensures.halves.node in
    halves_have c.args.event.n c.args.ops.now c.put_in_halves.new.ops c.put_in_halves-2.new.ops c.args.sets.n
    c.in-Some.first.n c.in-Some.lo.n c.in-Some.hi.n c.in_ok-lower.lower.n c.in_ok-upper.upper.n i c.requires.sets_in
    c.in-Some.ensures.halves.below c.in_ok-lower.ensures.grows c.in_ok-upper.ensures.grows
    c.in_ok-lower.ensures.in_store c.in_ok-lower.ensures.sets c.in_ok-upper.ensures.sets
    (family c.node.new.self c.in_ok-made.made.n) c.in_ok-made.ensures.drawn.ok.1

pub returns-clause-put : goal.returns-clause-put
returns-clause-put t c =
    let e = c.args.event.n in
    let s = c.args.ops.now in
    let w = c.put_in_halves.new.ops in
    let v = c.put_in_halves-2.new.ops in
    let u = c.node.new.self in
    let made = family u c.in_ok-made.made.n in
    let i = subst
    (λ (z : Stored). IsNode z.families c.args.sets.n c.in-Some.first.n c.in-Some.lo.n c.in-Some.hi.n)
    c.store.ensures.same c.in-Some.ensures.halves.node in
    let grows = extends_by _ v u c.node.ensures.drawn.grows in
    let all = extends_then s v u (extends_then s w v c.in_ok-lower.ensures.grows c.in_ok-upper.ensures.grows) grows in
    let has = halves_have e s w v c.args.sets.n c.in-Some.first.n c.in-Some.lo.n c.in-Some.hi.n c.in_ok-lower.lower.n
    c.in_ok-upper.upper.n i c.requires.sets_in c.in-Some.ensures.halves.below c.in_ok-lower.ensures.grows
    c.in_ok-upper.ensures.grows c.in_ok-lower.ensures.in_store c.in_ok-lower.ensures.sets c.in_ok-upper.ensures.sets
    made c.in_ok-made.ensures.drawn.ok.1 in
    put_more e u c.args.sets c.in_ok-made.made c.put_in_halves-2.new.put c.insert.new.self
    c.in_ok-insert.ensures.updates
    (record {
      old = still s u c.args.sets.n all c.requires.sets_in;
      new = c.in_ok-made.ensures.drawn.ok.0;
      sets = subst (λ f. HasWith e f made) (sym (kept s u c.args.sets.n all c.requires.sets_in)) has;
    })
    (put_grow e v u c.put_in_halves-2.new.put grows c.in_ok-upper.ensures.put)
