use Rattle.std.proofs.Common.{◌<◌, refl, arith}
use Rattle.zdd_nodes.proofs.Growing.{Grows-none, Grows-then}
use Rattle.zdd_nodes.proofs.Lists.{node_above}
use Rattle.gate_diagrams.proofs.Adding as a
use Rattle.gate_diagrams.proofs.paths.+with_event.Goals as goal

pub node-requires-then-event-first-clause-hi_above : goal.node-requires-then-event-first-clause-hi_above
node-requires-then-event-first-clause-hi_above t c =
    let i = a.node_here c.store.ensures.same c.in-Some.ensures.halves in
    node_above c.args.ops.now.families c.args.event.n c.args.set.n c.in-Some.first.n _ _ c.if-event-first.true i

pub returns-then-event-first-clause-more : goal.returns-then-event-first-clause-more
returns-then-event-first-clause-more t c = λ s o.
    a.in_front c.args.event.n c.args.ops.now c.node-then-event-first.new.self c.new-then-event-first.result.n
    c.args.set.n s c.node-then-event-first.result c.new-then-event-first.ensures o.is
    c.node-then-event-first.ensures.drawn

pub returns-then-event-first-2-clause-grows : goal.returns-then-event-first-2-clause-grows
returns-then-event-first-2-clause-grows t c = Grows-none (λ h. Unit {0}) c.args.ops.now

pub returns-then-event-first-2-clause-more : goal.returns-then-event-first-2-clause-more
returns-then-event-first-2-clause-more t c = λ s o.
    let i = a.node_here c.store.ensures.same c.in-Some.ensures.halves in
    a.has_event c.args.ops.now c.args.set.n _ _ _ i o.in_store c.args.event.n c.args.set c.if-event-first-2.true refl s
    o

pub with_event-requires : goal.with_event-requires
with_event-requires t c =
    let i = a.node_here c.store.ensures.same c.in-Some.ensures.halves in
    let o = c.requires.one in
    let rest = a.rest_one c.args.ops.now c.args.set.n _ _ _ i o.1.in_store o.0 o.1 in
    (omega (arith, c.decreases, i.hi_before), (c.requires.sound, rest))

pub node-requires-2-clause-hi_in : goal.node-requires-2-clause-hi_in
node-requires-2-clause-hi_in t c =
    let i = a.node_here c.store.ensures.same c.in-Some.ensures.halves in
    let o = c.requires.one in
    let later : c.in-Some.first.n < c.args.event.n = grind (arith, c.if-event-first.false, c.if-event-first-2.false) in
    (a.added c.args.ops.now c.args.set.n _ _ _ i o.1.in_store c.args.event.n later c.with_event.new.ops
    c.in_ok-more.more c.in_ok-more.ensures.more o.0 o.1).1.in_store

pub node-requires-2-clause-hi_above : goal.node-requires-2-clause-hi_above
node-requires-2-clause-hi_above t c =
    let i = a.node_here c.store.ensures.same c.in-Some.ensures.halves in
    let o = c.requires.one in
    let later : c.in-Some.first.n < c.args.event.n = grind (arith, c.if-event-first.false, c.if-event-first-2.false) in
    a.more_above c.args.ops.now c.args.set.n _ _ _ i o.1.in_store c.args.event.n later c.with_event.new.ops
    c.in_ok-more.more c.in_ok-more.ensures.more o.0 o.1

pub returns-clause-grows : goal.returns-clause-grows
returns-clause-grows t c =
    let last = a.extends _ c.with_event.new.ops c.node-2.new.self c.node-2.ensures.drawn.grows in
    Grows-then (λ h. Unit {0}) c.args.ops.now c.with_event.new.ops c.node-2.new.self c.in_ok-more.ensures.grows last

pub returns-clause-more : goal.returns-clause-more
returns-clause-more t c = λ s o.
    let i = a.node_here c.store.ensures.same c.in-Some.ensures.halves in
    let later : c.in-Some.first.n < c.args.event.n = grind (arith, c.if-event-first.false, c.if-event-first-2.false) in
    a.in_rest c.args.ops.now c.args.set.n _ _ _ i o.in_store c.args.event.n later c.with_event.new.ops c.in_ok-more.more
    c.in_ok-more.ensures.more s o c.new-2.result.n c.node-2.new.self c.node-2.result c.new-2.ensures
    c.node-2.ensures.drawn
