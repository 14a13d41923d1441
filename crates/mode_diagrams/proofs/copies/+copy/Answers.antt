use Rattle.std.proofs.Common.{Ok, get_or, arith}
use Rattle.std.proofs.lemmas.Result.{err_from_is_err_and}
use Rattle.zdd_nodes.proofs.Growing.{Draws-stays, Draws-refused, Draws-after}
use Rattle.zdd_nodes.proofs.Halved as h
use Rattle.zdd_nodes.specs.Nodes.{NodeId}
use Rattle.mode_diagrams.proofs.Copying.{halved, lower, upper, small_same, known_same, copied_grow, copied_set}
use Rattle.mode_diagrams.proofs.copies.+copy.Goals as goal

abbrev nothing : NodeId
nothing = record { n = 0; of = record {} }

pub returns-in_default-clause-drawn : goal.returns-in_default-clause-drawn
returns-in_default-clause-drawn t c =
    Draws-stays _ _ c.args.ops.now c.args.number (omega (arith, c.in_default.ensures.halves))
    (small_same c.args.ops.now c.args.source.now c.args.number.n c.in_default.ensures.halves)

pub returns-then-known-ne0-clause-drawn : goal.returns-then-known-ne0-clause-drawn
returns-then-known-ne0-clause-drawn t c =
    let k = known_same c.args.source.now c.args.ops.now c.args.copies.now c.args.number.n nothing c.requires.number_in
    c.requires.copied c.if-known-ne0.true in
    Draws-stays _ _ c.args.ops.now (get_or c.args.copies.now c.args.number.n nothing) k.0 k.1

pub returns-in_err-lower-clause-drawn : goal.returns-in_err-lower-clause-drawn
returns-in_err-lower-clause-drawn t c =
    let p = err_from_is_err_and c.from_residual.result c.from_residual.ensures.1 in
    rw (p.1, p.2) (Draws-refused _ _ _ c.args.ops.now c.copy.new.ops _
    (lower c.args.source.now c.args.number.n c.in-Some.event.n c.in-Some.lo.n c.in-Some.hi.n c.in-Some.ensures.halves
    c.args.ops.now c.copy.new.ops _ c.in_err-lower.ensures.drawn))

pub returns-in_err-upper-clause-drawn : goal.returns-in_err-upper-clause-drawn
returns-in_err-upper-clause-drawn t c =
    let p = err_from_is_err_and c.from_residual-in_err-upper.result c.from_residual-in_err-upper.ensures.1 in
    let dl = lower c.args.source.now c.args.number.n c.in-Some.event.n c.in-Some.lo.n c.in-Some.hi.n
    c.in-Some.ensures.halves c.args.ops.now c.copy.new.ops (Ok c.in_ok-lower.lower) c.in_ok-lower.ensures.drawn in
    rw (p.1, p.2) (Draws-refused _ _ _ c.args.ops.now c.copy-2.new.ops _
    (Draws-after _ _ c.args.ops.now c.copy.new.ops c.copy-2.new.ops _ dl.grows
    (upper c.args.source.now c.args.number.n c.in-Some.event.n c.in-Some.lo.n c.in-Some.hi.n c.in-Some.ensures.halves
    c.copy.new.ops c.copy-2.new.ops _ c.in_err-upper.ensures.drawn)))

pub node-requires-clause-lo_in : goal.node-requires-clause-lo_in
node-requires-clause-lo_in t c =
    let k = c.in-Some.ensures.halves in
    let dl = lower c.args.source.now c.args.number.n c.in-Some.event.n c.in-Some.lo.n c.in-Some.hi.n k c.args.ops.now
    c.copy.new.ops (Ok c.in_ok-lower.lower) c.in_ok-lower.ensures.drawn in
    let dh = upper c.args.source.now c.args.number.n c.in-Some.event.n c.in-Some.lo.n c.in-Some.hi.n k c.copy.new.ops
    c.copy-2.new.ops (Ok c.in_ok-upper.upper) c.in_ok-upper.ensures.drawn in
    h.lo_in _ _ _ _ _ (halved c.args.source.now c.args.number.n c.in-Some.event.n c.in-Some.lo.n c.in-Some.hi.n k)
    c.args.ops.now c.copy.new.ops c.copy-2.new.ops c.in_ok-lower.lower c.in_ok-upper.upper dl dh

pub node-requires-clause-lo_above : goal.node-requires-clause-lo_above
node-requires-clause-lo_above t c =
    let k = c.in-Some.ensures.halves in
    let dl = lower c.args.source.now c.args.number.n c.in-Some.event.n c.in-Some.lo.n c.in-Some.hi.n k c.args.ops.now
    c.copy.new.ops (Ok c.in_ok-lower.lower) c.in_ok-lower.ensures.drawn in
    let dh = upper c.args.source.now c.args.number.n c.in-Some.event.n c.in-Some.lo.n c.in-Some.hi.n k c.copy.new.ops
    c.copy-2.new.ops (Ok c.in_ok-upper.upper) c.in_ok-upper.ensures.drawn in
    h.lo_above _ _ _ _ _ (halved c.args.source.now c.args.number.n c.in-Some.event.n c.in-Some.lo.n c.in-Some.hi.n k)
    c.args.ops.now c.copy.new.ops c.copy-2.new.ops c.in_ok-lower.lower c.in_ok-upper.upper dl dh

pub node-requires-clause-hi_above : goal.node-requires-clause-hi_above
node-requires-clause-hi_above t c =
    let k = c.in-Some.ensures.halves in
    let dl = lower c.args.source.now c.args.number.n c.in-Some.event.n c.in-Some.lo.n c.in-Some.hi.n k c.args.ops.now
    c.copy.new.ops (Ok c.in_ok-lower.lower) c.in_ok-lower.ensures.drawn in
    let dh = upper c.args.source.now c.args.number.n c.in-Some.event.n c.in-Some.lo.n c.in-Some.hi.n k c.copy.new.ops
    c.copy-2.new.ops (Ok c.in_ok-upper.upper) c.in_ok-upper.ensures.drawn in
    h.hi_above _ _ _ _ _ (halved c.args.source.now c.args.number.n c.in-Some.event.n c.in-Some.lo.n c.in-Some.hi.n k)
    c.args.ops.now c.copy.new.ops c.copy-2.new.ops c.in_ok-lower.lower c.in_ok-upper.upper dl dh

pub returns-in_err-made-clause-drawn : goal.returns-in_err-made-clause-drawn
returns-in_err-made-clause-drawn t c =
    let p = err_from_is_err_and c.from_residual-in_err-made.result c.from_residual-in_err-made.ensures.1 in
    let k = c.in-Some.ensures.halves in
    let dl = lower c.args.source.now c.args.number.n c.in-Some.event.n c.in-Some.lo.n c.in-Some.hi.n k c.args.ops.now
    c.copy.new.ops (Ok c.in_ok-lower.lower) c.in_ok-lower.ensures.drawn in
    let dh = upper c.args.source.now c.args.number.n c.in-Some.event.n c.in-Some.lo.n c.in-Some.hi.n k c.copy.new.ops
    c.copy-2.new.ops (Ok c.in_ok-upper.upper) c.in_ok-upper.ensures.drawn in
    rw (p.1, p.2) (h.done _ _ _ _ _
    (halved c.args.source.now c.args.number.n c.in-Some.event.n c.in-Some.lo.n c.in-Some.hi.n k)
    c.args.ops.now c.copy.new.ops c.copy-2.new.ops c.in_ok-lower.lower c.in_ok-upper.upper dl dh c.node.new.self _
    c.in_err-made.ensures.drawn)

pub returns-clause-drawn : goal.returns-clause-drawn
returns-clause-drawn t c =
    let k = c.in-Some.ensures.halves in
    let dl = lower c.args.source.now c.args.number.n c.in-Some.event.n c.in-Some.lo.n c.in-Some.hi.n k c.args.ops.now
    c.copy.new.ops (Ok c.in_ok-lower.lower) c.in_ok-lower.ensures.drawn in
    let dh = upper c.args.source.now c.args.number.n c.in-Some.event.n c.in-Some.lo.n c.in-Some.hi.n k c.copy.new.ops
    c.copy-2.new.ops (Ok c.in_ok-upper.upper) c.in_ok-upper.ensures.drawn in
    h.done _ _ _ _ _ (halved c.args.source.now c.args.number.n c.in-Some.event.n c.in-Some.lo.n c.in-Some.hi.n k)
    c.args.ops.now c.copy.new.ops c.copy-2.new.ops c.in_ok-lower.lower c.in_ok-upper.upper dl dh c.node.new.self _
    c.in_ok-made.ensures.drawn

pub returns-clause-copied : goal.returns-clause-copied
returns-clause-copied t c =
    let k = c.in-Some.ensures.halves in
    let dl = lower c.args.source.now c.args.number.n c.in-Some.event.n c.in-Some.lo.n c.in-Some.hi.n k c.args.ops.now
    c.copy.new.ops (Ok c.in_ok-lower.lower) c.in_ok-lower.ensures.drawn in
    let dh = upper c.args.source.now c.args.number.n c.in-Some.event.n c.in-Some.lo.n c.in-Some.hi.n k c.copy.new.ops
    c.copy-2.new.ops (Ok c.in_ok-upper.upper) c.in_ok-upper.ensures.drawn in
    let w = h.done _ _ _ _ _ (halved c.args.source.now c.args.number.n c.in-Some.event.n c.in-Some.lo.n c.in-Some.hi.n k)
    c.args.ops.now c.copy.new.ops c.copy-2.new.ops c.in_ok-lower.lower c.in_ok-upper.upper dl dh c.node.new.self _
    c.in_ok-made.ensures.drawn in
    copied_set c.args.source.now c.node.new.self c.copy-2.new.copies c.args.number.n c.in_ok-made.made
    (copied_grow _ c.args.source.now c.copy-2.new.ops c.node.new.self c.copy-2.new.copies
    c.in_ok-made.ensures.drawn.grows c.in_ok-upper.ensures.copied) w.ok.0 w.ok.1
