use Rattle.std.proofs.Common.{◌≡◌, ◌+◌, ◌-◌, ◌<◌, length, arith}
use Rattle.module_text.proofs.Reaching.{inner_node, above_reach, own_reach}
use Rattle.module_text.proofs.Spanning.{gains_up}
use Rattle.module_text.proofs.spans.+add_event.Goals as goal

pub add_at-requires-clause-next : goal.add_at-requires-clause-next
add_at-requires-clause-next t c =
    let nodes = c.args.units.now in
    let u = c.args.unit.n in
    let o = c.in-Some.owner in
    let d = inner_node nodes u _ o c.requires.known c.in-Some.is in
    let l = c.requires.owners.each u d.node o d.stands d.owner in
    own_reach nodes u c.args.event (u - 1) d.node o c.args.ranges.now d.stands d.owner (omega (arith, l))
    c.requires.next

pub add_event-requires : goal.add_event-requires
add_event-requires t c =
    let nodes = c.args.units.now in
    let u = c.args.unit.n in
    let o = c.in-Some.owner in
    let d = inner_node nodes u _ o c.requires.known c.in-Some.is in
    let l : o.n < u = c.requires.owners.each u d.node o d.stands d.owner in
    let k = c.requires.known in
    let room : length c.add_at.new.ranges + 1 ≡ length nodes = (let a = c.add_at.ensures.long in let b = c.requires.room in omega (arith, a, b)) in
    let reach = above_reach nodes c.requires.owners u c.args.event (u - 1) d.node o c.args.ranges.now
    c.add_at.new.ranges d.stands d.owner (omega (arith, l)) c.requires.next c.add_at.ensures in
    ((let e = c.decreases in omega (arith, l, e)), (c.requires.owners, (c.requires.small, (omega (arith, l, k), (room, reach)))))

pub returns : goal.returns
returns t c =
    let nodes = c.args.units.now in
    let u = c.args.unit.n in
    let o = c.in-Some.owner in
    let d = inner_node nodes u _ o c.requires.known c.in-Some.is in
    let l = c.requires.owners.each u d.node o d.stands d.owner in
    gains_up nodes u c.args.event (u - 1) d.node o c.args.ranges.now c.add_at.new.ranges c.add_event.new.ranges d.stands
    d.owner (omega (arith, l))
    c.add_at.ensures c.add_event.ensures
