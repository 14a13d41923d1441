use Rattle.std.proofs.Common.{◌≡◌, ◌<◌, ◌^◌, None, rules, arith}
use Rattle.mode_diagrams.specs.Lacking.{tree_place_of}
use Rattle.event_order.proofs.Naming.{room, none_put}
use Rattle.event_order.proofs.numbers.Numbers.number_for.Goals as goal

pub overflow_cast-len : goal.overflow_cast-len
overflow_cast-len c =
    let n = c.requires in
    let none : tree_place_of c.args.self.now.numbers c.args.event ≡ None = search rules in
    let fits : c.args.event.n < 2 ^ 32 = omega arith in
    let l = room c.args.self.now.names.items c.args.event n.distinct n.fit
    (none_put c.args.self.now.names.items c.args.self.now.numbers n c.args.event none) fits in
    omega (arith, l, c.len.ensures)
