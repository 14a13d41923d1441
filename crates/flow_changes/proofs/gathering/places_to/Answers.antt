use Rattle.std.proofs.Common.{get_or}
use Rattle.ar_base.proofs.Standing.{stands_get}
use Rattle.flow_changes.proofs.Sorting.{rises_sorted}
use Rattle.flow_changes.proofs.Placing.{places_next, places_done, places_moved}
use Rattle.flow_changes.proofs.gathering.places_to.Goals as goal

pub add_places-requires : goal.add_places-requires
add_places-requires c = λ r o. c.requires r (c.pairs_of.ensures.among r o)

pub loop-n-preserved : goal.loop-n-preserved
loop-n-preserved c =
    let members = c.args.members.now in
    let i = c.loop-n.n-index in
    let e = c.pairs_of.ensures in
    places_next c.args.givers.now.pairs.items c.args.places.now members i (get_or members i 0) c.pairs_of.result.now
    c.loop-n.list.items c.add_places.new.list.items (stands_get members i 0 c.loop-n-test.true) e.among e.all
    e.exact c.in_ok-add_places.ensures c.loop-n.invariant

pub returns-clause-rises : goal.returns-clause-rises
returns-clause-rises c = rises_sorted c.sort_unstable.new.self.items c.sort_unstable.ensures.sorted

pub returns-clause-are : goal.returns-clause-are
returns-clause-are c = places_moved c.args.givers.now.pairs.items c.args.places.now c.args.members.now
    c.loop-n.list.items c.sort_unstable.new.self.items c.sort_unstable.ensures.permutation
    (places_done c.args.givers.now.pairs.items c.args.places.now c.args.members.now c.loop-n.n-index
    c.loop-n.list.items c.loop-n-test.false c.loop-n.invariant)
