use Rattle.std.proofs.Common.{◌+◌, Result, Ok, Err, IfOk, arith}
use Rattle.ar_base.proofs.Standing.{one_here}
use Rattle.mode_trees.specs.Paths.{GetsBelow}
use Rattle.mode_trees.proofs.Leading.{within_next}
use Rattle.mode_trees.proofs.Nexts.{gets_none, gets_next}
use Rattle.mode_trees.proofs.trees.+add_below.Goals as goal

pub returns-in-None : goal.returns-in-None
returns-in-None t c = gets_none c.args.edges.now c.args.mode c.args.low c.args.below.now.items c.in-None.ensures

pub overflow_sub-room : goal.overflow_sub-room
overflow_sub-room t c =
    let h = c.in-Some.ensures in
    let r = within_next c.requires.within c.in-Some.edge (one_here c.args.edges.now h.place c.in-Some.edge h.stands)
    h.leaves.leaves in
    omega (arith, r.0)

pub add_below-requires : goal.add_below-requires
add_below-requires t c =
    let h = c.in-Some.ensures in
    let r = within_next c.requires.within c.in-Some.edge (one_here c.args.edges.now h.place c.in-Some.edge h.stands)
    h.leaves.leaves in
    (omega (arith, r.0), (omega arith, r.1 _ (omega (arith, r.0))))

-- what follows where a call succeeds
if_ok : {T E : Type 0} (P Q : Type 0) (r : Result T E) → (P → Q) → IfOk r (λ _. P) → IfOk r (λ _. Q)
if_ok P Q (Ok x) f h = f h
if_ok P Q (Err e) f h = h

pub returns : goal.returns
returns t c =
    let edges = c.args.edges.now in
    let edge = c.in-Some.edge in
    let old = c.args.below.now.items in
    let deep = c.add_below.new.below.items in
    let new = c.add_below-2.new.below.items in
    if_ok (GetsBelow edges c.args.mode (edge.event.n + 1) deep new) (GetsBelow edges c.args.mode c.args.low old new)
    c.add_below-2.result
    (gets_next edges c.args.mode c.args.low edge old c.push.new.self.items deep new
    c.in-Some.ensures c.in_ok-push.ensures.items c.in_ok-add_below.ensures) c.add_below-2.ensures

pub overflow_cast-edge : goal.overflow_cast-edge
overflow_cast-edge t c = omega arith

pub overflow_add-edge : goal.overflow_add-edge
overflow_add-edge t c = omega arith

pub add_below-requires-2 : goal.add_below-requires-2
add_below-requires-2 t c =
    let late = c.in-Some.ensures.leaves.late in
    (omega (arith, late), (omega arith, c.requires.within))
