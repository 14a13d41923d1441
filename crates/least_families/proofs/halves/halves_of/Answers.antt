use Rattle.std.proofs.Common.{sym, subst}
use Rattle.zdd_nodes.proofs.Lists.{node_above}
use Rattle.least_families.specs.Halves.{AreLeastHalves}
use Rattle.least_families.specs.declared.halves.Halves.{Halves}
use Rattle.least_families.proofs.Cutting.{cut_left, cut_right}
use Rattle.least_families.proofs.halves.halves_of.Goals as goal

pub returns-then-event-other : goal.returns-then-event-other
returns-then-event-other c =
    let fs = c.args.store.now.families in
    subst (λ (z : Halves). AreLeastHalves fs c.args.f.n c.args.g.n z) (sym c.at_event-then-event-other.ensures)
    (cut_left fs c.args.f c.args.g c.new-none.result c.new-none.ensures c.in-Some.event c.in-Some.f0 c.in-Some.f1
    c.in-Some.ensures.halves c.requires.f_in c.requires.g_in
    (node_above fs c.in-Some.event.n c.args.g.n c.in-Some-split-2.other.n c.in-Some-split-2.g0.n c.in-Some-split-2.g1.n
    c.if-event-other.true c.in-Some-split-2.ensures.halves))

pub returns-then-other-event : goal.returns-then-other-event
returns-then-other-event c =
    let fs = c.args.store.now.families in
    subst (λ (z : Halves). AreLeastHalves fs c.args.f.n c.args.g.n z) (sym c.at_event-then-other-event.ensures)
    (cut_right fs c.args.f c.args.g c.new-none.result c.new-none.ensures c.in-Some-split-2.other c.in-Some-split-2.g0
    c.in-Some-split-2.g1 c.in-Some-split-2.ensures.halves c.requires.f_in c.requires.g_in
    (node_above fs c.in-Some-split-2.other.n c.args.f.n c.in-Some.event.n c.in-Some.f0.n c.in-Some.f1.n
    c.if-other-event.true c.in-Some.ensures.halves))
