use Rattle.std.proofs.Common.{◌≡◌, ◌∷◌, [], ◌++◌, ◌<◌, ◌+◌, max, sym, ap, ◌∙◌, subst, arith, vec_len, vec_capacity}
use Rattle.zdd_nodes.specs.Nodes.{family}
use Rattle.min_cuts.specs.Sizes.{largest}
use Rattle.min_cuts.proofs.Sizing.{largest-node}
use Rattle.min_cuts.proofs.Walking.{IsDescent, descent_goes}
use Rattle.min_cuts.proofs.Growing.{pushed}
use Rattle.min_cuts.proofs.steps.descend.Goals as goal

pub loop-event-preserved : goal.loop-event-preserved
loop-event-preserved c =
    let s = c.args.store.now in
    let i = c.in-Some.ensures.halves in
    let v = c.loop-event.invariant in
    let n = c.loop-event.number.n in
    let steps = c.loop-event.steps in
    let hi = c.in-Some.hi.n in
    let e : largest (family s n) ≡ max (largest (family s hi) + 1) (largest (family s c.in-Some.lo.n)) =
    ap largest i.is ∙ largest-node c.in-Some.event.n (family s c.in-Some.lo.n) (family s hi) i.hi_some in
    let free : vec_len steps < vec_capacity steps = omega (arith, e, v.room) in
    let done : c.push.new.self.items ≡ steps.items ++ record { event = c.in-Some.event; rest = c.in-Some.lo } ∷ [] =
    pushed c.push.result steps.items c.push.new.self.items (record { event = c.in-Some.event; rest = c.in-Some.lo })
    (c.push.ensures.succeeds free) c.push.ensures.items in
    record {
      in_store = omega (arith, v.in_store, i.hi_before);
      way = subst (λ z. IsDescent s c.args.steps.now.items c.args.from.n z hi) (sym done)
          (descent_goes s c.args.steps.now.items c.args.from.n steps.items n
          (record { event = c.in-Some.event; rest = c.in-Some.lo }) hi i v.way);
      room = omega (arith, e, v.room, c.push.ensures.capacity, c.push.ensures.upper_bound);
      grown = omega (arith, v.grown, c.push.ensures.capacity);
    }
