use Rattle.std.proofs.Common.{◌≡◌, nat_eq, Some, None, Ok, Err, true, false, sym, ap, ◌∙◌, subst, arith}
use Rattle.std.specs.List.{list_any}
use Rattle.std.proofs.lemmas.Result.{err_from_is_err_and}
use Rattle.zdd_nodes.specs.Sections.{IsCounted}
use Rattle.zdd_nodes.specs.Nodes.{NodeId, family}
use Rattle.zdd_nodes.proofs.Growing.{Grows-none, Draws-stays}
use Rattle.zdd_ops.proofs.Held.{handed}
use Rattle.firable_families.specs.Walk.{left as left_of, few_of}
use Rattle.firable_families.proofs.Few.{few_none, few_empty}
use Rattle.gate_diagrams.specs.Walked.{families_left, AreHalves, IsLeastEvent}
use Rattle.gate_diagrams.proofs.Going as g
use Rattle.gate_diagrams.proofs.walk.+walk.Goals as goal

pub returns-then-is_dead-clause-drawn : goal.returns-then-is_dead-clause-drawn
returns-then-is_dead-clause-drawn t c = λ n b.
    let fs = families_left c.args.trees.now c.args.state.left.items in
    let d = g.dead_at c.args.trees.now c.args.state.left.items
    (subst (λ z. list_any (λ (m : NodeId). nat_eq m.n 0) z ≡ true) c.deref.ensures.value
    (sym c.is_dead.ensures ∙ c.if-is_dead.true)) in
    let made = few_of c.args.state.order (left_of n 0 fs) in
    Draws-stays (IsCounted made) made c.args.ops.now c.new.result (omega (arith, c.new.ensures))
    (ap (family c.args.ops.now) c.new.ensures
    ∙ sym (ap (few_of c.args.state.order) (g.left_dead n 0 fs d.0 d.1) ∙ few_none c.args.state.order))

pub returns-in_default-clause-drawn : goal.returns-in_default-clause-drawn
returns-in_default-clause-drawn t c = λ n b.
    let fs = families_left c.args.trees.now c.args.state.left.items in
    let alive = subst (λ z. list_any (λ (m : NodeId). nat_eq m.n 0) z ≡ false) c.deref.ensures.value
    (sym c.is_dead.ensures ∙ c.if-is_dead.false) in
    let none = subst (λ z. IsLeastEvent (families_left c.args.trees.now z) None) c.deref-2.ensures.value
    c.in_default.ensures in
    let made = few_of c.args.state.order (left_of n 0 fs) in
    Draws-stays (IsCounted made) made c.args.ops.now c.new-in_default.result
    (omega (arith, c.new-in_default.ensures))
    (ap (family c.args.ops.now) c.new-in_default.ensures
    ∙ sym (ap (few_of c.args.state.order)
    (g.left_done c.args.trees.now c.requires.sound c.args.state.left.items c.requires.in_store alive none n)
    ∙ few_empty c.args.state.order))

pub walk-requires : goal.walk-requires
walk-requires t c =
    let l = (subst (λ z. IsLeastEvent (families_left c.args.trees.now z) (Some c.in-Some.event)) c.deref-2.ensures.value
    c.in-Some.ensures) in
    let w = (subst (λ z. AreHalves c.args.trees.now c.in-Some.event.n false z c.in_ok-without.without.items)
    c.deref-3.ensures.value c.in_ok-without.ensures) in
    (omega (arith, c.decreases, w.smaller l.0), (c.requires.sound, (w.in_store, (c.requires.walked, c.requires.made))))

pub returns-in_err-lo-clause-drawn : goal.returns-in_err-lo-clause-drawn
returns-in_err-lo-clause-drawn t c =
    let l = (subst (λ z. IsLeastEvent (families_left c.args.trees.now z) (Some c.in-Some.event)) c.deref-2.ensures.value
    c.in-Some.ensures) in
    let w = (subst (λ z. AreHalves c.args.trees.now c.in-Some.event.n false z c.in_ok-without.without.items)
    c.deref-3.ensures.value c.in_ok-without.ensures) in
    let p = err_from_is_err_and c.from_residual-in_err-lo.result c.from_residual-in_err-lo.ensures.1 in
    rw (p.1, p.2) (g.lower_refused c.args.state.order c.args.trees.now c.args.state.left.items c.in-Some.event.n l.0 l.1
    c.in_ok-without.without.items w c.args.ops.now c.walk.new.ops c.in_err-lo.field-0.0 c.in_err-lo.ensures.drawn)

pub returns-in_err-with-clause-drawn : goal.returns-in_err-with-clause-drawn
returns-in_err-with-clause-drawn t c =
    let l = (subst (λ z. IsLeastEvent (families_left c.args.trees.now z) (Some c.in-Some.event)) c.deref-2.ensures.value
    c.in-Some.ensures) in
    let w = (subst (λ z. AreHalves c.args.trees.now c.in-Some.event.n false z c.in_ok-without.without.items)
    c.deref-3.ensures.value c.in_ok-without.ensures) in
    let p = err_from_is_err_and c.from_residual-in_err-with.result c.from_residual-in_err-with.ensures.1 in
    rw (p.1, p.2) (g.lower_memory c.args.state.order c.args.trees.now c.args.state.left.items c.in-Some.event.n l.0 l.1
    c.in_ok-without.without.items w c.args.ops.now c.walk.new.ops (Ok c.in_ok-lo.lo) c.in_ok-lo.ensures.drawn)

pub walk-requires-2 : goal.walk-requires-2
walk-requires-2 t c =
    let l = (subst (λ z. IsLeastEvent (families_left c.args.trees.now z) (Some c.in-Some.event)) c.deref-2.ensures.value
    c.in-Some.ensures) in
    let u = (subst (λ z. AreHalves c.args.trees.now c.in-Some.event.n true z c.in_ok-with.with.items)
    c.deref-4.ensures.value c.in_ok-with.ensures) in (
      omega (arith, c.decreases, u.smaller l.0),
      (c.requires.sound, (u.in_store, (c.in_ok-lo.ensures.walked, c.in_ok-lo.ensures.sound))),
    )

pub returns-in_err-hi-clause-drawn : goal.returns-in_err-hi-clause-drawn
returns-in_err-hi-clause-drawn t c =
    let l = (subst (λ z. IsLeastEvent (families_left c.args.trees.now z) (Some c.in-Some.event)) c.deref-2.ensures.value
    c.in-Some.ensures) in
    let w = (subst (λ z. AreHalves c.args.trees.now c.in-Some.event.n false z c.in_ok-without.without.items)
    c.deref-3.ensures.value c.in_ok-without.ensures) in
    let t = (subst (λ z. AreHalves c.args.trees.now c.in-Some.event.n true z c.in_ok-with.with.items)
    c.deref-4.ensures.value c.in_ok-with.ensures) in
    let p = err_from_is_err_and c.from_residual-in_err-hi.result c.from_residual-in_err-hi.ensures.1 in
    rw (p.1, p.2) (g.upper_refused c.args.state.order c.args.trees.now c.args.state.left.items c.in-Some.event.n l.0 l.1
    c.in_ok-without.without.items w c.args.ops.now c.walk.new.ops (c.is_spent.ensures.no c.if-is_spent.false) c.in_ok-with.with.items t c.in_ok-lo.lo
    c.in_ok-lo.ensures.drawn c.walk-2.new.ops c.in_err-hi.field-0.0
    (subst (λ z. g.DrawsLeft z c.args.trees.now c.in_ok-with.with.items c.walk.new.ops c.walk-2.new.ops
    (Err c.in_err-hi.field-0.0)) c.one_fewer-order.ensures c.in_err-hi.ensures.drawn))

pub node-requires-clause-lo_in : goal.node-requires-clause-lo_in
node-requires-clause-lo_in t c =
    let l = (subst (λ z. IsLeastEvent (families_left c.args.trees.now z) (Some c.in-Some.event)) c.deref-2.ensures.value
    c.in-Some.ensures) in
    let w = (subst (λ z. AreHalves c.args.trees.now c.in-Some.event.n false z c.in_ok-without.without.items)
    c.deref-3.ensures.value c.in_ok-without.ensures) in
    let t = (subst (λ z. AreHalves c.args.trees.now c.in-Some.event.n true z c.in_ok-with.with.items)
    c.deref-4.ensures.value c.in_ok-with.ensures) in
    g.lo_in c.args.state.order c.args.trees.now c.args.state.left.items c.in-Some.event.n l.0 l.1 c.in_ok-without.without.items w c.args.ops.now
    c.walk.new.ops (c.is_spent.ensures.no c.if-is_spent.false) c.in_ok-with.with.items t c.in_ok-lo.lo c.in_ok-lo.ensures.drawn c.walk-2.new.ops c.in_ok-hi.hi
    (subst (λ z. g.DrawsLeft z c.args.trees.now c.in_ok-with.with.items c.walk.new.ops c.walk-2.new.ops (Ok c.in_ok-hi.hi))
    c.one_fewer-order.ensures c.in_ok-hi.ensures.drawn)

pub node-requires-clause-hi_in : goal.node-requires-clause-hi_in
node-requires-clause-hi_in t c =
    let l = (subst (λ z. IsLeastEvent (families_left c.args.trees.now z) (Some c.in-Some.event)) c.deref-2.ensures.value
    c.in-Some.ensures) in
    let w = (subst (λ z. AreHalves c.args.trees.now c.in-Some.event.n false z c.in_ok-without.without.items)
    c.deref-3.ensures.value c.in_ok-without.ensures) in
    let t = (subst (λ z. AreHalves c.args.trees.now c.in-Some.event.n true z c.in_ok-with.with.items)
    c.deref-4.ensures.value c.in_ok-with.ensures) in
    g.hi_in c.args.state.order c.args.trees.now c.args.state.left.items c.in-Some.event.n l.0 l.1 c.in_ok-without.without.items w c.args.ops.now
    c.walk.new.ops (c.is_spent.ensures.no c.if-is_spent.false) c.in_ok-with.with.items t c.in_ok-lo.lo c.in_ok-lo.ensures.drawn c.walk-2.new.ops c.in_ok-hi.hi
    (subst (λ z. g.DrawsLeft z c.args.trees.now c.in_ok-with.with.items c.walk.new.ops c.walk-2.new.ops (Ok c.in_ok-hi.hi))
    c.one_fewer-order.ensures c.in_ok-hi.ensures.drawn)

pub node-requires-clause-lo_above : goal.node-requires-clause-lo_above
node-requires-clause-lo_above t c =
    let l = (subst (λ z. IsLeastEvent (families_left c.args.trees.now z) (Some c.in-Some.event)) c.deref-2.ensures.value
    c.in-Some.ensures) in
    let w = (subst (λ z. AreHalves c.args.trees.now c.in-Some.event.n false z c.in_ok-without.without.items)
    c.deref-3.ensures.value c.in_ok-without.ensures) in
    let t = (subst (λ z. AreHalves c.args.trees.now c.in-Some.event.n true z c.in_ok-with.with.items)
    c.deref-4.ensures.value c.in_ok-with.ensures) in
    g.lo_above c.args.state.order c.args.trees.now c.args.state.left.items c.in-Some.event.n l.0 l.1 c.in_ok-without.without.items w
    c.args.ops.now c.walk.new.ops (c.is_spent.ensures.no c.if-is_spent.false) c.in_ok-with.with.items t c.in_ok-lo.lo c.in_ok-lo.ensures.drawn c.walk-2.new.ops
    c.in_ok-hi.hi (subst (λ z. g.DrawsLeft z c.args.trees.now c.in_ok-with.with.items c.walk.new.ops c.walk-2.new.ops (Ok c.in_ok-hi.hi))
    c.one_fewer-order.ensures c.in_ok-hi.ensures.drawn)

pub node-requires-clause-hi_above : goal.node-requires-clause-hi_above
node-requires-clause-hi_above t c =
    let l = (subst (λ z. IsLeastEvent (families_left c.args.trees.now z) (Some c.in-Some.event)) c.deref-2.ensures.value
    c.in-Some.ensures) in
    let w = (subst (λ z. AreHalves c.args.trees.now c.in-Some.event.n false z c.in_ok-without.without.items)
    c.deref-3.ensures.value c.in_ok-without.ensures) in
    let t = (subst (λ z. AreHalves c.args.trees.now c.in-Some.event.n true z c.in_ok-with.with.items)
    c.deref-4.ensures.value c.in_ok-with.ensures) in
    g.hi_above c.args.state.order c.args.trees.now c.args.state.left.items c.in-Some.event.n l.0 l.1 c.in_ok-without.without.items w
    c.args.ops.now c.walk.new.ops (c.is_spent.ensures.no c.if-is_spent.false) c.in_ok-with.with.items t c.in_ok-lo.lo c.in_ok-lo.ensures.drawn c.walk-2.new.ops
    c.in_ok-hi.hi (subst (λ z. g.DrawsLeft z c.args.trees.now c.in_ok-with.with.items c.walk.new.ops c.walk-2.new.ops (Ok c.in_ok-hi.hi))
    c.one_fewer-order.ensures c.in_ok-hi.ensures.drawn)

pub returns-in_err-made-clause-drawn : goal.returns-in_err-made-clause-drawn
returns-in_err-made-clause-drawn t c =
    let l = (subst (λ z. IsLeastEvent (families_left c.args.trees.now z) (Some c.in-Some.event)) c.deref-2.ensures.value
    c.in-Some.ensures) in
    let w = (subst (λ z. AreHalves c.args.trees.now c.in-Some.event.n false z c.in_ok-without.without.items)
    c.deref-3.ensures.value c.in_ok-without.ensures) in
    let t = (subst (λ z. AreHalves c.args.trees.now c.in-Some.event.n true z c.in_ok-with.with.items)
    c.deref-4.ensures.value c.in_ok-with.ensures) in
    let p = err_from_is_err_and c.from_residual-in_err-made.result c.from_residual-in_err-made.ensures.1 in
    rw (p.1, p.2) (g.whole_drawn c.args.state.order c.args.trees.now c.args.state.left.items c.in-Some.event.n l.0 l.1
    c.in_ok-without.without.items w c.args.ops.now c.walk.new.ops (c.is_spent.ensures.no c.if-is_spent.false) c.in_ok-with.with.items t c.in_ok-lo.lo
    c.in_ok-lo.ensures.drawn c.walk-2.new.ops c.in_ok-hi.hi (subst (λ z. g.DrawsLeft z c.args.trees.now c.in_ok-with.with.items c.walk.new.ops c.walk-2.new.ops (Ok c.in_ok-hi.hi))
    c.one_fewer-order.ensures c.in_ok-hi.ensures.drawn) c.node.new.self _
    c.in_err-made.ensures.drawn)

pub returns-then-is_spent-clause-walked : goal.returns-then-is_spent-clause-walked
returns-then-is_spent-clause-walked t c =
    let l = (subst (λ z. IsLeastEvent (families_left c.args.trees.now z) (Some c.in-Some.event)) c.deref-2.ensures.value
    c.in-Some.ensures) in
    let w = (subst (λ z. AreHalves c.args.trees.now c.in-Some.event.n false z c.in_ok-without.without.items)
    c.deref-3.ensures.value c.in_ok-without.ensures) in
    let drawn = g.lower_whole c.args.state.order c.args.trees.now c.args.state.left.items c.in-Some.event.n l.0 l.1
    c.in_ok-without.without.items w c.args.ops.now c.walk.new.ops (c.is_spent.ensures.yes c.if-is_spent.true)
    (Ok c.in_ok-lo.lo) c.in_ok-lo.ensures.drawn in
    g.more_walked c.args.trees.now c.walk.new.ops c.walk.new.ops c.args.state c.in_ok-lo.lo (λ h. ⊥)
    (Grows-none (λ h. ⊥) c.walk.new.ops)
    (g.drawn_walked c.args.state.order c.args.trees.now c.args.ops.now c.walk.new.ops c.args.state.left.items
    c.in_ok-lo.lo drawn)
    c.walk.new.walked c.remember.new.self c.in_ok-lo.ensures.walked c.remember.ensures.held

pub returns-then-is_spent-clause-drawn : goal.returns-then-is_spent-clause-drawn
returns-then-is_spent-clause-drawn t c =
    let l = (subst (λ z. IsLeastEvent (families_left c.args.trees.now z) (Some c.in-Some.event)) c.deref-2.ensures.value
    c.in-Some.ensures) in
    let w = (subst (λ z. AreHalves c.args.trees.now c.in-Some.event.n false z c.in_ok-without.without.items)
    c.deref-3.ensures.value c.in_ok-without.ensures) in
    λ n b. handed _ _ c.args.ops.now c.walk.new.ops c.in_ok-lo.lo c.remember.result
    (g.lower_whole c.args.state.order c.args.trees.now c.args.state.left.items c.in-Some.event.n l.0 l.1
    c.in_ok-without.without.items w c.args.ops.now c.walk.new.ops (c.is_spent.ensures.yes c.if-is_spent.true)
    (Ok c.in_ok-lo.lo) c.in_ok-lo.ensures.drawn n b)
    c.remember.ensures.number

pub returns-clause-walked : goal.returns-clause-walked
returns-clause-walked t c =
    let l = (subst (λ z. IsLeastEvent (families_left c.args.trees.now z) (Some c.in-Some.event)) c.deref-2.ensures.value
    c.in-Some.ensures) in
    let w = (subst (λ z. AreHalves c.args.trees.now c.in-Some.event.n false z c.in_ok-without.without.items)
    c.deref-3.ensures.value c.in_ok-without.ensures) in
    let t = (subst (λ z. AreHalves c.args.trees.now c.in-Some.event.n true z c.in_ok-with.with.items)
    c.deref-4.ensures.value c.in_ok-with.ensures) in
    let drawn = g.whole_drawn c.args.state.order c.args.trees.now c.args.state.left.items c.in-Some.event.n l.0 l.1
    c.in_ok-without.without.items w c.args.ops.now c.walk.new.ops (c.is_spent.ensures.no c.if-is_spent.false)
    c.in_ok-with.with.items t c.in_ok-lo.lo c.in_ok-lo.ensures.drawn c.walk-2.new.ops c.in_ok-hi.hi
    (subst (λ z. g.DrawsLeft z c.args.trees.now c.in_ok-with.with.items c.walk.new.ops c.walk-2.new.ops (Ok c.in_ok-hi.hi))
    c.one_fewer-order.ensures c.in_ok-hi.ensures.drawn)
    c.node.new.self (Ok c.in_ok-made.made) c.in_ok-made.ensures.drawn in
    g.more_walked c.args.trees.now c.walk-2.new.ops c.node.new.self c.args.state c.in_ok-made.made _
    c.in_ok-made.ensures.drawn.grows
    (g.drawn_walked c.args.state.order c.args.trees.now c.args.ops.now c.node.new.self c.args.state.left.items
    c.in_ok-made.made drawn)
    c.walk-2.new.walked c.remember-2.new.self c.in_ok-hi.ensures.walked c.remember-2.ensures.held

pub returns-clause-drawn : goal.returns-clause-drawn
returns-clause-drawn t c =
    let l = (subst (λ z. IsLeastEvent (families_left c.args.trees.now z) (Some c.in-Some.event)) c.deref-2.ensures.value
    c.in-Some.ensures) in
    let w = (subst (λ z. AreHalves c.args.trees.now c.in-Some.event.n false z c.in_ok-without.without.items)
    c.deref-3.ensures.value c.in_ok-without.ensures) in
    let t = (subst (λ z. AreHalves c.args.trees.now c.in-Some.event.n true z c.in_ok-with.with.items)
    c.deref-4.ensures.value c.in_ok-with.ensures) in
    λ n b. handed _ _ c.args.ops.now c.node.new.self c.in_ok-made.made c.remember-2.result (g.whole_drawn c.args.state.order c.args.trees.now c.args.state.left.items c.in-Some.event.n l.0 l.1 c.in_ok-without.without.items w
    c.args.ops.now c.walk.new.ops (c.is_spent.ensures.no c.if-is_spent.false) c.in_ok-with.with.items t c.in_ok-lo.lo c.in_ok-lo.ensures.drawn c.walk-2.new.ops
    c.in_ok-hi.hi (subst (λ z. g.DrawsLeft z c.args.trees.now c.in_ok-with.with.items c.walk.new.ops c.walk-2.new.ops (Ok c.in_ok-hi.hi))
    c.one_fewer-order.ensures c.in_ok-hi.ensures.drawn) c.node.new.self (Ok c.in_ok-made.made) c.in_ok-made.ensures.drawn n b)
    c.remember-2.ensures.number
