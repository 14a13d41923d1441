use Rattle.std.proofs.Common.{◌≡◌, ◌<◌, [], sym, ap, ◌∙◌, subst, arith}
use Rattle.ar_base.proofs.Results.{ok_map}
use Rattle.zdd_nodes.specs.FamiliesInside.{node, IsAbove}
use Rattle.zdd_nodes.proofs.Laws.{IsAbove-union}
use Rattle.zdd_nodes.specs.Nodes.{Stored, family, IsNode}
use Rattle.zdd_nodes.proofs.Lists.{node_above}
use Rattle.diagram_steps.specs.Putting.{HasWith}
use Rattle.diagram_steps.proofs.Growing.{extends_none, extends_then, extends_by, kept}
use Rattle.diagram_steps.proofs.PutIn.{with_below, with_here, with_above, with_after}
use Rattle.diagram_steps.proofs.putting.+with_event.Goals as goal

pub returns-then-sets-eq0-clause-grows : goal.returns-then-sets-eq0-clause-grows
returns-then-sets-eq0-clause-grows t c = extends_none c.args.ops.now

pub returns-in_default-clause-sets : goal.returns-in_default-clause-sets
returns-in_default-clause-sets t c =
    let s = c.args.ops.now in
    let f = family s c.args.sets.n in
    let one : c.args.sets.n ≡ 1 = grind (arith, c.in_default.ensures.halves, c.if-sets-eq0.false) in
    let above : IsAbove c.args.event.n f = subst (λ k. IsAbove c.args.event.n (family s k)) (sym one) (tt, tt) in
    ok_map c.node.result
    (λ n d. with_below c.args.event.n f (family c.node.new.self n.n) above
    (d.1 ∙ ap (λ x. node c.args.event.n (family s x) f) c.new-none.ensures))
    c.node.ensures.drawn.ok

pub node-requires-then-event-first-clause-hi_above : goal.node-requires-then-event-first-clause-hi_above
node-requires-then-event-first-clause-hi_above t c =
    let i = subst (λ (v : Stored). IsNode v.families c.args.sets.n c.in-Some.first.n c.in-Some.lo.n c.in-Some.hi.n)
    c.store.ensures.same c.in-Some.ensures.halves in
    node_above c.args.ops.now.families c.args.event.n c.args.sets.n c.in-Some.first.n _ _ c.if-event-first.true i

pub returns-then-event-first-clause-sets : goal.returns-then-event-first-clause-sets
returns-then-event-first-clause-sets t c =
    let s = c.args.ops.now in
    let f = family s c.args.sets.n in
    let i = subst (λ (v : Stored). IsNode v.families c.args.sets.n c.in-Some.first.n c.in-Some.lo.n c.in-Some.hi.n)
    c.store.ensures.same c.in-Some.ensures.halves in
    let above = node_above s.families c.args.event.n c.args.sets.n c.in-Some.first.n _ _ c.if-event-first.true i in
    ok_map c.node-then-event-first.result
    (λ n d. with_below c.args.event.n f (family c.node-then-event-first.new.self n.n) above
    (d.1 ∙ ap (λ x. node c.args.event.n (family s x) f) c.new-none.ensures))
    c.node-then-event-first.ensures.drawn.ok

pub node-requires-then-event-first-2-clause-hi_above : goal.node-requires-then-event-first-2-clause-hi_above
node-requires-then-event-first-2-clause-hi_above t c =
    let s = c.args.ops.now in
    let i = subst (λ (v : Stored). IsNode v.families c.args.sets.n c.in-Some.first.n c.in-Some.lo.n c.in-Some.hi.n)
    c.store.ensures.same c.in-Some.ensures.halves in
    let lo = family s c.in-Some.lo.n in
    let hi = family s c.in-Some.hi.n in
    let a = subst (λ v. IsAbove v lo) (sym c.if-event-first-2.true) i.lo_above in
    let b = subst (λ v. IsAbove v hi) (sym c.if-event-first-2.true) i.hi_above in
    subst (IsAbove c.args.event.n) (sym c.in_ok-both.ensures.drawn.ok.1) (IsAbove-union c.args.event.n lo hi a b)

pub returns-then-event-first-2-clause-grows : goal.returns-then-event-first-2-clause-grows
returns-then-event-first-2-clause-grows t c =
    extends_then c.args.ops.now c.union.new.self c.node-then-event-first-2.new.self
    (extends_by _ c.args.ops.now c.union.new.self c.in_ok-both.ensures.drawn.grows)
    (extends_by _ c.union.new.self c.node-then-event-first-2.new.self c.node-then-event-first-2.ensures.drawn.grows)

pub returns-then-event-first-2-clause-sets : goal.returns-then-event-first-2-clause-sets
returns-then-event-first-2-clause-sets t c =
    let s = c.args.ops.now in
    let u = c.union.new.self in
    let e = c.args.event.n in
    let i = subst (λ (v : Stored). IsNode v.families c.args.sets.n c.in-Some.first.n c.in-Some.lo.n c.in-Some.hi.n)
    c.store.ensures.same c.in-Some.ensures.halves in
    let lo = family s c.in-Some.lo.n in
    let hi = family s c.in-Some.hi.n in
    let a = subst (λ v. IsAbove v lo) (sym c.if-event-first-2.true) i.lo_above in
    let b = subst (λ v. IsAbove v hi) (sym c.if-event-first-2.true) i.hi_above in
    let both = c.in_ok-both.ensures.drawn.ok.1 in
    ok_map c.node-then-event-first-2.result
    (λ n d. with_here e (family s c.args.sets.n) (family c.node-then-event-first-2.new.self n.n) lo hi
    (i.is ∙ ap (λ v. node v lo hi) (sym c.if-event-first-2.true)) a b
    (d.1 ∙ ap (λ x. node e (family u x) (family u c.in_ok-both.both.n)) c.new-none.ensures ∙ ap (node e []) both))
    c.node-then-event-first-2.ensures.drawn.ok

pub returns-in_err-upper-clause-grows : goal.returns-in_err-upper-clause-grows
returns-in_err-upper-clause-grows t c =
    extends_then c.args.ops.now c.with_event.new.ops c.with_event-2.new.ops c.in_ok-lower.ensures.grows
    c.in_err-upper.ensures.grows

pub node-requires-2-clause-lo_above : goal.node-requires-2-clause-lo_above
node-requires-2-clause-lo_above t c =
    let s = c.args.ops.now in
    let i = subst (λ (v : Stored). IsNode v.families c.args.sets.n c.in-Some.first.n c.in-Some.lo.n c.in-Some.hi.n)
    c.store.ensures.same c.in-Some.ensures.halves in
    let later : c.in-Some.first.n < c.args.event.n = grind (arith, c.if-event-first.false, c.if-event-first-2.false) in
    subst (IsAbove c.in-Some.first.n)
    (sym (kept c.with_event.new.ops c.with_event-2.new.ops c.in_ok-lower.lower.n c.in_ok-upper.ensures.grows
    c.in_ok-lower.ensures.in_store))
    (with_above c.args.event.n c.in-Some.first.n (family s c.in-Some.lo.n)
    (family c.with_event.new.ops c.in_ok-lower.lower.n) later i.lo_above c.in_ok-lower.ensures.sets)

pub node-requires-2-clause-hi_above : goal.node-requires-2-clause-hi_above
node-requires-2-clause-hi_above t c =
    let s = c.args.ops.now in
    let i = subst (λ (v : Stored). IsNode v.families c.args.sets.n c.in-Some.first.n c.in-Some.lo.n c.in-Some.hi.n)
    c.store.ensures.same c.in-Some.ensures.halves in
    let later : c.in-Some.first.n < c.args.event.n = grind (arith, c.if-event-first.false, c.if-event-first-2.false) in
    let hi = kept s c.with_event.new.ops c.in-Some.hi.n c.in_ok-lower.ensures.grows
    (omega (arith, i.hi_before, c.requires)) in
    with_above c.args.event.n c.in-Some.first.n (family s c.in-Some.hi.n)
    (family c.with_event-2.new.ops c.in_ok-upper.upper.n) later i.hi_above
    (subst (λ z. HasWith c.args.event.n z (family c.with_event-2.new.ops c.in_ok-upper.upper.n)) hi
    c.in_ok-upper.ensures.sets)

pub returns-clause-grows : goal.returns-clause-grows
returns-clause-grows t c =
    extends_then c.args.ops.now c.with_event-2.new.ops c.node-2.new.self
    (extends_then c.args.ops.now c.with_event.new.ops c.with_event-2.new.ops c.in_ok-lower.ensures.grows
    c.in_ok-upper.ensures.grows)
    (extends_by _ c.with_event-2.new.ops c.node-2.new.self c.node-2.ensures.drawn.grows)

pub returns-clause-sets : goal.returns-clause-sets
returns-clause-sets t c =
    let s = c.args.ops.now in
    let w = c.with_event-2.new.ops in
    let i = subst (λ (v : Stored). IsNode v.families c.args.sets.n c.in-Some.first.n c.in-Some.lo.n c.in-Some.hi.n)
    c.store.ensures.same c.in-Some.ensures.halves in
    let later : c.in-Some.first.n < c.args.event.n = grind (arith, c.if-event-first.false, c.if-event-first-2.false) in
    let hi = kept s c.with_event.new.ops c.in-Some.hi.n c.in_ok-lower.ensures.grows
    (omega (arith, i.hi_before, c.requires)) in
    let wl = subst (HasWith c.args.event.n (family s c.in-Some.lo.n))
    (sym (kept c.with_event.new.ops w c.in_ok-lower.lower.n c.in_ok-upper.ensures.grows
    c.in_ok-lower.ensures.in_store)) c.in_ok-lower.ensures.sets in
    let wh = subst (λ z. HasWith c.args.event.n z (family w c.in_ok-upper.upper.n)) hi c.in_ok-upper.ensures.sets in
    ok_map c.node-2.result
    (λ n d. with_after c.args.event.n c.in-Some.first.n (family s c.args.sets.n) (family c.node-2.new.self n.n)
    (family s c.in-Some.lo.n) (family s c.in-Some.hi.n) (family w c.in_ok-lower.lower.n)
    (family w c.in_ok-upper.upper.n) later i.is i.lo_above wl wh d.1)
    c.node-2.ensures.drawn.ok
