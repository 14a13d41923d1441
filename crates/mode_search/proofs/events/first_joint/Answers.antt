use Rattle.std.proofs.Common.{◌≡◌, ◌<◌, ◌≤◌, List, ℕ, length, get_or, subst, sym, arith}
use Rattle.ar_base.specs.Numbers.{WayId}
use Rattle.ar_base.proofs.Standing.{stands_within, stands_item}
use Rattle.ar_base.proofs.Items.{before_more}
use Rattle.gts_core.specs.declared.system.Event.{Event}
use Rattle.mode_search.specs.Events.{HasJoint}
use Rattle.mode_search.proofs.Marking.{joint_at}
use Rattle.mode_search.proofs.events.first_joint.Goals as goal

pub returns-then-has_joint : goal.returns-then-has_joint
returns-then-has_joint c =
    let items = c.deref-event-items.ensures.value in
    let below = subst (λ (z : List Event). c.loop-n.n < length z) items c.loop-n-test.true in
    let is = subst (λ (z : List Event). c.event-item.result ≡ get_or z c.loop-n.n c.event-item.result) items
    c.event-item.is in
    joint_at c.args.parts.now c.loop-n.n c.event-item.result
    (stands_item c.args.parts.now.events.items c.loop-n.n c.event-item.result below is)
    (subst (λ (z : List WayId). HasJoint c.args.parts.now z) c.deref.ensures.value c.if-has_joint.ensures)
    c.loop-n.invariant

pub loop-n-preserved : goal.loop-n-preserved
loop-n-preserved c =
    let items = c.deref-event-items.ensures.value in
    let below = subst (λ (z : List Event). c.loop-n.n < length z) items c.loop-n-test.true in
    let is = subst (λ (z : List Event). c.event-item.result ≡ get_or z c.loop-n.n c.event-item.result) items
    c.event-item.is in
    before_more c.args.parts.now.events.items c.loop-n.n c.event-item.result
    (λ (k : ℕ) (x : Event). HasJoint c.args.parts.now x.ways.items) c.loop-n.invariant
    (stands_item c.args.parts.now.events.items c.loop-n.n c.event-item.result below is)
    (λ h. c.if-has_joint.ensures (subst (λ (z : List WayId). HasJoint c.args.parts.now z) (sym c.deref.ensures.value)
    h))

pub returns : goal.returns
returns c = λ k q. let within = stands_within c.args.parts.now.events.items k q.event q.stands in
    let past = subst (λ (z : List Event). length z ≤ c.loop-n.n) c.deref-event-items.ensures.value
    c.loop-n-test.false in
    c.loop-n.invariant k q.event (omega arith) q.stands q.has
