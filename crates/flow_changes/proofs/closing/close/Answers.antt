use Rattle.std.proofs.Common.{◌<◌, ℕ, List, length, rules, sym, subst}
use Rattle.ar_base.specs.Lists.{Stands}
use Rattle.ar_base.proofs.Standing.{stands_item, stands_some, one_here}
use Rattle.flow_changes.specs.Following.{ClosesUp}
use Rattle.flow_changes.proofs.Closings.{closing_start, listed, kept_values, kept_marks, closing_more, closing_less, closing_done}
use Rattle.flow_changes.proofs.closing.close.Goals as goal

pub loop-place-init : goal.loop-place-init
loop-place-init c =
    let e = c.in_ok-work.ensures in
    closing_start c.args.parts.now c.args.plan.now c.args.members.now c.args.values.now.items c.args.known.now.items
    c.in_ok-work.work c.requires.plan c.requires.total c.requires.facts e.is e.fresh
    (e.places c.args.parts.now c.requires.plan)

pub index-requires : goal.index-requires
index-requires c =
    let h : c.in-Some.place < length c.args.plan.now.order.items =
    c.loop-place.invariant.places.within c.in-Some.place c.in-Some.ensures.takes.one in
    search (rules, h)

pub look_at-requires-clause-below : goal.look_at-requires-clause-below
look_at-requires-clause-below c =
    let order = c.args.plan.now.order.items in
    let h : c.in-Some.place < length order =
    c.loop-place.invariant.places.within c.in-Some.place c.in-Some.ensures.takes.one in
    c.requires.plan.schedule.is_order.below c.index.result.now
    (one_here order c.in-Some.place c.index.result.now
    (stands_item order c.in-Some.place c.index.result.now h c.index.ensures))

pub look_at-requires-clause-listed : goal.look_at-requires-clause-listed
look_at-requires-clause-listed c =
    let p = c.args.parts.now in
    let plan = c.args.plan.now in
    let v = c.loop-place.invariant in
    let h : c.in-Some.place < length plan.order.items = v.places.within c.in-Some.place c.in-Some.ensures.takes.one in
    let st : Stands plan.order.items c.in-Some.place c.index.result.now =
    stands_item plan.order.items c.in-Some.place c.index.result.now h c.index.ensures in
    listed p c.requires.sound plan c.requires.plan c.args.members.now c.requires.closed c.args.values.now.items
    c.args.known.now.items c.loop-place.values.items c.loop-place.known.items c.loop-place.work v c.take.new.work
    c.in-Some.place c.index.result.now st c.in-Some.ensures.takes

pub returns-in_err-look_at-clause-values : goal.returns-in_err-look_at-clause-values
returns-in_err-look_at-clause-values c =
    let p = c.args.parts.now in
    let plan = c.args.plan.now in
    let v = c.loop-place.invariant in
    let n = c.index.result.now in
    let h : c.in-Some.place < length plan.order.items = v.places.within c.in-Some.place c.in-Some.ensures.takes.one in
    let st : Stands plan.order.items c.in-Some.place n =
    stands_item plan.order.items c.in-Some.place n h c.index.ensures in
    let a = stands_some p.assigns.items n
    (c.requires.plan.schedule.is_order.below n (one_here plan.order.items c.in-Some.place n st)) in
    kept_values p c.requires.sound plan c.requires.plan c.args.members.now c.requires.closed c.args.values.now.items
    c.args.known.now.items c.loop-place.values.items c.loop-place.known.items c.loop-place.work v c.take.new.work
    c.in-Some.place n st c.in-Some.ensures.takes
    c.look_at.new.values.items c.look_at.new.known.items c.look_at.ensures.touches a.0 a.1

pub returns-in_err-look_at-clause-marks : goal.returns-in_err-look_at-clause-marks
returns-in_err-look_at-clause-marks c =
    let p = c.args.parts.now in
    let plan = c.args.plan.now in
    let v = c.loop-place.invariant in
    let n = c.index.result.now in
    let h : c.in-Some.place < length plan.order.items = v.places.within c.in-Some.place c.in-Some.ensures.takes.one in
    let st : Stands plan.order.items c.in-Some.place n =
    stands_item plan.order.items c.in-Some.place n h c.index.ensures in
    let a = stands_some p.assigns.items n
    (c.requires.plan.schedule.is_order.below n (one_here plan.order.items c.in-Some.place n st)) in
    kept_marks p c.requires.sound plan c.requires.plan c.args.members.now c.requires.closed c.args.values.now.items
    c.args.known.now.items c.loop-place.values.items c.loop-place.known.items c.loop-place.work v c.take.new.work
    c.in-Some.place n st c.in-Some.ensures.takes
    c.look_at.new.values.items c.look_at.new.known.items c.look_at.ensures.touches a.0 a.1

pub returns-then-not-branch-clause-values : goal.returns-then-not-branch-clause-values
returns-then-not-branch-clause-values c =
    let p = c.args.parts.now in
    let plan = c.args.plan.now in
    let v = c.loop-place.invariant in
    let n = c.index.result.now in
    let h : c.in-Some.place < length plan.order.items = v.places.within c.in-Some.place c.in-Some.ensures.takes.one in
    let st : Stands plan.order.items c.in-Some.place n =
    stands_item plan.order.items c.in-Some.place n h c.index.ensures in
    let a = stands_some p.assigns.items n
    (c.requires.plan.schedule.is_order.below n (one_here plan.order.items c.in-Some.place n st)) in
    kept_values p c.requires.sound plan c.requires.plan c.args.members.now c.requires.closed c.args.values.now.items
    c.args.known.now.items c.loop-place.values.items c.loop-place.known.items c.loop-place.work v c.take.new.work
    c.in-Some.place n st c.in-Some.ensures.takes
    c.look_at.new.values.items c.look_at.new.known.items c.look_at.ensures.touches a.0 a.1

pub returns-then-not-branch-clause-marks : goal.returns-then-not-branch-clause-marks
returns-then-not-branch-clause-marks c =
    let p = c.args.parts.now in
    let plan = c.args.plan.now in
    let v = c.loop-place.invariant in
    let n = c.index.result.now in
    let h : c.in-Some.place < length plan.order.items = v.places.within c.in-Some.place c.in-Some.ensures.takes.one in
    let st : Stands plan.order.items c.in-Some.place n =
    stands_item plan.order.items c.in-Some.place n h c.index.ensures in
    let a = stands_some p.assigns.items n
    (c.requires.plan.schedule.is_order.below n (one_here plan.order.items c.in-Some.place n st)) in
    kept_marks p c.requires.sound plan c.requires.plan c.args.members.now c.requires.closed c.args.values.now.items
    c.args.known.now.items c.loop-place.values.items c.loop-place.known.items c.loop-place.work v c.take.new.work
    c.in-Some.place n st c.in-Some.ensures.takes
    c.look_at.new.values.items c.look_at.new.known.items c.look_at.ensures.touches a.0 a.1

pub loop-place-preserved : goal.loop-place-preserved
loop-place-preserved c =
    let p = c.args.parts.now in
    let plan = c.args.plan.now in
    let v = c.loop-place.invariant in
    let n = c.index.result.now in
    let h : c.in-Some.place < length plan.order.items = v.places.within c.in-Some.place c.in-Some.ensures.takes.one in
    let st : Stands plan.order.items c.in-Some.place n =
    stands_item plan.order.items c.in-Some.place n h c.index.ensures in
    let a = stands_some p.assigns.items n
    (c.requires.plan.schedule.is_order.below n (one_here plan.order.items c.in-Some.place n st)) in
    closing_more p c.requires.sound plan c.requires.plan c.args.members.now c.requires.closed c.args.values.now.items
    c.args.known.now.items c.loop-place.values.items c.loop-place.known.items c.loop-place.work v c.take.new.work
    c.in-Some.place n st c.in-Some.ensures.takes
    c.look_at.new.values.items c.look_at.new.known.items c.look_at.ensures.touches a.0 a.1 c.look_at.new.work
    (c.in_ok-look_at.ensures.looks c.if-not-branch.false)

pub loop-place-smaller : goal.loop-place-smaller
loop-place-smaller c =
    let p = c.args.parts.now in
    let plan = c.args.plan.now in
    let v = c.loop-place.invariant in
    let n = c.index.result.now in
    let h : c.in-Some.place < length plan.order.items = v.places.within c.in-Some.place c.in-Some.ensures.takes.one in
    let st : Stands plan.order.items c.in-Some.place n =
    stands_item plan.order.items c.in-Some.place n h c.index.ensures in
    let a = stands_some p.assigns.items n
    (c.requires.plan.schedule.is_order.below n (one_here plan.order.items c.in-Some.place n st)) in
    closing_less p c.requires.sound plan c.requires.plan c.args.members.now c.requires.closed c.args.values.now.items
    c.args.known.now.items c.loop-place.values.items c.loop-place.known.items c.loop-place.work v c.take.new.work
    c.in-Some.place n st c.in-Some.ensures.takes
    c.look_at.new.values.items c.look_at.new.known.items c.look_at.ensures.touches a.0 a.1 c.look_at.new.work
    (c.in_ok-look_at.ensures.looks c.if-not-branch.false)

pub returns-clause-closes : goal.returns-clause-closes
returns-clause-closes c =
    let p = c.args.parts.now in
    let plan = c.args.plan.now in
    let members = c.args.members.now in
    subst (λ (z : List ℕ). ClosesUp p plan members c.args.values.now.items c.args.known.now.items
    c.loop-place.values.items c.loop-place.known.items z) (sym c.take.ensures.same)
    (closing_done p plan members c.args.values.now.items c.args.known.now.items c.loop-place.values.items
    c.loop-place.known.items c.loop-place.work c.loop-place.invariant c.in_default.ensures.takes)
