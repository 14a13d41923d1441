use Rattle.std.proofs.Common.{ℕ, Bool, List, Option, IfSome, Vec, Global, length, sym, ◌∙◌, ap, subst, arith}
use Rattle.ar_base.specs.Lists.{Stands, IsOneOf}
use Rattle.domains.specs.declared.Value.{Value}
use Rattle.ar_meaning.specs.Facts.{FactOf}
use Rattle.ar_meaning.specs.Flows.{IsBrokenAssign}
use Rattle.ar_meaning.proofs.Found.{holds}
use Rattle.gts_core.specs.Readings.{IsTotal}
use Rattle.gts_core.specs.View.{net_of, assign_of}
use Rattle.flow_changes.specs.Cone.{Knows}
use Rattle.flow_changes.specs.Known.{changing_numbers, Resets}
use Rattle.flow_changes.specs.Picking.{KeepsOthers, AreWithin}
use Rattle.flow_changes.specs.Following.{ClosesUp}
use Rattle.flow_changes.proofs.Begun.{new_inside, within_long}
use Rattle.flow_changes.proofs.Follows.{state_total, inside, first_sound, reset_total, kept_values, follows, kept_through, marks_through}
use Rattle.flow_changes.proofs.following.follow.Goals as goal

pub set_all-requires : goal.set_all-requires
set_all-requires c = λ n o.
    let h = inside c.args.parts.now c.requires.sound c.args.values.now.items c.args.known.now.items
    c.requires.determined c.args.new.now c.requires.new c.args.members.now c.requires.cone n o in
    omega (arith, h, c.requires.determined.long)

pub write_new-requires : goal.write_new-requires
write_new-requires c = within_long (changing_numbers c.args.new.now) c.args.parts.now.variables.items c.args.values.now.items
    (sym c.requires.determined.total.long) (new_inside c.args.parts.now c.args.new.now c.requires.new)

pub mark_new-requires : goal.mark_new-requires
mark_new-requires c = within_long (changing_numbers c.args.new.now) c.args.parts.now.variables.items c.set_all.new.marks.items
    (sym (c.set_all.ensures.keeps.long ∙ c.requires.determined.long))
    (new_inside c.args.parts.now c.args.new.now c.requires.new)

pub close-requires-clause-total : goal.close-requires-clause-total
close-requires-clause-total c =
    subst (λ (z : List Value). IsTotal c.args.parts.now z) (sym c.write_new.ensures)
    (state_total c.args.parts.now c.requires.sound c.args.values.now.items c.args.known.now.items c.requires.determined
    c.args.new.now c.requires.new c.args.members.now c.requires.cone)

pub close-requires-clause-marked : goal.close-requires-clause-marked
close-requires-clause-marked c = c.mark_new.ensures.keeps.long ∙ c.set_all.ensures.keeps.long
    ∙ c.requires.determined.long

pub close-requires-clause-facts : goal.close-requires-clause-facts
close-requires-clause-facts c =
    let p = c.args.parts.now in
    let first = c.mark_new.new.known.items in
    subst (λ (z : List Value). (n : ℕ) (v : Value) → Knows z first n v → FactOf (net_of p) z n v)
    (sym c.write_new.ensures)
    (first_sound p c.requires.sound c.args.values.now.items c.args.known.now.items c.requires.determined c.args.new.now
    c.requires.new c.args.members.now c.requires.cone c.set_all.new.marks.items first c.set_all.ensures
    c.mark_new.ensures)

pub returns-in_err-list-clause-values : goal.returns-in_err-list-clause-values
returns-in_err-list-clause-values c =
    let members = c.args.members.now in
    kept_through c.args.parts.now c.args.values.now.items c.args.new.now members c.requires.cone
    c.close.new.values.items (subst (λ (z : List Value). KeepsOthers members z c.close.new.values.items)
    c.write_new.ensures c.close.ensures.values)

pub returns-in_err-list-clause-marks : goal.returns-in_err-list-clause-marks
returns-in_err-list-clause-marks c =
    marks_through c.args.parts.now c.args.new.now c.args.members.now c.requires.cone c.args.known.now.items
    c.set_all.new.marks.items c.mark_new.new.known.items c.close.new.known.items c.set_all.ensures c.mark_new.ensures
    c.close.ensures.marks

pub returns-in_default-clause-values : goal.returns-in_default-clause-values
returns-in_default-clause-values c =
    let members = c.args.members.now in
    kept_through c.args.parts.now c.args.values.now.items c.args.new.now members c.requires.cone
    c.close.new.values.items (subst (λ (z : List Value). KeepsOthers members z c.close.new.values.items)
    c.write_new.ensures c.close.ensures.values)

pub returns-in_default-clause-marks : goal.returns-in_default-clause-marks
returns-in_default-clause-marks c =
    marks_through c.args.parts.now c.args.new.now c.args.members.now c.requires.cone c.args.known.now.items
    c.set_all.new.marks.items c.mark_new.new.known.items c.close.new.known.items c.set_all.ensures c.mark_new.ensures
    c.close.ensures.marks

pub reset-requires-clause-declared : goal.reset-requires-clause-declared
reset-requires-clause-declared c = inside c.args.parts.now c.requires.sound c.args.values.now.items
    c.args.known.now.items c.requires.determined c.args.new.now c.requires.new c.args.members.now c.requires.cone

pub reset-requires-clause-marked : goal.reset-requires-clause-marked
reset-requires-clause-marked c =
    within_long c.args.members.now c.args.parts.now.variables.items c.deref.result.now
    (sym (ap (λ (z : List Bool). length z) c.deref.ensures.value ∙ c.close.ensures.marks.long
    ∙ c.mark_new.ensures.keeps.long ∙ c.set_all.ensures.keeps.long ∙ c.requires.determined.long))
    (inside c.args.parts.now c.requires.sound c.args.values.now.items c.args.known.now.items c.requires.determined
    c.args.new.now c.requires.new c.args.members.now c.requires.cone)

pub reset-requires-clause-within : goal.reset-requires-clause-within
reset-requires-clause-within c =
    let total : IsTotal c.args.parts.now c.write_new.new.values.items =
    subst (λ (z : List Value). IsTotal c.args.parts.now z) (sym c.write_new.ensures)
    (state_total c.args.parts.now c.requires.sound c.args.values.now.items c.args.known.now.items c.requires.determined
    c.args.new.now c.requires.new c.args.members.now c.requires.cone) in
    within_long c.args.members.now c.args.parts.now.variables.items c.close.new.values.items
    (sym (c.close.ensures.values.long ∙ total.long))
    (inside c.args.parts.now c.requires.sound c.args.values.now.items c.args.known.now.items c.requires.determined
    c.args.new.now c.requires.new c.args.members.now c.requires.cone)

pub all_hold-requires-clause-total : goal.all_hold-requires-clause-total
all_hold-requires-clause-total c =
    let p = c.args.parts.now in
    let old = c.args.values.now.items in
    let known = c.args.known.now.items in
    let new = c.args.new.now in
    let members = c.args.members.now in
    let plan = c.args.plan.now in
    let cleared = c.set_all.new.marks.items in
    let first = c.mark_new.new.known.items in
    let closed = c.close.new.values.items in
    let marked = c.close.new.known.items in
    let values = c.reset.new.values.items in
    let list = c.in-Some.list.items in
    let of_values = subst (λ (z : List Value). KeepsOthers members z closed) c.write_new.ensures
    c.close.ensures.values in
    let told = subst (λ (o : Option (Vec ℕ Global)). IfSome o
    (λ (list : Vec ℕ Global). ClosesUp p plan members c.write_new.new.values.items first closed marked
    list.items)) c.in-Some.is c.in_ok-list.ensures.closes in
    let up = subst (λ (z : List Value). ClosesUp p plan members z first closed marked list) c.write_new.ensures told in
    let resets = subst (λ (z : List Bool). Resets p members z closed values) c.deref.ensures.value c.reset.ensures in
    subst (λ (z : List Value). IsTotal p z) (sym c.deref-4.ensures.value)
    (reset_total p c.requires.sound old known c.requires.determined new c.requires.new members c.requires.cone
    cleared first c.set_all.ensures c.mark_new.ensures plan c.requires.plan closed marked list of_values
    c.close.ensures.marks up values resets)

pub all_hold-requires-clause-within : goal.all_hold-requires-clause-within
all_hold-requires-clause-within c =
    let p = c.args.parts.now in
    let old = c.args.values.now.items in
    let known = c.args.known.now.items in
    let new = c.args.new.now in
    let members = c.args.members.now in
    let plan = c.args.plan.now in
    let cleared = c.set_all.new.marks.items in
    let first = c.mark_new.new.known.items in
    let closed = c.close.new.values.items in
    let marked = c.close.new.known.items in
    let values = c.reset.new.values.items in
    let list = c.in-Some.list.items in
    let of_values = subst (λ (z : List Value). KeepsOthers members z closed) c.write_new.ensures
    c.close.ensures.values in
    let told = subst (λ (o : Option (Vec ℕ Global)). IfSome o
    (λ (list : Vec ℕ Global). ClosesUp p plan members c.write_new.new.values.items first closed marked
    list.items)) c.in-Some.is c.in_ok-list.ensures.closes in
    let up = subst (λ (z : List Value). ClosesUp p plan members z first closed marked list) c.write_new.ensures told in
    let resets = subst (λ (z : List Bool). Resets p members z closed values) c.deref.ensures.value c.reset.ensures in
    subst (λ (z : List ℕ). AreWithin z c.deref-2.result.now) (sym c.deref-3.ensures.value)
    (subst (λ (z : List ℕ). AreWithin list z) (sym c.deref-2.ensures.value) up.places.within)

pub all_hold-requires-clause-below : goal.all_hold-requires-clause-below
all_hold-requires-clause-below c = λ n o. c.requires.plan.schedule.is_order.below n
    (subst (λ (z : List ℕ). IsOneOf z n) c.deref-2.ensures.value o)

pub returns-clause-values : goal.returns-clause-values
returns-clause-values c =
    let p = c.args.parts.now in
    let old = c.args.values.now.items in
    let known = c.args.known.now.items in
    let new = c.args.new.now in
    let members = c.args.members.now in
    let plan = c.args.plan.now in
    let cleared = c.set_all.new.marks.items in
    let first = c.mark_new.new.known.items in
    let closed = c.close.new.values.items in
    let marked = c.close.new.known.items in
    let values = c.reset.new.values.items in
    let list = c.in-Some.list.items in
    let of_values = subst (λ (z : List Value). KeepsOthers members z closed) c.write_new.ensures
    c.close.ensures.values in
    let told = subst (λ (o : Option (Vec ℕ Global)). IfSome o
    (λ (list : Vec ℕ Global). ClosesUp p plan members c.write_new.new.values.items first closed marked
    list.items)) c.in-Some.is c.in_ok-list.ensures.closes in
    let up = subst (λ (z : List Value). ClosesUp p plan members z first closed marked list) c.write_new.ensures told in
    let resets = subst (λ (z : List Bool). Resets p members z closed values) c.deref.ensures.value c.reset.ensures in
    kept_values p c.requires.sound old known c.requires.determined new c.requires.new members c.requires.cone cleared
    first c.set_all.ensures c.mark_new.ensures plan c.requires.plan closed marked list of_values
    c.close.ensures.marks up values resets

pub returns-clause-marks : goal.returns-clause-marks
returns-clause-marks c = marks_through c.args.parts.now c.args.new.now c.args.members.now c.requires.cone
    c.args.known.now.items c.set_all.new.marks.items c.mark_new.new.known.items c.close.new.known.items
    c.set_all.ensures c.mark_new.ensures c.close.ensures.marks

pub returns-clause-follows : goal.returns-clause-follows
returns-clause-follows c = λ e.
    let p = c.args.parts.now in
    let old = c.args.values.now.items in
    let known = c.args.known.now.items in
    let new = c.args.new.now in
    let members = c.args.members.now in
    let plan = c.args.plan.now in
    let cleared = c.set_all.new.marks.items in
    let first = c.mark_new.new.known.items in
    let closed = c.close.new.values.items in
    let marked = c.close.new.known.items in
    let values = c.reset.new.values.items in
    let list = c.in-Some.list.items in
    let of_values = subst (λ (z : List Value). KeepsOthers members z closed) c.write_new.ensures
    c.close.ensures.values in
    let told = subst (λ (o : Option (Vec ℕ Global)). IfSome o
    (λ (list : Vec ℕ Global). ClosesUp p plan members c.write_new.new.values.items first closed marked
    list.items)) c.in-Some.is c.in_ok-list.ensures.closes in
    let up = subst (λ (z : List Value). ClosesUp p plan members z first closed marked list) c.write_new.ensures told in
    let resets = subst (λ (z : List Bool). Resets p members z closed values) c.deref.ensures.value c.reset.ensures in
    follows p c.requires.sound old known c.requires.determined new c.requires.new members c.requires.cone cleared first
    c.set_all.ensures c.mark_new.ensures plan c.requires.plan closed marked list of_values c.close.ensures.marks up
    values resets
    (λ q n a o sq sa b. holds _ c.all_hold.result e c.all_hold.ensures q n a
    (subst (λ (z : List ℕ). IsOneOf z q) (sym c.deref-3.ensures.value) o)
    (subst (λ (z : List ℕ). Stands z q n) (sym c.deref-2.ensures.value) sq) sa
    (subst (λ (z : List Value). IsBrokenAssign (net_of p) z (assign_of a)) (sym c.deref-4.ensures.value) b))
