use Rattle.std.proofs.Common.{Option, OnOk, [], refl, sym, subst}
use Rattle.class_table.specs.declared.tables.Owned.{Owned}
use Rattle.hierarchy.specs.Listing.{form_of}
use Rattle.bind_names.specs.Gathering.{AddsMembers}
use Rattle.bind_names.specs.Ways.{AreMembersOfUnit}
use Rattle.bind_names.proofs.Gathered.{members_idle}
use Rattle.bind_names.proofs.gathering.add_at.Goals as goal

pub returns-in-None : goal.returns-in-None
returns-in-None c = λ m units u st at mem.
    let e = rw c.deref.ensures.value at (c.in-None.ensures m.declared) in
    let events = c.args.events.now.items in
    subst (λ (o : Option Owned). AddsMembers m units c.args.scopes.now.tree.now u (form_of o) events events)
    (e st.are.is_tree.table.table.holds.bodies)
    (members_idle m units c.args.scopes.now.tree.now u [] events (λ n t s q. refl))

pub returns-in-Some-Nested : goal.returns-in-Some-Nested
returns-in-Some-Nested c = λ m units u st at mem.
    let e = rw (c.deref.ensures.value, c.in-Some-Nested.field-0-is) at (c.in-Some-Nested.ensures m.declared) in
    let events = c.args.events.now.items in
    subst (λ (o : Option Owned). AddsMembers m units c.args.scopes.now.tree.now u (form_of o) events events)
    (e st.are.is_tree.table.table.holds.bodies)
    (members_idle m units c.args.scopes.now.tree.now u [] events (λ n t s q. refl))

pub returns-in-Some-Plain : goal.returns-in-Some-Plain
returns-in-Some-Plain c = λ m units u st at mem.
    let e = rw (c.deref.ensures.value, c.in-Some-Plain.field-0-is) at (c.in-Some-Plain.ensures m.declared) in
    let same = e st.are.is_tree.table.table.holds.bodies in
    subst (λ (o : Option Owned). OnOk c.add.result (AddsMembers m units c.args.scopes.now.tree.now u (form_of o)
    c.args.events.now.items c.add.new.events.items)) same
    (c.add.ensures m units u st at (subst (λ (o : Option Owned). AreMembersOfUnit m u (form_of o)) (sym same) mem))
