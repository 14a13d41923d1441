use Rattle.std.proofs.Common.{◌<◌, ℕ, length, get_or, Option, None, subst, arith}
use Rattle.ar_base.specs.Numbers.{BodyId}
use Rattle.ar_base.proofs.Standing.{stands_get}
use Rattle.ar_base.specs.declared.places.Place.{Place}
use Rattle.ar_syntax.specs.declared.members.Member.{out-Member}
use Rattle.class_table.specs.Earliest.{IsEarliest}
use Rattle.class_table.specs.Members.{owned_at}
use Rattle.class_table.specs.TablesInside.{site_of}
use Rattle.class_table.specs.declared.tables.Owned.{Owned}
use Rattle.class_table.proofs.Looping.{loop_start, loop_next, loop_end}
use Rattle.hierarchy.specs.Listing.{form_of}
use Rattle.bind_names.specs.Breaking.{BreaksOneMember}
use Rattle.bind_names.proofs.Membered.{none_of_forms, one_form, site_to, site_back}
use Rattle.bind_names.proofs.member_rules.in_sites.Goals as goal
use Rattle.bind_names.proofs.member_rules.in_sites.Goals.{in-None, in-Some-Nested, in-Some-Plain}

pub loop-site-init : goal.loop-site-init
loop-site-init c = λ m units u are at. loop_start _ _

pub loop-site-preserved : goal.loop-site-preserved
loop-site-preserved c = λ m units u are at.
    let l : c.loop-site.site-index < length c.args.sites.now = omega arith in
    let none : BodyId × ℕ = (record { n = 0; of = record {} }, 0) in
    let s = stands_get c.args.sites.now c.loop-site.site-index none l in
    let bodies = are.is_tree.table.table.holds.bodies in
    let P = λ (r : Option Place) (o : Option Owned). IsEarliest (BreaksOneMember m c.args.rule u (form_of o)) r in
    let site = site_of (get_or c.args.sites.now c.loop-site.site-index none) in
    let here : P c.match-owned_at.here (owned_at m.declared site) =
    elim c.match-owned_at.branch [
      | in-None w ↦
          (let e = rw c.deref.ensures.value at (w.in-None.ensures m.declared) in
          rw w.here-is (subst (λ (o : Option Owned). P None o) (e bodies) (none_of_forms m c.args.rule u)))
      | in-Some-Nested w ↦
          (let e = rw (c.deref.ensures.value, w.in-Some-Nested.field-0-is) at (w.in-Some-Nested.ensures m.declared) in
          rw w.here-is (subst (λ (o : Option Owned). P None o) (e bodies) (none_of_forms m c.args.rule u)))
      | in-Some-Plain w ↦
          (let e = rw (c.deref.ensures.value, w.in-Some-Plain.field-0-is) at (w.in-Some-Plain.ensures m.declared) in
          rw w.here-is (subst (λ (o : Option Owned). P w.in_member-here.result o) (e bodies)
          (one_form m c.args.rule u (out-Member w.in-Some-Plain.member) w.in_member-here.result
          (w.in_member-here.ensures m units u are at))))
    ] in
    loop_next _ _ _ _ _ _ _ s (c.loop-site.invariant m units u are at) here c.earliest-found.ensures

pub returns : goal.returns
returns c = λ m units u are at. loop_end _ _ _ _ _ (omega arith) (site_to m c.args.rule u _)
    (site_back m c.args.rule u _) (c.loop-site.invariant m units u are at)
