use Rattle.std.proofs.Common.{◌<◌, List, length, get_or, None, sym, subst, arith}
use Rattle.ar_base.proofs.Standing.{stands_get, stands_within, along_back, along_length}
use Rattle.hierarchy.specs.declared.outline.Outline.{Outline}
use Rattle.class_table.specs.Members.{Site, named_at}
use Rattle.class_table.proofs.Taken.{item_stands}
use Rattle.hierarchy.specs.UnitsInside.{names_in}
use Rattle.unit_rules.specs.Settables.{AddsSettables, settable_entries}
use Rattle.unit_rules.proofs.Entries.{members_there, members_past}
use Rattle.unit_rules.proofs.Keeping.{adds_none, settables_next, settables_all}
use Rattle.unit_rules.proofs.settables.Settables.new.Goals as goal
use Rattle.unit_rules.proofs.settables.Settables.new.Goals.{in-Some+in_ok-add_sites, in_default}

pub loop-outline-preserved : goal.loop-outline-preserved
loop-outline-preserved c = λ m units h.
    let l : c.loop-outline.outline-index < length c.args.outlines.now = omega arith in
    let none : Outline = record {
      name = record { n = 0; of = record {} };
      owner = None;
      body = record { n = 0; of = record {} };
      set_at = None;
    } in
    let s = stands_get c.args.outlines.now c.loop-outline.outline-index none l in
    let w = along_back units c.args.outlines.now h.along c.loop-outline.outline-index _ s in
    let known = rw c.deref.ensures.value at c.in_ok-places.ensures in
    let body = (get_or c.args.outlines.now c.loop-outline.outline-index none).body.n in
    let added : AddsSettables body (settable_entries (names_in m body)) c.loop-outline.settables c.match-get.settables =
    elim c.match-get.branch [
      | in-Some+in_ok-add_sites v ↦
          (let l = rw c.deref-in-loop-outline.ensures.value at v.in-Some.ensures.lookup.3.0 in
          let i = rw c.deref-in-loop-outline.ensures.value at v.in-Some.ensures.lookup.1 in
          let s = item_stands c.args.classes.now.bodies.items body v.in-Some.body.now l i in
          let e = members_there m c.args.classes.now h.table.table body v.in-Some.body.now s in
          let a = rw v.deref-in-Some.ensures.value at (v.in_ok-add_sites.ensures m.declared h.table.table.holds known) in
          rw v.settables-is (subst (λ (ss : List Site). AddsSettables body (settable_entries (named_at m.declared ss))
          c.loop-outline.settables v.add_sites.new.self) e a))
      | in_default v ↦
          (let l = rw c.deref-in-loop-outline.ensures.value at v.in_default.ensures.lookup.3 in
          rw v.settables-is (subst (λ (ss : List Site). AddsSettables body (settable_entries (named_at m.declared ss))
          c.loop-outline.settables c.loop-outline.settables) (sym (members_past m c.args.classes.now h.table.table body l))
          (adds_none body c.loop-outline.settables)))
    ] in
    settables_next m units c.loop-outline.outline-index _ w.0 _ _ w.1 w.2.body (c.loop-outline.invariant m units h) added

pub returns : goal.returns
returns c = λ m units h.
    let n = along_length units c.args.outlines.now h.along in
    settables_all m units h.table.kept c.loop-outline.outline-index _ (λ k u s. (let b = stands_within units k u s in omega arith)) (c.loop-outline.invariant m units h)
