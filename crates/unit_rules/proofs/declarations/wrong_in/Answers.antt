use Rattle.std.proofs.Common.{◌<◌, ℕ, Option, None, length, subst, arith}
use Rattle.ar_base.specs.Numbers.{BodyId}
use Rattle.ar_base.proofs.Standing.{stands_get}
use Rattle.class_table.proofs.Looping.{loop_start, loop_next, loop_end}
use Rattle.class_table.specs.Earliest.{IsEarliest}
use Rattle.class_table.specs.declared.tables.Owned.{Owned}
use Rattle.hierarchy.specs.Listing.{form_of}
use Rattle.unit_rules.specs.Searched.{BreaksOne}
use Rattle.unit_rules.proofs.Kept.{kept_found}
use Rattle.unit_rules.proofs.WrongSettings.{none_wrong}
use Rattle.unit_rules.proofs.Sited.{site_to, site_back}
use Rattle.unit_rules.proofs.declarations.wrong_in.Goals as goal
use Rattle.unit_rules.proofs.declarations.wrong_in.Goals.{in-Some, in_default}

pub loop-site-init : goal.loop-site-init
loop-site-init c = λ d holds known. loop_start _ _

pub loop-site-preserved : goal.loop-site-preserved
loop-site-preserved c = λ d holds known.
    let l : c.loop-site.site-index < length c.args.sites.now = omega arith in
    let none : BodyId × ℕ = (record { n = 0; of = record {} }, 0) in
    let s = stands_get c.args.sites.now c.loop-site.site-index none l in
    elim c.match-owned_at.branch [
      | in-Some w ↦
          (let e = rw c.deref.ensures.value at (w.in-Some.ensures d) in
          let g = subst (λ (o : Option Owned). IsEarliest (BreaksOne d (form_of o)) w.wrong.result) (e holds.bodies)
          (w.wrong.ensures d holds known) in
          rw w.found-is (loop_next _ _ _ _ _ _ _ s (c.loop-site.invariant d holds known) g w.earliest-found.ensures))
      | in_default w ↦
          (let e = rw c.deref.ensures.value at (w.in_default.ensures d) in
          let g = subst (λ (o : Option Owned). IsEarliest (BreaksOne d (form_of o)) None) (e holds.bodies)
          (none_wrong d) in
          rw w.found-is (loop_next _ _ _ _ _ _ _ s (c.loop-site.invariant d holds known) g (kept_found _)))
    ]

pub returns : goal.returns
returns c = λ d holds known. loop_end _ _ _ _ _ (omega arith) (site_to d _) (site_back d _)
    (c.loop-site.invariant d holds known)
