use Rattle.std.proofs.Common.{◌<◌, ℕ, List, length, get_or, map, take, sym, ◌∙◌, ap, subst, arith}
use Rattle.ar_base.specs.Numbers.{BodyId}
use Rattle.ar_base.proofs.Standing.{stands_get}
use Rattle.class_table.specs.Members.{Site, names_of, named_at, owned_at}
use Rattle.class_table.specs.TablesInside.{site_of}
use Rattle.class_table.proofs.Taken.{map_next}
use Rattle.unit_rules.specs.declared.settables.Settable.{Settable}
use Rattle.unit_rules.specs.Settables.{AddsSettables, settable_entries}
use Rattle.unit_rules.proofs.Keeping.{adds_none, adds_more}
use Rattle.unit_rules.proofs.Entries.{sites_next}
use Rattle.unit_rules.proofs.settables.Settables.add_sites.Goals as goal
use Rattle.unit_rules.proofs.settables.Settables.add_sites.Goals.{in-Some+in_ok-add_member, in_default}

pub loop-site-init : goal.loop-site-init
loop-site-init c = λ d holds known. adds_none _ _

pub loop-site-preserved : goal.loop-site-preserved
loop-site-preserved c = λ d holds known.
    let l : c.loop-site.site-index < length c.args.sites.now = omega arith in
    let none : BodyId × ℕ = (record { n = 0; of = record {} }, 0) in
    let s = stands_get c.args.sites.now c.loop-site.site-index none l in
    let e = map_next site_of c.args.sites.now c.loop-site.site-index _ s in
    let before = map site_of (take c.loop-site.site-index c.args.sites.now) in
    let site = site_of (get_or c.args.sites.now c.loop-site.site-index none) in
    let added : AddsSettables c.args.body.n (settable_entries (names_of d site (owned_at d site))) c.loop-site.self
    c.match-owned_at.self =
    elim c.match-owned_at.branch [
      | in-Some+in_ok-add_member w ↦
          (let o = rw c.deref.ensures.value at (w.in-Some.ensures d) in
          rw (← o holds.bodies, w.self-is) (w.in_ok-add_member.ensures d site holds known))
      | in_default w ↦
          (let o = rw c.deref.ensures.value at (w.in_default.ensures d) in
          rw (← o holds.bodies, w.self-is) (adds_none c.args.body.n c.loop-site.self))
    ] in
    subst (λ (es : List (ℕ × Settable)). AddsSettables c.args.body.n es c.args.self.now c.match-owned_at.self)
    (sym (ap (λ (ss : List Site). settable_entries (named_at d ss)) e ∙ sites_next d before _))
    (adds_more c.args.body.n _ _ _ _ _ (c.loop-site.invariant d holds known) added)
