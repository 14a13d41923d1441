use Rattle.std.proofs.Common.{◌<◌, ℕ, ◌∙◌, length, get_or, map, List, sym, ap, subst, arith}
use Rattle.std.proofs.lemmas.List.{take_all}
use Rattle.ar_base.specs.Numbers.{BodyId}
use Rattle.ar_base.proofs.Standing.{stands_get}
use Rattle.class_table.specs.Members.{NamedMember, names_of, named_at, owned_at}
use Rattle.class_table.specs.TablesInside.{site_of}
use Rattle.class_table.proofs.Taken.{map_next}
use Rattle.bind_scopes.specs.Members.{AddsMemberNames}
use Rattle.bind_scopes.proofs.NameSets.{adds_none, adds_more, named_more}
use Rattle.bind_scopes.proofs.members.add_sites.Goals as goal
use Rattle.bind_scopes.proofs.members.add_sites.Goals.{in-Some+in_ok-add_member, in_default}

pub loop-site-init : goal.loop-site-init
loop-site-init c = λ d holds known. adds_none c.args.body.n c.args.names.now

pub loop-site-preserved : goal.loop-site-preserved
loop-site-preserved c = λ d holds known.
    let l : c.loop-site.site-index < length c.args.sites.now = omega arith in
    let none : BodyId × ℕ = (record { n = 0; of = record {} }, 0) in
    let st = stands_get c.args.sites.now c.loop-site.site-index none l in
    let e = ap (named_at d) (map_next site_of c.args.sites.now c.loop-site.site-index _ st) ∙ named_more d _ _ in
    let site = site_of (get_or c.args.sites.now c.loop-site.site-index none) in
    let added : AddsMemberNames c.args.body.n (names_of d site (owned_at d site)) c.loop-site.names c.match-owned_at.names =
    elim c.match-owned_at.branch [
      | in-Some+in_ok-add_member w ↦
          (let o = rw c.deref.ensures.value at (w.in-Some.ensures d) in
          let a = rw w.deref-in-Some.ensures.value at (w.in_ok-add_member.ensures d site) in
          rw (← o holds.bodies, w.names-is) (a holds.types known))
      | in_default w ↦
          (let o = rw c.deref.ensures.value at (w.in_default.ensures d) in
          rw (← o holds.bodies, w.names-is) (adds_none c.args.body.n c.loop-site.names))
    ] in
    subst (λ (gs : List NamedMember). AddsMemberNames c.args.body.n gs c.args.names.now c.match-owned_at.names) (sym e)
    (adds_more c.args.body.n _ _ _ _ _ (c.loop-site.invariant d holds known) added)

pub returns : goal.returns
returns c = λ d holds known.
    let e = take_all c.loop-site.site-index c.args.sites.now (omega arith) in
    subst (λ (ss : List (BodyId × ℕ)). AddsMemberNames c.args.body.n (named_at d (map site_of ss)) c.args.names.now
    c.loop-site.names) e (c.loop-site.invariant d holds known)
