use Rattle.std.proofs.Common.{◌≡◌, ◌<◌, ℕ, ◌++◌, map, take, length, get_or, sym, ◌∙◌, ap, List, arith}
use Rattle.std.proofs.lemmas.List.Concat.{flat_map-append}
use Rattle.std.proofs.lemmas.List.{append-nil}
use Rattle.ar_base.specs.Numbers.{BodyId}
use Rattle.ar_base.proofs.Standing.{stands_get}
use Rattle.class_table.specs.Members.{Site, NamedMember, named_at, names_of, owned_at}
use Rattle.class_table.specs.TablesInside.{site_of}
use Rattle.class_table.proofs.Taken.{map_next}
use Rattle.instantiate.specs.Nodes.{test_of, nodes_of_members}
use Rattle.instantiate.proofs.Noded.{grown, nodes_join}
use Rattle.instantiate.proofs.nodes.add_sites.Goals as goal
use Rattle.instantiate.proofs.nodes.add_sites.Goals.{in-Some+in_ok-add_member, in_default}

pub loop-site-preserved : goal.loop-site-preserved
loop-site-preserved c = λ d holds known.
    let l : c.loop-site.site-index < length c.args.sites.now = omega arith in
    let none : BodyId × ℕ = (record { n = 0; of = record {} }, 0) in
    let s = stands_get c.args.sites.now c.loop-site.site-index none l in
    let e = map_next site_of c.args.sites.now c.loop-site.site-index _ s in
    let before = map site_of (take c.loop-site.site-index c.args.sites.now) in
    let names = λ (t : Site). names_of d t (owned_at d t) in
    let f = flat_map-append names before _ in
    let joined = nodes_join c.args.unit (test_of c.args.listed) (named_at d before) _ in
    let site = site_of (get_or c.args.sites.now c.loop-site.site-index none) in
    let added : c.match-owned_at.nodes.items
    ≡ c.loop-site.nodes.items ++ nodes_of_members c.args.unit (test_of c.args.listed) (names_of d site (owned_at d site)) =
    elim c.match-owned_at.branch [
      | in-Some+in_ok-add_member w ↦
          (let o = rw c.deref.ensures.value at (w.in-Some.ensures d) in
          rw (← o holds.bodies, w.nodes-is) (w.in_ok-add_member.ensures d holds known))
      | in_default w ↦
          (let o = rw c.deref.ensures.value at (w.in_default.ensures d) in
          rw (← o holds.bodies, w.nodes-is) (sym (append-nil c.loop-site.nodes.items)))
    ] in
    grown _ _ _ _ _ _ (c.loop-site.invariant d holds known) added
    (ap (λ (ss : List Site). nodes_of_members c.args.unit (test_of c.args.listed) (named_at d ss)) e
    ∙ (ap (λ (gs : List NamedMember). nodes_of_members c.args.unit (test_of c.args.listed) gs)
    (f ∙ ap (λ (gs : List NamedMember). named_at d before ++ gs) (append-nil _)) ∙ joined))
