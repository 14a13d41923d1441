use Rattle.std.proofs.Common.{ℕ, List, get_or, subst, arith}
use Rattle.std.proofs.Common.{map}
use Rattle.std.proofs.lemmas.List.{take_all, append-nil}
use Rattle.ar_base.specs.Lists.{Along, none}
use Rattle.ar_base.specs.Numbers.{BodyId}
use Rattle.class_table.specs.Members.{named_at, names_of, owned_at}
use Rattle.class_table.specs.TablesInside.{site_of}
use Rattle.unit_walks.specs.Forms.{IsUnitName, AddsUnitNames, only_units}
use Rattle.unit_walks.proofs.NameLists.{site_added}
use Rattle.unit_walks.proofs.indexing.list_body.Goals as goal
use Rattle.unit_walks.proofs.indexing.list_body.Goals.{in-Some+in_ok-add_member, in_default}

pub loop-site-preserved : goal.loop-site-preserved
loop-site-preserved c = λ d k shown.
    let first : BodyId × ℕ = (record { n = 0; of = record {} }, 0) in
    let site = site_of (get_or c.args.all.now c.loop-site.site-index first) in
    let more : AddsUnitNames (only_units (names_of d site (owned_at d site))) c.loop-site.list.items
    c.match-owned_at.list.items =
    elim c.match-owned_at.branch [
      | in-Some+in_ok-add_member w ↦ rw (← w.in-Some.ensures d shown, w.list-is) (w.in_ok-add_member.ensures d k)
      | in_default w ↦ rw (← w.in_default.ensures d shown, w.list-is) (λ gs h. rw append-nil h)
    ] in
    site_added d c.match-owned_at.list.items c.args.all.now c.loop-site.site-index first (omega arith)
    (more _ (c.loop-site.invariant d k shown))

pub returns : goal.returns
returns c = λ d k shown.
    let e = take_all c.loop-site.site-index c.args.all.now (omega arith) in
    subst (λ (xs : List (BodyId × ℕ)). Along IsUnitName c.loop-site.list.items
    (only_units (named_at d (map site_of xs)))) e (c.loop-site.invariant d k shown)

pub loop-site-init : goal.loop-site-init
loop-site-init c = λ d k shown. rw c.new-list.ensures.items none
