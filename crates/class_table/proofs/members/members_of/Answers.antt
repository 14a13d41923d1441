use Rattle.std.proofs.Common.{sym, ◌∙◌, subst}
use Rattle.ar_base.proofs.Standing.{stands_get}
use Rattle.class_table.specs.Listing.{AreDone}
use Rattle.class_table.proofs.OwnAt.{own_shown}
use Rattle.class_table.proofs.Inheriting.{members_made}
use Rattle.class_table.proofs.members.members_of.Goals as goal

pub inherited-requires : goal.inherited-requires
inherited-requires c =
    let h = c.requires.done in
    let s = stands_get c.args.bodies.now c.args.body c.index-bodies-body.result c.requires.there in (
      h.0,
      h.1,
      h.2,
      subst (AreDone h.0 h.1)
          (own_shown h.0 c.args.bodies.now h.2.listed.as_text c.args.body _ s ∙ sym c.deref-2.ensures.value) h.3,
    )

pub returns : goal.returns
returns c = λ d done lists are.
    let s = stands_get c.args.bodies.now c.args.body c.index-bodies-body.result c.requires.there in
    let own = subst (AreDone d done)
    (own_shown d c.args.bodies.now lists.listed.as_text c.args.body _ s ∙ sym c.deref-2.ensures.value) are in
    members_made d _ lists.listed.as_text c.args.body _ s _ _
    (rw c.deref-2.ensures.value at (c.in_ok-all.ensures d done lists own))
    (rw c.new.ensures at (rw c.deref-3.ensures.value at c.in_ok-add_own.ensures))
