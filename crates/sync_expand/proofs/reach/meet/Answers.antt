use Rattle.std.proofs.Common.{Bool, refl, sym, ◌∙◌, subst, rules}
use Rattle.ar_base.specs.Lists.{Stands}
use Rattle.ar_base.proofs.Standing.{stands_get}
use Rattle.sync_expand.proofs.Walking.{opens_old, opens_new}
use Rattle.sync_expand.proofs.reach.meet.Goals as goal

pub returns-in_ok-push : goal.returns-in_ok-push
returns-in_ok-push c =
    let ms = c.args.walk.now.marks.items in
    let n = c.args.event.n in
    let s = stands_get ms n c.index.result.now c.requires in
    opens_new c.args.event c.args.walk.now _ refl c.in_ok-push.ensures.items
    (subst (λ (b : Bool). Stands ms n b) (sym c.index.ensures ∙ (search rules)) s)

pub returns-else-not-index : goal.returns-else-not-index
returns-else-not-index c =
    let ms = c.args.walk.now.marks.items in
    let n = c.args.event.n in
    let s = stands_get ms n c.index.result.now c.requires in
    opens_old c.args.event c.args.walk.now _ refl refl
    (subst (λ (b : Bool). Stands ms n b) (sym c.index.ensures ∙ c.if-not-index.false) s)
