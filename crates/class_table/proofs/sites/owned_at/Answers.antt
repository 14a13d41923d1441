use Rattle.std.proofs.Common.{◌∙◌}
use Rattle.class_table.proofs.Taken.{item_stands}
use Rattle.class_table.proofs.MemberNames.{site_there, site_past, copied_get}
use Rattle.class_table.proofs.sites.owned_at.Goals as goal

pub returns-in-Some : goal.returns-in-Some
returns-in-Some c = λ d shown.
    let h = rw c.deref.ensures.value at c.get-in-Some.ensures.lookup in
    copied_get c.in-Some.body.now.own.items c.args.site.1 _ h.0 h.1
    ∙ site_there d _ shown _ _ c.in-Some.body.now
    (item_stands c.args.bodies.now c.args.site.0.n c.in-Some.body.now c.in-Some.ensures.lookup.3.0
    c.in-Some.ensures.lookup.1)

pub returns-in-None : goal.returns-in-None
returns-in-None c = λ d shown. site_past d _ shown _ _ c.in-None.ensures.lookup.3
