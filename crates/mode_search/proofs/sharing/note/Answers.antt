use Rattle.std.proofs.Common.{ℕ, Option, Some, refl, ap, subst}
use Rattle.ar_base.specs.Lists.{Stands}
use Rattle.ar_base.proofs.Standing.{stands_item}
use Rattle.mode_search.specs.Sharing.{again, fresh}
use Rattle.mode_search.proofs.sharing.note.Goals as goal

pub returns-in-Some : goal.returns-in-Some
returns-in-Some c =
    let st = stands_item c.args.found.now.firsts.items c.args.event.n c.index.result.now c.requires c.index.ensures in
    again (subst (λ (z : Option ℕ). Stands c.args.found.now.firsts.items c.args.event.n z) c.in-Some.is st) refl refl
    (ap (λ (z : ℕ). Some z) c.lesser.ensures)

pub returns-in_ok-push-in-None : goal.returns-in_ok-push-in-None
returns-in_ok-push-in-None c =
    let st = stands_item c.args.found.now.firsts.items c.args.event.n c.index.result.now c.requires c.index.ensures in
    fresh (subst (λ (z : Option ℕ). Stands c.args.found.now.firsts.items c.args.event.n z) c.in-None.is st) refl
    c.in_ok-push-in-None.ensures.items refl
