use Rattle.std.proofs.Common.{List, subst, sym, ◌∙◌}
use Rattle.ar_base.specs.Numbers.{WayId}
use Rattle.replayer.specs.Listing.{AreInside}
use Rattle.replayer.proofs.ListLemmas.{visible_inside}
use Rattle.replayer.proofs.ready.find.Goals as goal

pub those-requires-clause-inside : goal.those-requires-clause-inside
those-requires-clause-inside c =
    subst (λ (ways : List WayId). AreInside c.args.stepper.now.system ways)
    (sym (c.deref.ensures.value ∙ c.requires.ready.visible))
    (visible_inside c.args.stepper.now.system c.requires.sound)
