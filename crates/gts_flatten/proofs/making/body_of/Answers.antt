use Rattle.std.proofs.Common.{◌∙◌}
use Rattle.gts_flatten.proofs.Bodies.{made_transition, made_joint, planned_there}
use Rattle.gts_flatten.proofs.making.body_of.Goals as goal

pub transition-requires : goal.transition-requires
transition-requires c = planned_there c.args.events.now c.args.event.n c.in-Local.place c.args.body.now c.in-Local.is
    c.requires

pub returns-in-Local : goal.returns-in-Local
returns-in-Local c = made_transition c.args.events.now c.args.event.n c.in-Local.place c.args.body.now
    c.transition.result c.in-Local.is c.transition.ensures

pub returns-in_ok-from_slice-in-Sync : goal.returns-in_ok-from_slice-in-Sync
returns-in_ok-from_slice-in-Sync c =
    made_joint c.args.events.now c.args.event.n c.args.body.now c.in-Sync.parts c.in_ok-from_slice-in-Sync.field-0
    c.in-Sync.is (c.in_ok-from_slice-in-Sync.ensures.items ∙ c.deref.ensures.value)
