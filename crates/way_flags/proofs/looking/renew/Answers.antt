use Rattle.way_flags.proofs.Settling.{first_settled}
use Rattle.way_flags.proofs.looking.renew.Goals as goal

pub look_at_all-requires-clause-settled : goal.look_at_all-requires-clause-settled
look_at_all-requires-clause-settled c =
    first_settled c.args.parts.now c.requires.sound c.args.index.now c.requires.index c.args.values.now c.requires.total
    c.args.changed.now c.args.can.now.items c.requires.were c.in_ok-waiting.waiting c.in_ok-waiting.ensures
