use Rattle.replayer.proofs.WayLemmas.{fires_ways}
use Rattle.replayer.proofs.replaying.replay.Goals as goal

pub returns-in-Err : goal.returns-in-Err
returns-in-Err g c = λ system views.
    c.give_up.ensures system views _ (fires_ways c.args.gts.now system views c.parts-sound_parts.ensures.sound
    c.args.commands.now c.requires)
