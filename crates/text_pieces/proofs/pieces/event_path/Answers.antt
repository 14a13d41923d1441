use Rattle.std.proofs.Common.{◌∙◌}
use Rattle.text_pieces.proofs.Paths.{event_there}
use Rattle.text_pieces.proofs.pieces.event_path.Goals as goal

pub returns : goal.returns
returns c = c.event_path.ensures ∙ event_there c.args.parts.now.events.items c.args.n
