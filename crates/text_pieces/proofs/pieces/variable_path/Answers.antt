use Rattle.std.proofs.Common.{◌∙◌}
use Rattle.text_pieces.proofs.Paths.{variable_there}
use Rattle.text_pieces.proofs.pieces.variable_path.Goals as goal

pub returns : goal.returns
returns c = c.variable_path.ensures ∙ variable_there c.args.parts.now.variables.items c.args.n
