use Rattle.gts_core.proofs.Numbering.{copy_numbered, source_numbered}
use Rattle.gts_core.proofs.laws.numbered_expressions.Goals as goal

pub returns-clause-copies : goal.returns-clause-copies
returns-clause-copies g c = λ e f k. record { renames = copy_numbered e f k }

pub returns-clause-sources : goal.returns-clause-sources
returns-clause-sources g c = λ things e f k. record { renames = source_numbered things e f k }
