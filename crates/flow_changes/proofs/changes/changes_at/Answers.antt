use Rattle.std.proofs.Common.{arith}
use Rattle.flow_changes.proofs.changes.changes_at.Goals as goal

pub turned_marks-requires-clause-within : goal.turned_marks-requires-clause-within
turned_marks-requires-clause-within c = λ n o. let h = c.requires.within n o in omega (arith, h, c.requires.known_long, c.requires.values_long)
