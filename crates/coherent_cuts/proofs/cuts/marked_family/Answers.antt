use Rattle.least_families.proofs.Held.{keeps_none}
use Rattle.coherent_cuts.proofs.cuts.marked_family.Goals as goal

pub returns-then-not-marked-clause-kept : goal.returns-then-not-marked-clause-kept
returns-then-not-marked-clause-kept c = keeps_none c.args.ops.now c.args.memo.now c.requires.held
