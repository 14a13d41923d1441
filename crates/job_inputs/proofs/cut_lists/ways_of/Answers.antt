use Rattle.std.proofs.Common.{arith}
use Rattle.std.proofs.lemmas.Grind.{common_steps}
use Rattle.job_inputs.proofs.CutListLemmas.{labels_none}
use Rattle.job_inputs.proofs.cut_lists.ways_of.Goals as goal

pub returns-then-is_empty : goal.returns-then-is_empty
returns-then-is_empty c = λ x of.
    labels_none x c.args.gts.now c.args.inner.now c.trimmed.result.now c.new.result c.args.line c.trimmed.ensures
    (grind (arith, common_steps)) c.new.ensures.items
