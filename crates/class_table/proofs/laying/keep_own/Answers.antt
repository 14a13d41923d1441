use Rattle.class_table.proofs.Laid.{keep_kept}
use Rattle.class_table.proofs.laying.keep_own.Goals as goal

pub returns : goal.returns
returns c = keep_kept _ _ _ _
