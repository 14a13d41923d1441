use Rattle.std.proofs.Common.{refl}
use Rattle.class_table.proofs.Repeated.{met_none}
use Rattle.class_table.proofs.repeats.Repeats.new.Goals as goal

pub returns : goal.returns
returns c = met_none _ c.new.ensures.empty refl
