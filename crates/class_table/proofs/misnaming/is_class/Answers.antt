use Rattle.std.proofs.Common.{◌∙◌}
use Rattle.class_table.proofs.Kindly.{class_some}
use Rattle.class_table.proofs.misnaming.is_class.Goals as goal

pub returns : goal.returns
returns c = λ d known. c.is_some.ensures ∙ class_some _ _ _ (c.class.ensures d known)
