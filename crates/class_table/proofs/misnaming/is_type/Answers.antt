use Rattle.std.proofs.Common.{◌∙◌, ap, is_some}
use Rattle.class_table.proofs.Kindly.{kind_some}
use Rattle.class_table.proofs.misnaming.is_type.Goals as goal

pub returns-in-Named : goal.returns-in-Named
returns-in-Named c = λ d known. rw c.in-Named.is
    (c.is_some.ensures ∙ (ap (λ k. is_some k) c.kind.ensures ∙ kind_some _ _ (known.each c.in-Named.name.n)))
