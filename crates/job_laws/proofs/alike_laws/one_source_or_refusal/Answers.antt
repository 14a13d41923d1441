use Rattle.job_laws.proofs.OneSource.{source_alike}
use Rattle.job_laws.proofs.alike_laws.one_source_or_refusal.Goals as goal

pub returns : goal.returns
returns c = λ main text a b h k.
    source_alike c.texts_are_seen_alike.ensures c.texts_break_the_same_rules.ensures text main
    c.one_source_of_a_text.ensures (c.one_reading.ensures.one_tree text) a b h k
