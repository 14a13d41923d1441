use Rattle.source_laws.proofs.OneSource.{source_alike}
use Rattle.source_laws.proofs.sources.one_source_or_refusal.Goals as goal

pub returns : goal.returns
returns c =
    source_alike c.units_agree.ensures.one_tree_or_refusal c.one_binding_or_refusal.ensures c.one_system_or_refusal.ensures
