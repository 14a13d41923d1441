use Rattle.source_laws.proofs.OneBinding.{binding_one}
use Rattle.source_laws.proofs.bindings.one_binding_or_refusal.Goals as goal

pub returns : goal.returns
returns c =
    binding_one c.agreement_opens.ensures.form c.agreement_opens.ensures.step c.agreement_opens.ensures.kind
