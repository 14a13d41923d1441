use Rattle.source_laws.proofs.Inherited.{members_same}
use Rattle.source_laws.proofs.laws.members_agree.Goals as goal

pub returns : goal.returns
returns c =
    λ d e s b xs ys h k. members_same c.agreement_opens.ensures.kind d e s c.declaring_laws.ensures.one_list_of_members b xs ys h k
