use Rattle.source_laws.proofs.Seen.{seen_alike}
use Rattle.source_laws.proofs.laws.texts_are_seen_alike.Goals as goal

pub returns : goal.returns
returns c =
    λ text k x y main m n h i p q. seen_alike c.agreement_opens.ensures.kind c.declaring_laws.ensures.one_declared
    c.declaring_laws.ensures.one_list_of_members x y main m n (c.one_reading.ensures.one_tree text k x y h i) p q
