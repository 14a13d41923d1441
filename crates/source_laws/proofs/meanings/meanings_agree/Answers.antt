use Rattle.source_laws.proofs.Turned.{rooted_turned}
use Rattle.source_laws.proofs.Acted.{sets_there}
use Rattle.source_laws.proofs.Levels.{level_there, acts_there}
use Rattle.source_laws.proofs.BindingsMeant.{means_there, value_there}
use Rattle.source_laws.proofs.Carried.{declarations_there}
use Rattle.source_laws.proofs.BindingsRuled.{name_rules_there}
use Rattle.source_laws.proofs.meanings.meanings_agree.Goals as goal

pub returns-clause-expressions : goal.returns-clause-expressions
returns-clause-expressions c = λ m n s u e f r l h.
    let forms = c.agreement_opens.ensures.form in
    means_there forms c.agreement_opens.ensures.kind m n s (level_there forms e f r) h

pub returns-clause-values : goal.returns-clause-values
returns-clause-values c = λ m n s t v.
    let forms = c.agreement_opens.ensures.form in
    let kinds = c.agreement_opens.ensures.kind in
    ((λ h. value_there forms kinds m n s h), (λ h. value_there forms kinds n m (rooted_turned s) h))

pub returns-clause-instructions : goal.returns-clause-instructions
returns-clause-instructions c = λ m n s u i j r when ps h.
    let steps = c.agreement_opens.ensures.step in
    sets_there c.agreement_opens.ensures.form steps c.agreement_opens.ensures.kind m n s (acts_there steps i j r) h

pub returns-clause-declarations_agree : goal.returns-clause-declarations_agree
returns-clause-declarations_agree c =
    declarations_there c.agreement_opens.ensures.form c.agreement_opens.ensures.step c.agreement_opens.ensures.kind

pub returns-clause-name_rules_agree : goal.returns-clause-name_rules_agree
returns-clause-name_rules_agree c = λ m n s us r p.
    let forms = c.agreement_opens.ensures.form in
    let steps = c.agreement_opens.ensures.step in
    let kinds = c.agreement_opens.ensures.kind in
    let back = rooted_turned s in (
      λ b. name_rules_there forms steps kinds m n s back us r p b,
      λ b. name_rules_there forms steps kinds n m back s us r p b,
    )
