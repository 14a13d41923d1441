use Rattle.aralia_text.proofs.Runs.{text_found, text_not_found}
use Rattle.aralia_text.proofs.Stuck.{text_stuck}
use Rattle.aralia_text.proofs.fronts.literal.Goals as goal

pub returns-in-Some-clause-found : goal.returns-in-Some-clause-found
returns-in-Some-clause-found c = text_found _ _ _ c.in-Some.ensures.cases.0 c.in-Some.ensures.cases.1

pub returns-in-None-clause-stuck : goal.returns-in-None-clause-stuck
returns-in-None-clause-stuck c = text_stuck _ _ _ c.common.ensures
    (λ back e. text_not_found _ _ back c.in-None.ensures.cases e)
