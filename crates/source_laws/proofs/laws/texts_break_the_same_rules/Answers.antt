use Rattle.source_laws.proofs.Ruled.{breaks_there}
use Rattle.source_laws.proofs.laws.texts_break_the_same_rules.Goals as goal

pub returns : goal.returns
returns c = λ text k x y d e h i p q main r at.
    let opens = c.agreement_opens.ensures.kind in
    let on = c.one_reading.ensures.one_tree text k x y h i in
    let back = c.one_reading.ensures.one_tree text k y x i h in
    let agree = c.tables_agree.ensures x y d e on p q in
    let turned = c.tables_agree.ensures y x e d back q p in (
      λ b. breaks_there opens d e agree x y on turned main r at b,
      λ b. breaks_there opens e d turned y x back agree main r at b,
    )
