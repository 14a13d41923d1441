use Rattle.ar_lexer.proofs.NumberLemmas.{fraction_at}
use Rattle.ar_lexer.proofs.numbers.fraction_len.Goals as goal

pub returns-else-digits-eq0 : goal.returns-else-digits-eq0
returns-else-digits-eq0 c =
    fraction_at _ _ _ _ c.in-Some.ensures.cases.0 c.if-mark-ne46.false c.digits_len-digits.ensures.value
    c.if-digits-eq0.false
