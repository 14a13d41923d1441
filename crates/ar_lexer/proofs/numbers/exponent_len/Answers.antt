use Rattle.std.proofs.Common.{sym, ap}
use Rattle.ar_lexer.specs.Scans.{is_exponent_mark}
use Rattle.ar_lexer.proofs.NumberLemmas.{exponent_at}
use Rattle.ar_lexer.proofs.numbers.exponent_len.Goals as goal
use Rattle.ar_lexer.proofs.numbers.exponent_len.Goals.{else-mark-ne101-via-then-mark-ne101+else-mark-ne69, else-mark-ne101-via-else-mark-ne101}

pub returns-else-digits-eq0 : goal.returns-else-digits-eq0
returns-else-digits-eq0 c =
    exponent_at _ _ _ _ _ c.in-Some.ensures.cases.0
    (elim c.else-mark-ne101.branch [
      | else-mark-ne101-via-then-mark-ne101+else-mark-ne69 w ↦ sym (ap is_exponent_mark w.if-mark-ne69.false)
      | else-mark-ne101-via-else-mark-ne101 w ↦ sym (ap is_exponent_mark w.if-mark-ne101.false)
    ])
    c.sign_len-sign.ensures.value
    c.sign_len-sign.ensures.within c.digits_len-digits.ensures.value c.if-digits-eq0.false
