use Rattle.std.proofs.Common.{refl}
use Rattle.job_inputs.proofs.PieceLemmas.{rest_is, words_none, words_some}
use Rattle.job_inputs.proofs.lines.first_word.Goals as goal

pub returns-clause-none : goal.returns-clause-none
returns-clause-none c = λ h. words_none _ _ _ _ _ c.blanks_len-blanks.ensures.value
    (rest_is c.args.line.now c.blanks_len-blanks.result) c.word_len-len.ensures.value c.word_len-len.ensures.within refl
    h

pub returns-clause-some : goal.returns-clause-some
returns-clause-some c = λ h. words_some _ _ _ _ _ _ c.blanks_len-blanks.ensures.value
    (rest_is c.args.line.now c.blanks_len-blanks.result) c.word_len-len.ensures.value c.word_len-len.ensures.within refl
    (rest_is _ c.word_len-len.result) h
