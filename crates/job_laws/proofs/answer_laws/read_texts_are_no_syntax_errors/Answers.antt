use Rattle.job_laws.proofs.Unread.{never_syntax}
use Rattle.job_laws.proofs.answer_laws.read_texts_are_no_syntax_errors.Goals as goal

pub returns : goal.returns
returns c =
    λ k s asked texts text m gave known is l t h e. never_syntax k asked (c.one_job.ensures k.words) is
    (c.one_loading.ensures k.files known) texts text l t (c.one_reading.ensures.one_tree text) m h s gave e
