use Rattle.source_meaning.proofs.RuleCases.{refusal_one, never_both}
use Rattle.source_meaning.proofs.rows.one_refusal.Goals as goal

pub returns-clause-rule : goal.returns-clause-rule
returns-clause-rule c = refusal_one

pub returns-clause-apart : goal.returns-clause-apart
returns-clause-apart c = never_both
