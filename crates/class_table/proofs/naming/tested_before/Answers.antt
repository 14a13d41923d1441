use Rattle.class_table.proofs.naming.tested_before.Goals as goal

pub returns-clause-apart : goal.returns-clause-apart
returns-clause-apart c = λ d b shown listed m e. c.count_first-inherited.ensures d b _ shown listed m (rw c.deref.ensures.value e)
