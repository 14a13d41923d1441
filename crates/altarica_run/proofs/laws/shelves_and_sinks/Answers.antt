use Rattle.altarica_run.proofs.LawLemmas.{untouched_of, made_alone, no_job_loads, unwritten_of}
use Rattle.altarica_run.proofs.laws.shelves_and_sinks.Goals as goal

pub returns-clause-untouched_without_job : goal.returns-clause-untouched_without_job
returns-clause-untouched_without_job c = λ k s gave never. untouched_of k s gave (no_job_loads k.words never)

pub returns-clause-untouched_where_made : goal.returns-clause-untouched_where_made
returns-clause-untouched_where_made c =
    λ k s asked gave is made. untouched_of k s gave (made_alone k.words (c.one_job.ensures k.words) asked is made)

pub returns-clause-refused_memory_writes_nothing : goal.returns-clause-refused_memory_writes_nothing
returns-clause-refused_memory_writes_nothing c = λ k gave no_replay. unwritten_of k no_replay gave
