use Rattle.altarica_run.proofs.FollowLemmas.{meaning_of, prefix_of, usage_of, said_of, asked_of, kept_of}
use Rattle.altarica_run.proofs.following.answers_in_words.Goals as goal

pub returns-clause-meaning : goal.returns-clause-meaning
returns-clause-meaning c = meaning_of

pub returns-clause-prefix : goal.returns-clause-prefix
returns-clause-prefix c = prefix_of

pub returns-clause-usage : goal.returns-clause-usage
returns-clause-usage c = λ k s gave never written. usage_of k never written s gave

pub returns-clause-nothing_gives_up : goal.returns-clause-nothing_gives_up
returns-clause-nothing_gives_up c = λ k s gave quiet. said_of k quiet s gave

pub returns-clause-nothing_gives_up_on_jobs : goal.returns-clause-nothing_gives_up_on_jobs
returns-clause-nothing_gives_up_on_jobs c = λ k s asked gave quiet is. asked_of k quiet asked is s gave

pub returns-clause-no_fault_passes_unseen : goal.returns-clause-no_fault_passes_unseen
returns-clause-no_fault_passes_unseen c = λ k s gave no. kept_of k s gave no
