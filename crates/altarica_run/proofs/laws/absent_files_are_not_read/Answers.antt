use Rattle.altarica_run.proofs.LawLemmas.{absent_of, lacks_of, never_read}
use Rattle.altarica_run.proofs.laws.absent_files_are_not_read.Goals as goal

pub returns-clause-absent_models_are_not_read : goal.returns-clause-absent_models_are_not_read
returns-clause-absent_models_are_not_read c = λ k s asked gave is loads absent. absent_of k asked (c.one_job.ensures k.words) is loads absent s gave

pub returns-clause-absent_scripts_are_not_read : goal.returns-clause-absent_scripts_are_not_read
returns-clause-absent_scripts_are_not_read c =
    λ k s asked name model gave is loads named held short absent. lacks_of k asked (c.one_job.ensures k.words) is loads
    name named model held short absent s gave

pub returns-clause-made_models_are_not_loaded : goal.returns-clause-made_models_are_not_loaded
returns-clause-made_models_are_not_loaded c = λ k s asked gave is made e. never_read k asked (c.one_job.ensures k.words) is made s gave e
