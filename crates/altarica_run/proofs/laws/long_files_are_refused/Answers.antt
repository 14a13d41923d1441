use Rattle.altarica_run.proofs.LawLemmas.{over_passes, over_of, script_over, only_of}
use Rattle.ar_base.specs.declared.counts.Count.TheVariants.{ScriptBytes}
use Rattle.job_stages.specs.declared.refusals.Refusal.TheVariants.{Size}
use Rattle.altarica_run.proofs.laws.long_files_are_refused.Goals as goal

pub returns-clause-long_model_refused : goal.returns-clause-long_model_refused
returns-clause-long_model_refused c = λ files asked text x loads told over h. over_passes files asked loads text told over x h

pub returns-clause-long_models_are_refused : goal.returns-clause-long_models_are_refused
returns-clause-long_models_are_refused c =
    λ k s asked text gave quiet is loads told over. over_of k asked (c.one_job.ensures k.words) is loads text told over
    quiet s gave

pub returns-clause-long_script_refused : goal.returns-clause-long_script_refused
returns-clause-long_script_refused c =
    λ files asked name model script x loads named held short told over h. script_over files name script told over asked
    loads named model held short x h

pub returns-clause-long_scripts_are_refused : goal.returns-clause-long_scripts_are_refused
returns-clause-long_scripts_are_refused c =
    λ k s asked name model script gave quiet is loads named held short told over. only_of k asked
    (c.one_job.ensures k.words) is (Size ScriptBytes)
    (λ x h. script_over k.files name script told over asked loads named model held short x h) quiet s gave
