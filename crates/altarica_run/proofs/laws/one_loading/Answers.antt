use Rattle.altarica_run.proofs.LawLemmas.{loaded_one}
use Rattle.altarica_run.proofs.laws.one_loading.Goals as goal

pub returns : goal.returns
returns c = loaded_one
