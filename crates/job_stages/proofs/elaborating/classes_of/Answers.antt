use Rattle.std.proofs.lemmas.Result.{err_from_is_err_and}
use Rattle.job_stages.proofs.ElaborateLemmas.{table_stops, table_stands}
use Rattle.job_stages.proofs.elaborating.classes_of.Goals as goal

pub returns-in_err-classes : goal.returns-in_err-classes
returns-in_err-classes c =
    let r = err_from_is_err_and c.from_residual.result c.from_residual.ensures.1 in
    let h = rw c.word_of.ensures at c.in_err-classes.ensures in
    table_stops c.args.main.now c.args.model _ _ _ r.1 r.2 h

pub returns : goal.returns
returns c =
    let h = rw c.word_of.ensures at c.in_ok-classes.ensures in
    table_stands c.args.main.now c.args.model (c.declaring_laws.ensures.one_declared c.args.model) h.0 _ h.1 h.2
    (c.tables_are_rooted.ensures c.args.model c.args.main.now h.0 h.1)
