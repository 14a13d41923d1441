use Rattle.std.proofs.Common.{ℕ, false, List, Ok, Err, ap, subst}
use Rattle.std.proofs.lemmas.Result.{err_from_is_err_and}
use Rattle.ar_base.specs.Counts.{limit_of}
use Rattle.ar_base.specs.declared.counts.Count.TheVariants.{ModelBytes}
use Rattle.ar_io.specs.Outside.{IsFile, Rose}
use Rattle.ar_io.proofs.Writing.{rose_after}
use Rattle.job_stages.specs.Files.{model_file, script_files, whole}
use Rattle.job_stages.specs.Loading.{AnswersFile, texts_where, script_texts}
use Rattle.job_stages.proofs.FileLemmas.{first_stops, later_stops, answers_same}
use Rattle.job_stages.proofs.LogLemmas.{stopped_so, first_stopped, then_came}
use Rattle.job_stages.proofs.loading.load_all.Goals as goal

pub returns-in_err-model-clause-loaded : goal.returns-in_err-model-clause-loaded
returns-in_err-model-clause-loaded g c =
    let r = err_from_is_err_and c.from_residual.result c.from_residual.ensures.1 in
    let told = g.H.Shelf.holds c.args.shelf.now in
    let rose : List ℕ → Type 0 = λ name. Rose (g.H.Shelf.faults c.args.shelf.now name)
    (g.H.Shelf.faults c.load.new.shelf name) in
    first_stops told rose (texts_where false) (model_file c.args.asked.now.job.model) (script_files c.args.asked.now.job.script) _ _
    _ r.1 r.2
    (subst (λ (z : List ℕ). AnswersFile told rose (model_file z) (Err c.in_err-model.field-0.0)) c.as_str-name.ensures
    c.in_err-model.ensures.loaded)

pub returns-in_err-script-clause-loaded : goal.returns-in_err-script-clause-loaded
returns-in_err-script-clause-loaded g c =
    let r = err_from_is_err_and c.from_residual-in_err-script.result c.from_residual-in_err-script.ensures.1 in
    let told = g.H.Shelf.holds c.args.shelf.now in
    let after = g.H.Shelf.holds c.load.new.shelf in
    let part : List ℕ → Type 0 = λ name. Rose (g.H.Shelf.faults c.load.new.shelf name)
    (g.H.Shelf.faults c.load_script.new.shelf name) in
    let rose : List ℕ → Type 0 = λ name. Rose (g.H.Shelf.faults c.args.shelf.now name)
    (g.H.Shelf.faults c.load_script.new.shelf name) in
    let is = subst (λ (z : List ℕ). IsFile (told z) (limit_of ModelBytes) c.in_ok-model.model.items)
    c.as_str-name.ensures c.in_ok-model.ensures.loaded in
    later_stops told rose (texts_where false) script_texts (model_file c.args.asked.now.job.model)
    (script_files c.args.asked.now.job.script) c.in_ok-model.model.items is _ _ _ r.1 r.2
    (answers_same after told c.in_ok-model.ensures.keeps part rose
    (λ name h. rose_after _ _ _ (c.in_ok-model.ensures.rises name) h) script_texts
    (script_files c.args.asked.now.job.script) (Err c.in_err-script.field-0.0) c.in_err-script.ensures.loaded)

pub returns-clause-loaded : goal.returns-clause-loaded
returns-clause-loaded g c =
    let told = g.H.Shelf.holds c.args.shelf.now in
    let after = g.H.Shelf.holds c.load.new.shelf in
    let part : List ℕ → Type 0 = λ name. Rose (g.H.Shelf.faults c.load.new.shelf name)
    (g.H.Shelf.faults c.load_script.new.shelf name) in
    let rose : List ℕ → Type 0 = λ name. Rose (g.H.Shelf.faults c.args.shelf.now name)
    (g.H.Shelf.faults c.load_script.new.shelf name) in
    let is = subst (λ (z : List ℕ). IsFile (told z) (limit_of ModelBytes) c.in_ok-model.model.items)
    c.as_str-name.ensures c.in_ok-model.ensures.loaded in
    whole c.in_ok-model.model.items is
    (answers_same after told c.in_ok-model.ensures.keeps part rose
    (λ name h. rose_after _ _ _ (c.in_ok-model.ensures.rises name) h) script_texts
    (script_files c.args.asked.now.job.script) (Ok c.in_ok-script.script) c.in_ok-script.ensures.loaded)

pub returns-in_err-model-clause-came : goal.returns-in_err-model-clause-came
returns-in_err-model-clause-came g c =
    let r = err_from_is_err_and c.from_residual.result c.from_residual.ensures.1 in
    stopped_so _ _ (texts_where false) _ _ _ _ r.1 r.2
    (first_stopped _ _ _ _ (script_files c.args.asked.now.job.script) _ (ap model_file c.as_str-name.ensures)
    c.in_err-model.ensures.came)

pub returns-in_err-script-clause-came : goal.returns-in_err-script-clause-came
returns-in_err-script-clause-came g c =
    let r = err_from_is_err_and c.from_residual-in_err-script.result c.from_residual-in_err-script.ensures.1 in
    stopped_so _ _ (texts_where false) _ _ _ _ r.1 r.2
    (then_came _ _ _ _ _ (script_files c.args.asked.now.job.script) c.in_ok-model.model.items script_texts
    (Err c.in_err-script.field-0.0) (ap model_file c.as_str-name.ensures) c.in_ok-model.ensures.came
    c.in_err-script.ensures.came)

pub returns-clause-came : goal.returns-clause-came
returns-clause-came g c =
    then_came _ _ _ _ _ (script_files c.args.asked.now.job.script) c.in_ok-model.model.items script_texts
    (Ok c.in_ok-script.script) (ap model_file c.as_str-name.ensures) c.in_ok-model.ensures.came
    c.in_ok-script.ensures.came
