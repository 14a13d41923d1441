use Rattle.std.proofs.Common.{ℕ, List, refl}
use Rattle.std.proofs.lemmas.Result.{err_from_is_err_and}
use Rattle.ar_base.specs.TextsInside.{bytes_of_all}
use Rattle.ar_io.specs.Outside.{Rose}
use Rattle.altarica_run.proofs.EndLemmas.{words_stop, files_stop, job_done}
use Rattle.job_stages.proofs.FileLemmas.{loaded_script, script_loaded}
use Rattle.altarica_run.proofs.GivenLemmas.{gives}
use Rattle.altarica_run.proofs.ReadingLemmas as reading
use Rattle.altarica_run.proofs.program.do_job.Goals as goal

pub returns-in_err-asked-clause-words : goal.returns-in_err-asked-clause-words
returns-in_err-asked-clause-words g c =
    let r = err_from_is_err_and c.from_residual.result c.from_residual.ensures.1 in
    let files = g.H.Shelf.holds c.args.shelf.now in
    let rose : List ℕ → Type 0 = λ name. Rose (g.H.Shelf.faults c.args.shelf.now name)
    (g.H.Shelf.faults c.args.shelf.now name) in
    words_stop files rose (bytes_of_all c.args.words.now) _ _ _ _ r.1 r.2 c.in_err-asked.ensures

pub returns-in_err-texts-clause-words : goal.returns-in_err-texts-clause-words
returns-in_err-texts-clause-words g c =
    let r = err_from_is_err_and c.from_residual-in_err-texts.result c.from_residual-in_err-texts.ensures.1 in
    let files = g.H.Shelf.holds c.args.shelf.now in
    let rose : List ℕ → Type 0 = λ name. Rose (g.H.Shelf.faults c.args.shelf.now name)
    (g.H.Shelf.faults c.job_texts.new.shelf name) in
    files_stop files rose
    (bytes_of_all c.args.words.now) _ c.in_ok-asked.asked c.in_ok-asked.ensures _ _ _ r.1 r.2 c.in_err-texts.ensures.texts

pub run_gathered-requires-clause-given : goal.run_gathered-requires-clause-given
run_gathered-requires-clause-given g c =
    let files = g.H.Shelf.holds c.args.shelf.now in
    let rose : List ℕ → Type 0 = λ name. Rose (g.H.Shelf.faults c.args.shelf.now name)
    (g.H.Shelf.faults c.job_texts.new.shelf name) in
    let asked = c.in_ok-asked.asked in
    let texts = c.in_ok-texts.texts in
    let script = script_loaded files rose asked texts c.in_ok-texts.ensures.texts in
    gives (bytes_of_all c.args.words.now) asked c.in_ok-asked.ensures texts c.in_ok-texts.ensures.texts.short
    (loaded_script files asked.job.script texts.script script)

pub returns-clause-words : goal.returns-clause-words
returns-clause-words g c =
    let files = g.H.Shelf.holds c.args.shelf.now in
    let rose : List ℕ → Type 0 = λ name. Rose (g.H.Shelf.faults c.args.shelf.now name)
    (g.H.Shelf.faults c.job_texts.new.shelf name) in
    job_done files rose (bytes_of_all c.args.words.now) _ c.in_ok-asked.asked c.in_ok-asked.ensures _ c.in_ok-texts.texts
    c.in_ok-texts.ensures.texts _ c.run_gathered.ensures

pub returns-in_err-texts-clause-untouched : goal.returns-in_err-texts-clause-untouched
returns-in_err-texts-clause-untouched g c = λ none.
    c.in_err-texts.ensures.made (none c.in_ok-asked.asked c.in_ok-asked.ensures)

pub returns-clause-untouched : goal.returns-clause-untouched
returns-clause-untouched g c = λ none. c.in_ok-texts.ensures.made (none c.in_ok-asked.asked c.in_ok-asked.ensures)

pub returns-in_err-asked-clause-loads : goal.returns-in_err-asked-clause-loads
returns-in_err-asked-clause-loads g c =
    let r = err_from_is_err_and c.from_residual.result c.from_residual.ensures.1 in
    reading.words_stop (bytes_of_all c.args.words.now) _ _ _ refl _ _ _ r.1 r.2 c.in_err-asked.ensures

pub returns-in_err-texts-clause-loads : goal.returns-in_err-texts-clause-loads
returns-in_err-texts-clause-loads g c =
    let r = err_from_is_err_and c.from_residual-in_err-texts.result c.from_residual-in_err-texts.ensures.1 in
    reading.files_stop (bytes_of_all c.args.words.now) _ _ _ c.in_ok-asked.asked c.in_ok-asked.ensures _ _ _ r.1 r.2
    c.in_err-texts.ensures.came

pub returns-clause-loads : goal.returns-clause-loads
returns-clause-loads g c =
    reading.job_done (bytes_of_all c.args.words.now) _ _ _ c.in_ok-asked.asked c.in_ok-asked.ensures _ c.in_ok-texts.texts
    c.in_ok-texts.ensures.came c.in_ok-texts.ensures.texts.is_text _ c.run_gathered.ensures
