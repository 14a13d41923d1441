use Rattle.std.proofs.Common.{ap, refl, sym, subst}
use Rattle.std.proofs.lemmas.Result.{err_from_is_err_and}
use Rattle.ar_io.specs.Outside.{Rose}
use Rattle.job_stages.specs.Files.{Loaded, none, script_files}
use Rattle.job_stages.specs.Loading.{script_texts}
use Rattle.job_stages.proofs.FileLemmas.{only_stops, only_loaded, named}
use Rattle.job_stages.proofs.LogLemmas.{only_came, stopped_so, none_came}
use Rattle.job_stages.proofs.loading.load_script.Goals as goal

pub returns-in_err-bytes-in-Some-clause-loaded : goal.returns-in_err-bytes-in-Some-clause-loaded
returns-in_err-bytes-in-Some-clause-loaded g c =
    let r = err_from_is_err_and c.from_residual.result c.from_residual.ensures.1 in
    only_stops (g.H.Shelf.holds c.args.shelf.now)
    (λ name. Rose (g.H.Shelf.faults c.args.shelf.now name) (g.H.Shelf.faults c.load.new.shelf name)) script_texts
    _ _ (named _ _ _ c.in-Some.is c.as_str-name.ensures) _ _ _ r.1 r.2 c.in_err-bytes-in-Some.ensures.loaded

pub returns-in_ok-bytes-in-Some-clause-loaded : goal.returns-in_ok-bytes-in-Some-clause-loaded
returns-in_ok-bytes-in-Some-clause-loaded g c =
    only_loaded (g.H.Shelf.holds c.args.shelf.now) _ _ _
    (named _ _ _ c.in-Some.is c.as_str-name.ensures) c.in_ok-bytes-in-Some.ensures.loaded

pub returns-in-None-clause-loaded : goal.returns-in-None-clause-loaded
returns-in-None-clause-loaded g c = subst (λ z. Loaded (g.H.Shelf.holds c.args.shelf.now) (script_files z) _) (sym c.in-None.is) none

pub returns-in_err-bytes-in-Some-clause-came : goal.returns-in_err-bytes-in-Some-clause-came
returns-in_err-bytes-in-Some-clause-came g c =
    let r = err_from_is_err_and c.from_residual.result c.from_residual.ensures.1 in
    stopped_so _ _ script_texts _ _ _ _ r.1 r.2
    (only_came _ _ _ _ (named _ _ _ c.in-Some.is c.as_str-name.ensures) _ c.in_err-bytes-in-Some.ensures.came)

pub returns-in_ok-bytes-in-Some-clause-came : goal.returns-in_ok-bytes-in-Some-clause-came
returns-in_ok-bytes-in-Some-clause-came g c =
    only_came _ _ _ _ (named _ _ _ c.in-Some.is c.as_str-name.ensures) _ c.in_ok-bytes-in-Some.ensures.came

pub returns-in-None-clause-came : goal.returns-in-None-clause-came
returns-in-None-clause-came g c = none_came _ _ _ (ap script_files c.in-None.is) refl
