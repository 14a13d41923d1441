use Rattle.std.proofs.Common.{◌≤◌, ◌∙◌, ℕ, List, length, None, refl, sym, subst}
use Rattle.std.proofs.lemmas.Result.{err_from_is_err_and}
use Rattle.ar_base.specs.Counts.{limit_of}
use Rattle.ar_base.specs.declared.counts.Count.TheVariants.{ModelBytes}
use Rattle.ar_io.specs.Outside.{Rose}
use Rattle.job_stages.proofs.FileLemmas.{made_told, files_told}
use Rattle.job_stages.proofs.JobLemmas.{made_job}
use Rattle.job_stages.proofs.LogLemmas.{files_came, made_came, made_stopped}
use Rattle.job_stages.proofs.loading.job_texts.Goals as goal

pub returns-then-makes_model-clause-texts : goal.returns-then-makes_model-clause-texts
returns-then-makes_model-clause-texts g c =
    let told = g.H.Shelf.holds c.args.shelf.now in
    let rose : List ℕ → Type 0 = λ name. Rose (g.H.Shelf.faults c.args.shelf.now name)
    (g.H.Shelf.faults c.args.shelf.now name) in
    let asked = c.args.asked.now in
    let e = sym c.makes_model.ensures ∙ c.if-makes_model.true in
    let made = made_job c.requires.0 asked c.requires.1 e in
    let short = subst (λ (z : List ℕ). length z ≤ limit_of ModelBytes) (sym c.in_ok-model.ensures)
    (c.one_job.ensures.generated_models_are_short asked.job.number made.at_most) in
    made_told told rose asked e made.script (record { model = c.in_ok-model.model; script = None }) refl
    c.in_ok-model.ensures short

pub returns-clause-texts : goal.returns-clause-texts
returns-clause-texts g c =
    let told = g.H.Shelf.holds c.args.shelf.now in
    let rose : List ℕ → Type 0 = λ name. Rose (g.H.Shelf.faults c.args.shelf.now name)
    (g.H.Shelf.faults c.load_all.new.shelf name) in
    let asked = c.args.asked.now in
    let e = sym c.makes_model.ensures ∙ c.if-makes_model.false in
    files_told told rose asked e c.load_all.result c.load_all.ensures.loaded

pub returns-in_err-model-clause-came : goal.returns-in_err-model-clause-came
returns-in_err-model-clause-came g c =
    let r = err_from_is_err_and c.from_residual.result c.from_residual.ensures.1 in
    let asked = c.args.asked.now in
    let e = sym c.makes_model.ensures ∙ c.if-makes_model.true in
    let made = made_job c.requires.0 asked c.requires.1 e in
    made_stopped asked _ _ e made.script refl _ _ r.1 r.2

pub returns-then-makes_model-clause-came : goal.returns-then-makes_model-clause-came
returns-then-makes_model-clause-came g c =
    let asked = c.args.asked.now in
    let e = sym c.makes_model.ensures ∙ c.if-makes_model.true in
    let made = made_job c.requires.0 asked c.requires.1 e in
    made_came asked _ _ e made.script refl (record { model = c.in_ok-model.model; script = None }) refl

pub returns-clause-came : goal.returns-clause-came
returns-clause-came g c =
    let asked = c.args.asked.now in
    let e = sym c.makes_model.ensures ∙ c.if-makes_model.false in
    files_came asked _ _ e c.load_all.result c.load_all.ensures.came
