use Rattle.std.proofs.Common.{◌∙◌, ◌++◌, ℕ, codes, List, Err, ap, subst, sym}
use Rattle.std.proofs.lemmas.Result.{err_from_is_err_and}
use Rattle.ar_base.specs.Texts.{line}
use Rattle.ar_io.proofs.Writing.{writes_as}
use Rattle.domains.specs.declared.Value.{Value}
use Rattle.replayer.specs.Observing.{AreInOrder, AreTouched}
use Rattle.replayer.specs.Playing.{AreTotal, goes_on, stops}
use Rattle.replayer.specs.Printing.{changes_text}
use Rattle.replayer.proofs.FollowLemmas.{total_first, total_rest}
use Rattle.replayer.proofs.ObeyLemmas.{on_cut, stop_cut, out_of_memory, back_on, back_stops, answers_as}
use Rattle.replayer.proofs.obeying.back.Goals as goal

pub returns-in_err-touched-in-Ok-clause-answers : goal.returns-in_err-touched-in-Ok-clause-answers
returns-in_err-touched-in-Ok-clause-answers g c = λ system views.
    let r = err_from_is_err_and c.from_residual.result c.from_residual.ensures.1 in
    answers_as (r.1 ∙ ap Err r.2) (out_of_memory c.args.gts.now c.requires.sound system views c.requires.below
    c.requires.latest.total)

pub gone_back-requires-clause-touched : goal.gone_back-requires-clause-touched
gone_back-requires-clause-touched g c =
    let p = c.args.gts.now in
    let known = subst (λ (z : List (ℕ × ℕ)). AreInOrder p z) (sym c.deref.ensures.value) c.requires.latest.observed in
    subst (λ (z : List ℕ). AreTouched p c.changed-changed.result.now z) (sym c.deref-in-Ok-3.ensures.value)
    (c.in_ok-touched-in-Ok.ensures p known)

pub returns-in_err-gone_back-in-Ok-clause-answers : goal.returns-in_err-gone_back-in-Ok-clause-answers
returns-in_err-gone_back-in-Ok-clause-answers g c = λ system views.
    let p = c.args.gts.now in
    let before = c.args.stepper.now in
    let after = c.back.new.self in
    let total = c.requires.latest.total in
    let totals = subst (AreTotal p) c.in-Ok.ensures.back c.requires.below in
    let e =
    ap (λ (t : List Value). line (codes "back") ++ changes_text p t c.deref-in-Ok-2.result.now)
    (c.deref-in-Ok.ensures.value ∙ c.requires.latest.values)
    ∙ ap (λ (t : List Value). line (codes "back") ++ changes_text p before.values t)
    (c.deref-in-Ok-2.ensures.value ∙ c.values.ensures.values) in
    let r = err_from_is_err_and c.from_residual-in_err-gone_back-in-Ok.result
    c.from_residual-in_err-gone_back-in-Ok.ensures.1 in
    let new = total_first p after.values after.below totals in
    answers_as (r.1 ∙ ap Err r.2)
    (on_cut p c.requires.sound system views after.below after.values _
    (back_on p c.requires.sound system views before after c.in-Ok.ensures.back total new)
    (total_rest p after.values after.below totals) new (writes_as _ _ e c.in_err-gone_back-in-Ok.ensures))

pub returns-in_ok-gone_back-in-Ok-clause-below : goal.returns-in_ok-gone_back-in-Ok-clause-below
returns-in_ok-gone_back-in-Ok-clause-below g c =
    let after = c.back.new.self in
    total_rest c.args.gts.now after.values after.below
    (subst (AreTotal c.args.gts.now) c.in-Ok.ensures.back c.requires.below)

pub returns-in_ok-gone_back-in-Ok-clause-answers : goal.returns-in_ok-gone_back-in-Ok-clause-answers
returns-in_ok-gone_back-in-Ok-clause-answers g c = λ system views.
    let p = c.args.gts.now in
    let before = c.args.stepper.now in
    let after = c.back.new.self in
    let totals = subst (AreTotal p) c.in-Ok.ensures.back c.requires.below in
    let e =
    ap (λ (t : List Value). line (codes "back") ++ changes_text p t c.deref-in-Ok-2.result.now)
    (c.deref-in-Ok.ensures.value ∙ c.requires.latest.values)
    ∙ ap (λ (t : List Value). line (codes "back") ++ changes_text p before.values t)
    (c.deref-in-Ok-2.ensures.value ∙ c.values.ensures.values) in
    goes_on (writes_as _ _ e c.in_ok-gone_back-in-Ok.ensures)
    (back_on p c.requires.sound system views before after c.in-Ok.ensures.back c.requires.latest.total
    (total_first p after.values after.below totals))

pub returns-in_err-no_step-in-Err-clause-answers : goal.returns-in_err-no_step-in-Err-clause-answers
returns-in_err-no_step-in-Err-clause-answers g c = λ system views.
    let r = err_from_is_err_and c.from_residual-in_err-no_step-in-Err.result
    c.from_residual-in_err-no_step-in-Err.ensures.1 in
    answers_as (r.1 ∙ ap Err r.2)
    (stop_cut c.args.gts.now c.requires.sound system views _
    (back_stops c.args.gts.now c.requires.sound system views c.args.stepper.now c.in-Err.ensures.none)
    c.in_err-no_step-in-Err.ensures)

pub returns-in_ok-no_step-in-Err-clause-answers : goal.returns-in_ok-no_step-in-Err-clause-answers
returns-in_ok-no_step-in-Err-clause-answers g c = λ system views.
    stops c.in_ok-no_step-in-Err.ensures
    (back_stops c.args.gts.now c.requires.sound system views c.args.stepper.now c.in-Err.ensures.none)
