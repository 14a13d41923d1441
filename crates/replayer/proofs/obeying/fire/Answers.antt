use Rattle.std.proofs.Common.{◌∙◌, ◌++◌, ℕ, codes, List, Err, ap, subst, sym}
use Rattle.std.proofs.lemmas.Result.{err_from_is_err_and}
use Rattle.ar_base.specs.Texts.{line}
use Rattle.ar_io.proofs.Writing.{writes_as}
use Rattle.domains.specs.declared.Value.{Value}
use Rattle.gts_core.specs.Readings.{IsTotal}
use Rattle.gts_core.specs.declared.system.GtsParts.{GtsParts}
use Rattle.text_pieces.specs.WayLabels.{way_label}
use Rattle.replayer.specs.Observing.{AreInOrder, AreTouched}
use Rattle.replayer.specs.Playing.{AreTotal, goes_on}
use Rattle.replayer.specs.Printing.{changes_text}
use Rattle.replayer.proofs.FollowLemmas.{total_below}
use Rattle.replayer.proofs.ObeyLemmas.{on_cut, out_of_memory, fire_on, refused, answers_as}
use Rattle.text_pieces.proofs.Ranges.{fire_inside}
use Rattle.replayer.proofs.obeying.fire.Goals as goal

pub returns-in_err-touched-in-Ok-clause-answers : goal.returns-in_err-touched-in-Ok-clause-answers
returns-in_err-touched-in-Ok-clause-answers g c = λ system views.
    let r = err_from_is_err_and c.from_residual.result c.from_residual.ensures.1 in
    answers_as (r.1 ∙ ap Err r.2) (out_of_memory c.args.gts.now c.requires.sound system views c.requires.below
    c.requires.latest.total)

pub fired-requires-clause-touched : goal.fired-requires-clause-touched
fired-requires-clause-touched g c =
    let p = c.args.gts.now in
    let known = subst (λ (z : List (ℕ × ℕ)). AreInOrder p z) (sym c.deref.ensures.value) c.requires.latest.observed in
    subst (λ (z : List ℕ). AreTouched p c.changed-changed.result.now z) (sym c.deref-in-Ok-3.ensures.value)
    (c.in_ok-touched-in-Ok.ensures p known)

pub returns-in_err-fired-in-Ok-clause-answers : goal.returns-in_err-fired-in-Ok-clause-answers
returns-in_err-fired-in-Ok-clause-answers g c = λ system views.
    let p = c.args.gts.now in
    let before = c.args.stepper.now in
    let after = c.fire.new.self in
    let total = c.requires.latest.total in
    let new = subst (λ (q : GtsParts). IsTotal q after.values) (c.in-Ok.ensures.system ∙ c.requires.same)
    c.values.ensures.total in
    let totals = subst (AreTotal p) (sym c.in-Ok.ensures.below)
    (total_below p before.values before.below total c.requires.below) in
    let e =
    ap (λ (t : List Value). line (codes "fire " ++ way_label p c.args.way.n) ++ changes_text p t
    c.deref-in-Ok-2.result.now) (c.deref-in-Ok.ensures.value ∙ c.requires.latest.values)
    ∙ ap (λ (t : List Value). line (codes "fire " ++ way_label p c.args.way.n) ++ changes_text p before.values t)
    (c.deref-in-Ok-2.ensures.value ∙ c.values.ensures.values) in
    let r = err_from_is_err_and c.from_residual-in_err-fired-in-Ok.result
    c.from_residual-in_err-fired-in-Ok.ensures.1 in
    answers_as (r.1 ∙ ap Err r.2)
    (on_cut p c.requires.sound system views after.below after.values _
    (fire_on p c.requires.sound system views c.args.way.n c.requires.inside before after c.requires.same
    c.in-Ok.ensures.below c.in-Ok.ensures.step total new)
    totals new (writes_as _ _ e c.in_err-fired-in-Ok.ensures))

pub returns-in_ok-fired-in-Ok-clause-below : goal.returns-in_ok-fired-in-Ok-clause-below
returns-in_ok-fired-in-Ok-clause-below g c =
    let p = c.args.gts.now in
    let before = c.args.stepper.now in
    subst (AreTotal p) (sym c.in-Ok.ensures.below)
    (total_below p before.values before.below c.requires.latest.total c.requires.below)

pub returns-in_ok-fired-in-Ok-clause-answers : goal.returns-in_ok-fired-in-Ok-clause-answers
returns-in_ok-fired-in-Ok-clause-answers g c = λ system views.
    let p = c.args.gts.now in
    let before = c.args.stepper.now in
    let after = c.fire.new.self in
    let total = c.requires.latest.total in
    let new = subst (λ (q : GtsParts). IsTotal q after.values) (c.in-Ok.ensures.system ∙ c.requires.same)
    c.values.ensures.total in
    let e =
    ap (λ (t : List Value). line (codes "fire " ++ way_label p c.args.way.n) ++ changes_text p t
    c.deref-in-Ok-2.result.now) (c.deref-in-Ok.ensures.value ∙ c.requires.latest.values)
    ∙ ap (λ (t : List Value). line (codes "fire " ++ way_label p c.args.way.n) ++ changes_text p before.values t)
    (c.deref-in-Ok-2.ensures.value ∙ c.values.ensures.values) in
    goes_on (writes_as _ _ e c.in_ok-fired-in-Ok.ensures)
    (fire_on p c.requires.sound system views c.args.way.n c.requires.inside before after c.requires.same
    c.in-Ok.ensures.below c.in-Ok.ensures.step total new)

pub refuse-requires-clause-range : goal.refuse-requires-clause-range
refuse-requires-clause-range g c =
    fire_inside c.args.gts.now c.requires.sound c.args.way.n c.requires.inside c.args.stepper.now c.requires.same
    c.in-Err.fault c.in-Err.ensures.fault

pub returns-in-Err-clause-answers : goal.returns-in-Err-clause-answers
returns-in-Err-clause-answers g c = λ system views.
    refused c.args.gts.now c.requires.sound system views c.args.way.n c.requires.inside c.args.stepper.now
    c.fire.new.self c.in-Err.fault c.requires.same c.in-Err.ensures.fault c.requires.below
    c.requires.latest.total c.refuse.ensures
