use Rattle.std.proofs.Common.{◌∙◌, ◌++◌, codes, List, Err, ap, subst, sym}
use Rattle.std.proofs.lemmas.Result.{err_from_is_err_and}
use Rattle.ar_base.specs.Numbers.{WayId}
use Rattle.ar_base.specs.Texts.{line}
use Rattle.ar_io.proofs.Writing.{writes_as}
use Rattle.domains.specs.declared.Value.{Value}
use Rattle.gts_core.specs.Readings.{IsTotal}
use Rattle.gts_core.specs.Sound.{IsSound}
use Rattle.gts_core.specs.declared.system.GtsParts.{GtsParts}
use Rattle.replayer.specs.Listing.{AreInside, AreReadyWays, IsListReady}
use Rattle.replayer.specs.Playing.{goes_on}
use Rattle.replayer.specs.Printing.{values_text, way_lines}
use Rattle.replayer.proofs.ListLemmas.{some_answers, ready_inside}
use Rattle.replayer.proofs.ObeyLemmas.{on_cut, out_of_memory, show_on, list_on, answers_as}
use Rattle.replayer.proofs.obeying.obey.Goals as goal

pub returns-in_err-shown-in-Show-clause-answers : goal.returns-in_err-shown-in-Show-clause-answers
returns-in_err-shown-in-Show-clause-answers g c = λ system views.
    let p = c.args.gts.now in
    let at = c.args.stepper.now in
    let total = subst (λ (q : GtsParts). IsTotal q at.values) c.requires.same c.values.ensures.total in
    let e = ap (λ (t : List Value). line (codes "show") ++ values_text p t)
    (c.deref.ensures.value ∙ c.values.ensures.values) in
    let r = err_from_is_err_and c.from_residual.result c.from_residual.ensures.1 in
    rw c.in-Show.is (answers_as (r.1 ∙ ap Err r.2)
    (on_cut p c.requires.sound system views at.below at.values _ (show_on p c.requires.sound system views at total)
    c.requires.below total (writes_as _ _ e c.in_err-shown-in-Show.ensures)))

pub returns-in_ok-shown-in-Show-clause-answers : goal.returns-in_ok-shown-in-Show-clause-answers
returns-in_ok-shown-in-Show-clause-answers g c = λ system views.
    let p = c.args.gts.now in
    let at = c.args.stepper.now in
    let total = subst (λ (q : GtsParts). IsTotal q at.values) c.requires.same c.values.ensures.total in
    let e = ap (λ (t : List Value). line (codes "show") ++ values_text p t)
    (c.deref.ensures.value ∙ c.values.ensures.values) in
    rw c.in-Show.is
    (goes_on (writes_as _ _ e c.in_ok-shown-in-Show.ensures) (show_on p c.requires.sound system views at total))

pub find-requires-clause-sound : goal.find-requires-clause-sound
find-requires-clause-sound g c = subst IsSound (sym c.requires.same) c.requires.sound

pub find-requires-clause-ready : goal.find-requires-clause-ready
find-requires-clause-ready g c = subst (λ (p : GtsParts). IsListReady p c.args.stepper.now.values c.args.latest.now.ready)
    (sym c.requires.same) c.requires.latest.ready

pub returns-in_err-find-in-Enabled-clause-answers : goal.returns-in_err-find-in-Enabled-clause-answers
returns-in_err-find-in-Enabled-clause-answers g c = λ system views.
    let r = err_from_is_err_and c.from_residual-in_err-find-in-Enabled.result
    c.from_residual-in_err-find-in-Enabled.ensures.1 in
    rw c.in-Enabled.is (answers_as (r.1 ∙ ap Err r.2)
    (out_of_memory c.args.gts.now c.requires.sound system views c.requires.below c.requires.latest.total))

pub listed-requires : goal.listed-requires
listed-requires g c =
    let p = c.args.gts.now in
    let ready = subst (λ (q : GtsParts). AreReadyWays q c.args.stepper.now.values c.find.new.ready.ways.items)
    c.requires.same c.in_ok-find-in-Enabled.ensures.found in
    subst (AreInside p) (sym c.deref-in-Enabled.ensures.value)
    (ready_inside p c.requires.sound c.args.stepper.now.values c.find.new.ready.ways.items ready)

pub returns-in_err-listed-in-Enabled-clause-answers : goal.returns-in_err-listed-in-Enabled-clause-answers
returns-in_err-listed-in-Enabled-clause-answers g c = λ system views.
    let p = c.args.gts.now in
    let at = c.args.stepper.now in
    let may = some_answers p c.requires.sound at.values in
    let ready = subst (λ (q : GtsParts). AreReadyWays q at.values c.find.new.ready.ways.items) c.requires.same
    c.in_ok-find-in-Enabled.ensures.found in
    let e = ap (λ (ways : List WayId). line (codes "enabled") ++ way_lines p ways)
    (c.deref-in-Enabled.ensures.value ∙ ready.are may.0 may.1) in
    let r = err_from_is_err_and c.from_residual-in_err-listed-in-Enabled.result
    c.from_residual-in_err-listed-in-Enabled.ensures.1 in
    rw c.in-Enabled.is (answers_as (r.1 ∙ ap Err r.2)
    (on_cut p c.requires.sound system views at.below at.values _ (list_on p c.requires.sound system views at)
    c.requires.below c.requires.latest.total (writes_as _ _ e c.in_err-listed-in-Enabled.ensures)))

pub returns-in_ok-listed-in-Enabled-clause-answers : goal.returns-in_ok-listed-in-Enabled-clause-answers
returns-in_ok-listed-in-Enabled-clause-answers g c = λ system views.
    let p = c.args.gts.now in
    let at = c.args.stepper.now in
    let may = some_answers p c.requires.sound at.values in
    let ready = subst (λ (q : GtsParts). AreReadyWays q at.values c.find.new.ready.ways.items) c.requires.same
    c.in_ok-find-in-Enabled.ensures.found in
    let e = ap (λ (ways : List WayId). line (codes "enabled") ++ way_lines p ways)
    (c.deref-in-Enabled.ensures.value ∙ ready.are may.0 may.1) in
    rw c.in-Enabled.is
    (goes_on (writes_as _ _ e c.in_ok-listed-in-Enabled.ensures) (list_on p c.requires.sound system views at))
