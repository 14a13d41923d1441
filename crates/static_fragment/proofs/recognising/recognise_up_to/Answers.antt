use Rattle.std.proofs.Common.{List, Ok, Err, refl, sym, ◌∙◌, ap, subst, arith}
use Rattle.std.proofs.lemmas.Result.{err_from_is_err_and}
use Rattle.ar_firing.specs.Forest.{IsForest}
use Rattle.ar_firing.specs.Rules.{S1, S2, AtVariable, KeepsUpTo}
use Rattle.gts_core.specs.View.{Views}
use Rattle.gts_core.specs.Sound.{IsSound}
use Rattle.gts_core.specs.declared.system.GtsParts.{GtsParts}
use Rattle.mode_search.specs.Events.{plain_event_numbers}
use Rattle.mode_search.specs.declared.kept.KeptWay.{KeptWay}
use Rattle.mode_trees.specs.Views.{trees_of, number_in}
use Rattle.mode_trees.specs.Ways.{OwnTheirWays}
use Rattle.mode_search.specs.declared.searching.Reach.{Reach}
use Rattle.mode_search.specs.Reaches.{IsAgainAt}
use Rattle.static_fragment.specs.Recognised.{IsRefusedUpTo}
use Rattle.static_fragment.specs.Stages.{HasKeptWays, HasReaches, IsSeenBelow, AreFromWays, NoneAgain}
use Rattle.static_fragment.proofs.Judging.{if_err, nowhere, judged6, events_judged, reaches_on, sharing_on}
use Rattle.static_fragment.proofs.Forests.{is_forest, own_ways, trees_as}
use Rattle.static_fragment.proofs.recognising.recognise_up_to.Goals as goal

pub returns-in_err-units-clause-outside : goal.returns-in_err-units-clause-outside
returns-in_err-units-clause-outside c = λ system views.
    let v = subst (λ (z : GtsParts). Views z system) (sym c.parts-parts.ensures.parts) views in
    let d = plain_event_numbers c.args.dropped.now in
    let order = c.args.order in
    let x = err_from_is_err_and c.from_residual.result c.from_residual.ensures.1 in
    if_err (IsRefusedUpTo order system d) c.from_residual.result _ (x.1 ∙ ap Err x.2)
    (c.in_err-units.ensures.rules order system d (v, refl))

pub returns-in_err-kept-clause-outside : goal.returns-in_err-kept-clause-outside
returns-in_err-kept-clause-outside c = λ system views.
    let v = subst (λ (z : GtsParts). Views z system) (sym c.parts-parts.ensures.parts) views in
    let d = plain_event_numbers c.args.dropped.now in
    let order = c.args.order in
    let u = c.in_ok-units.ensures.rules order system d (v, refl) in
    let x = err_from_is_err_and c.from_residual-in_err-kept.result c.from_residual-in_err-kept.ensures.1 in
    if_err (IsRefusedUpTo order system d) c.from_residual-in_err-kept.result _ (x.1 ∙ ap Err x.2)
    (c.in_err-kept.ensures.rules order system d u)

pub returns-in_err-reaches-clause-outside : goal.returns-in_err-reaches-clause-outside
returns-in_err-reaches-clause-outside c = λ system views.
    let v = subst (λ (z : GtsParts). Views z system) (sym c.parts-parts.ensures.parts) views in
    let d = plain_event_numbers c.args.dropped.now in
    let order = c.args.order in
    let u = c.in_ok-units.ensures.rules order system d (v, refl) in
    let p = c.parts-parts.result.now in
    let w = subst (λ (z : List KeptWay). HasKeptWays p z system d) (sym c.deref.ensures.value)
    (c.in_ok-kept.ensures.rules order system d u) in
    let x = err_from_is_err_and c.from_residual-in_err-reaches.result c.from_residual-in_err-reaches.ensures.1 in
    if_err (IsRefusedUpTo order system d) c.from_residual-in_err-reaches.result _ (x.1 ∙ ap Err x.2)
    (c.in_err-reaches.ensures.rules order system d w)

pub returns-in_err-sharing-clause-outside : goal.returns-in_err-sharing-clause-outside
returns-in_err-sharing-clause-outside c = λ system views.
    let v = subst (λ (z : GtsParts). Views z system) (sym c.parts-parts.ensures.parts) views in
    let d = plain_event_numbers c.args.dropped.now in
    let order = c.args.order in
    let u = c.in_ok-units.ensures.rules order system d (v, refl) in
    let p = c.parts-parts.result.now in
    let w = subst (λ (z : List KeptWay). HasKeptWays p z system d) (sym c.deref.ensures.value)
    (c.in_ok-kept.ensures.rules order system d u) in
    let r = c.in_ok-reaches.ensures.rules order system d w in
    let r5 = reaches_on system d 5 5 p c.in_ok-reaches.reaches.items c.deref-2.result.now r r.keeps
    c.deref-2.ensures.value in
    let x = err_from_is_err_and c.from_residual-in_err-sharing.result c.from_residual-in_err-sharing.ensures.1 in
    if_err (IsRefusedUpTo order system d) c.from_residual-in_err-sharing.result _ (x.1 ∙ ap Err x.2)
    (c.in_err-sharing.ensures order system d r5)

pub returns-in_err-at_variable-clause-outside : goal.returns-in_err-at_variable-clause-outside
returns-in_err-at_variable-clause-outside c = λ system views.
    let v = subst (λ (z : GtsParts). Views z system) (sym c.parts-parts.ensures.parts) views in
    let d = plain_event_numbers c.args.dropped.now in
    let order = c.args.order in
    let u = c.in_ok-units.ensures.rules order system d (v, refl) in
    let p = c.parts-parts.result.now in
    let w = subst (λ (z : List KeptWay). HasKeptWays p z system d) (sym c.deref.ensures.value)
    (c.in_ok-kept.ensures.rules order system d u) in
    let r = c.in_ok-reaches.ensures.rules order system d w in
    let r5 = reaches_on system d 5 5 p c.in_ok-reaches.reaches.items c.deref-2.result.now r r.keeps
    c.deref-2.ensures.value in
    let s = c.in_ok-sharing.ensures order system d r5 in
    let r6 = reaches_on system d 5 6 p c.in_ok-reaches.reaches.items c.deref-3.result.now r s.keeps
    c.deref-3.ensures.value in
    let x = err_from_is_err_and c.from_residual-in_err-at_variable.result
    c.from_residual-in_err-at_variable.ensures.1 in
    if_err (IsRefusedUpTo order system d) c.from_residual-in_err-at_variable.result _ (x.1 ∙ ap Err x.2)
    (judged6 system d order p c.deref-3.result.now r6 c.least_again.result c.least_again.ensures (Err _)
    c.in_err-at_variable.ensures)

pub returns-in_err-judge_values-clause-outside : goal.returns-in_err-judge_values-clause-outside
returns-in_err-judge_values-clause-outside c = λ system views.
    let v = subst (λ (z : GtsParts). Views z system) (sym c.parts-parts.ensures.parts) views in
    let d = plain_event_numbers c.args.dropped.now in
    let order = c.args.order in
    let u = c.in_ok-units.ensures.rules order system d (v, refl) in
    let p = c.parts-parts.result.now in
    let w = subst (λ (z : List KeptWay). HasKeptWays p z system d) (sym c.deref.ensures.value)
    (c.in_ok-kept.ensures.rules order system d u) in
    let r = c.in_ok-reaches.ensures.rules order system d w in
    let r5 = reaches_on system d 5 5 p c.in_ok-reaches.reaches.items c.deref-2.result.now r r.keeps
    c.deref-2.ensures.value in
    let s = c.in_ok-sharing.ensures order system d r5 in
    let r6 = reaches_on system d 5 6 p c.in_ok-reaches.reaches.items c.deref-3.result.now r s.keeps
    c.deref-3.ensures.value in
    let r7 : HasReaches 7 p c.deref-3.result.now system d = judged6 system d order p c.deref-3.result.now r6
    c.least_again.result c.least_again.ensures (Ok _) c.in_ok-at_variable.ensures in
    let seen : IsSeenBelow 7 p system d = record { views = v; keeps = r7.keeps } in
    let x = err_from_is_err_and c.from_residual-in_err-judge_values.result c.from_residual-in_err-judge_values.ensures.1
    in
    if_err (IsRefusedUpTo order system d) c.from_residual-in_err-judge_values.result _ (x.1 ∙ ap Err x.2)
    (c.in_err-judge_values.ensures order system d seen)

pub returns-in_err-at_whole-clause-outside : goal.returns-in_err-at_whole-clause-outside
returns-in_err-at_whole-clause-outside c = λ system views.
    let v = subst (λ (z : GtsParts). Views z system) (sym c.parts-parts.ensures.parts) views in
    let d = plain_event_numbers c.args.dropped.now in
    let order = c.args.order in
    let u = c.in_ok-units.ensures.rules order system d (v, refl) in
    let p = c.parts-parts.result.now in
    let w = subst (λ (z : List KeptWay). HasKeptWays p z system d) (sym c.deref.ensures.value)
    (c.in_ok-kept.ensures.rules order system d u) in
    let r = c.in_ok-reaches.ensures.rules order system d w in
    let r5 = reaches_on system d 5 5 p c.in_ok-reaches.reaches.items c.deref-2.result.now r r.keeps
    c.deref-2.ensures.value in
    let s = c.in_ok-sharing.ensures order system d r5 in
    let r6 = reaches_on system d 5 6 p c.in_ok-reaches.reaches.items c.deref-3.result.now r s.keeps
    c.deref-3.ensures.value in
    let r7 : HasReaches 7 p c.deref-3.result.now system d = judged6 system d order p c.deref-3.result.now r6
    c.least_again.result c.least_again.ensures (Ok _) c.in_ok-at_variable.ensures in
    let seen : IsSeenBelow 7 p system d = record { views = v; keeps = r7.keeps } in
    let n = c.in_ok-judge_values.ensures order system d seen in
    let s8 = sharing_on system d 6 8 c.in_ok-sharing.sharing s n.keeps in
    let x = err_from_is_err_and c.from_residual-in_err-at_whole.result c.from_residual-in_err-at_whole.ensures.1
    in
    if_err (IsRefusedUpTo order system d) c.from_residual-in_err-at_whole.result _ (x.1 ∙ ap Err x.2)
    (events_judged system d order c.in_ok-sharing.sharing s8 c.len.result
    (omega (arith, c.len.ensures, c.in_ok-sharing.sharing.events.ok.0)) (Err _)
    c.in_err-at_whole.ensures)

pub forest-requires-clause-once : goal.forest-requires-clause-once
forest-requires-clause-once c = subst (λ (z : List Reach). NoneAgain z)
    (c.deref-3.ensures.value ∙ sym c.deref-5.ensures.value)
    (nowhere (IsAgainAt c.deref-3.result.now) 6 AtVariable c.least_again.result _ c.least_again.ensures
    c.in_ok-at_variable.ensures)

pub returns-clause-ok : goal.returns-clause-ok
returns-clause-ok c = λ system views.
    let v = subst (λ (z : GtsParts). Views z system) (sym c.parts-parts.ensures.parts) views in
    let d = plain_event_numbers c.args.dropped.now in
    let order = c.args.order in
    let u = c.in_ok-units.ensures.rules order system d (v, refl) in
    let p = c.parts-parts.result.now in
    let w = subst (λ (z : List KeptWay). HasKeptWays p z system d) (sym c.deref.ensures.value)
    (c.in_ok-kept.ensures.rules order system d u) in
    let r = c.in_ok-reaches.ensures.rules order system d w in
    let r5 = reaches_on system d 5 5 p c.in_ok-reaches.reaches.items c.deref-2.result.now r r.keeps
    c.deref-2.ensures.value in
    let s = c.in_ok-sharing.ensures order system d r5 in
    let r6 = reaches_on system d 5 6 p c.in_ok-reaches.reaches.items c.deref-3.result.now r s.keeps
    c.deref-3.ensures.value in
    let r7 : HasReaches 7 p c.deref-3.result.now system d = judged6 system d order p c.deref-3.result.now r6
    c.least_again.result c.least_again.ensures (Ok _) c.in_ok-at_variable.ensures in
    let seen : IsSeenBelow 7 p system d = record { views = v; keeps = r7.keeps } in
    let n = c.in_ok-judge_values.ensures order system d seen in
    let s8 = sharing_on system d 6 8 c.in_ok-sharing.sharing s n.keeps in
    let all : KeepsUpTo order system d = events_judged system d order c.in_ok-sharing.sharing s8 c.len.result
    (omega (arith, c.len.ensures, c.in_ok-sharing.sharing.events.ok.0)) (Ok _)
    c.in_ok-at_whole.ensures in
    let below = n.keeps in
    let r8 = reaches_on system d 5 8 p c.in_ok-reaches.reaches.items c.deref-5.result.now r below
    c.deref-5.ensures.value in
    let trees = trees_as p c.in_ok-units.units.moving.items c.deref-4.result.now c.deref-5.result.now
    c.in_ok-trees.trees c.deref-4.ensures.value c.in_ok-trees.ensures in
    let f = is_forest r8.reached (below S1 (omega arith)) (below S2 (omega arith)) v
    (subst IsSound (sym c.parts-parts.ensures.parts) c.parts-parts.ensures.sound) c.in_ok-units.units.marks.items
    c.in_ok-units.units.moving.items u.units.are_marks
    u.units.are_moving c.in_ok-trees.trees trees in
    record {
      keeps = all;
      forest = subst (λ (z : GtsParts). IsForest system d (trees_of (number_in z) c.in_ok-trees.trees))
          c.parts-parts.ensures.parts f;
    }

pub returns-clause-ways : goal.returns-clause-ways
returns-clause-ways c =
    let p = c.parts-parts.result.now in
    let found = subst (λ (z : List Reach). AreFromWays p z) (sym c.deref-5.ensures.value)
    c.in_ok-reaches.ensures.found in
    let sound = subst IsSound (sym c.parts-parts.ensures.parts) c.parts-parts.ensures.sound in
    subst (λ (z : GtsParts). OwnTheirWays z c.in_ok-trees.trees.trees.items) c.parts-parts.ensures.parts
    (own_ways found sound _ _ c.in_ok-trees.trees.trees.items c.in_ok-trees.ensures)
