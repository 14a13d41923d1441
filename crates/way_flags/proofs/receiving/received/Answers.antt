use Rattle.std.proofs.Common.{◌≡◌, List, Some, None, refl, sym, ap, ◌∙◌, subst}
use Rattle.ar_base.specs.Lists.{Stands}
use Rattle.ar_base.specs.Numbers.{WayId}
use Rattle.way_flags.specs.Effects.{taken_effects}
use Rattle.way_flags.specs.Receiving.{AreToState, AreOneEach, IsLeastClash, IsLeastLeaving}
use Rattle.way_flags.specs.declared.effects.Effect.{Effect}
use Rattle.way_flags.proofs.Meeting.{taker_within}
use Rattle.way_flags.proofs.Stepping.{moved_to_state, new_values, clash_step, range_step, exactly, ready}
use Rattle.way_flags.proofs.Writing.{written_state}
use Rattle.way_flags.proofs.receiving.received.Goals as goal

pub effects-requires : goal.effects-requires
effects-requires c = λ k id s.
    taker_within c.args.parts.now c.requires.sound c.args.flags.now c.args.way.n c.requires.inside id.n
    (c.in_ok-ways.ensures.sound id.n (record {
      place = k;
      way = id;
      stands = subst (λ (z : List WayId). Stands z k id) c.deref.ensures.value s;
      number = refl;
    }))

pub returns-in-Some-clause-fault : goal.returns-in-Some-clause-fault
returns-in-Some-clause-fault c = λ w m.
    let p = c.args.parts.now in
    let t = c.args.values.now in
    let ids = c.in_ok-ways.ways.items in
    let all = c.in_ok-all.all.items in
    let sorted = c.in_ok-effects.effects.items in
    let is : all ≡ taken_effects t p.ways.items ids =
    c.in_ok-all.ensures ∙ ap (taken_effects t p.ways.items) c.deref.ensures.value in
    let states : AreToState p sorted =
    moved_to_state p c.requires.sound t ids all sorted is c.in_ok-effects.ensures.same in
    let found : IsLeastClash sorted (Some c.in-Some.variable) =
    subst (λ (z : List Effect). IsLeastClash z (Some c.in-Some.variable)) c.deref-2.ensures.value
    c.in-Some.ensures in
    clash_step p c.requires.sound t c.requires.total c.args.flags.now c.requires.right c.args.way.n c.requires.can ids
    c.in_ok-ways.ensures all sorted is c.in_ok-effects.ensures.same w m states c.in-Some.variable found

pub first_leaving-requires-clause-targets : goal.first_leaving-requires-clause-targets
first_leaving-requires-clause-targets c =
    let p = c.args.parts.now in
    let t = c.args.values.now in
    let ids = c.in_ok-ways.ways.items in
    let all = c.in_ok-all.all.items in
    let sorted = c.in_ok-effects.effects.items in
    let is : all ≡ taken_effects t p.ways.items ids =
    c.in_ok-all.ensures ∙ ap (taken_effects t p.ways.items) c.deref.ensures.value in
    let states : AreToState p sorted =
    moved_to_state p c.requires.sound t ids all sorted is c.in_ok-effects.ensures.same in
    subst (λ (z : List Effect). AreToState p z) (sym c.deref-3.ensures.value) states

pub returns-in-Some-first_leaving-clause-fault : goal.returns-in-Some-first_leaving-clause-fault
returns-in-Some-first_leaving-clause-fault c = λ w m.
    let p = c.args.parts.now in
    let t = c.args.values.now in
    let ids = c.in_ok-ways.ways.items in
    let all = c.in_ok-all.all.items in
    let sorted = c.in_ok-effects.effects.items in
    let is : all ≡ taken_effects t p.ways.items ids =
    c.in_ok-all.ensures ∙ ap (taken_effects t p.ways.items) c.deref.ensures.value in
    let none : IsLeastClash sorted None =
    subst (λ (z : List Effect). IsLeastClash z None) c.deref-2.ensures.value c.in_default.ensures in
    let found : IsLeastLeaving p sorted (Some c.in-Some-first_leaving.variable) =
    subst (λ (z : List Effect). IsLeastLeaving p z (Some c.in-Some-first_leaving.variable))
    c.deref-3.ensures.value c.in-Some-first_leaving.ensures in
    range_step p c.requires.sound t c.requires.total c.args.flags.now c.requires.right c.args.way.n c.requires.can ids
    c.in_ok-ways.ensures all sorted is c.in_ok-effects.ensures.same w m c.in-Some-first_leaving.variable none found

pub returns-clause-new : goal.returns-clause-new
returns-clause-new c =
    let p = c.args.parts.now in
    let t = c.args.values.now in
    let ids = c.in_ok-ways.ways.items in
    let all = c.in_ok-all.all.items in
    let sorted = c.in_ok-effects.effects.items in
    let is : all ≡ taken_effects t p.ways.items ids =
    c.in_ok-all.ensures ∙ ap (taken_effects t p.ways.items) c.deref.ensures.value in
    let states : AreToState p sorted =
    moved_to_state p c.requires.sound t ids all sorted is c.in_ok-effects.ensures.same in
    let keeps : IsLeastLeaving p sorted None =
    subst (λ (z : List Effect). IsLeastLeaving p z None) c.deref-3.ensures.value
    c.in_default-first_leaving.ensures in
    let each : AreOneEach sorted c.in_ok-one_each.field-0.items =
    subst (λ (z : List Effect). AreOneEach z c.in_ok-one_each.field-0.items) c.deref-4.ensures.value
    c.in_ok-one_each.ensures in
    new_values p sorted c.in_ok-one_each.field-0.items states keeps each

pub returns-clause-state : goal.returns-clause-state
returns-clause-state c =
    let p = c.args.parts.now in
    let t = c.args.values.now in
    let ids = c.in_ok-ways.ways.items in
    let all = c.in_ok-all.all.items in
    let sorted = c.in_ok-effects.effects.items in
    let is : all ≡ taken_effects t p.ways.items ids =
    c.in_ok-all.ensures ∙ ap (taken_effects t p.ways.items) c.deref.ensures.value in
    let states : AreToState p sorted =
    moved_to_state p c.requires.sound t ids all sorted is c.in_ok-effects.ensures.same in
    let keeps : IsLeastLeaving p sorted None =
    subst (λ (z : List Effect). IsLeastLeaving p z None) c.deref-3.ensures.value
    c.in_default-first_leaving.ensures in
    let each : AreOneEach sorted c.in_ok-one_each.field-0.items =
    subst (λ (z : List Effect). AreOneEach z c.in_ok-one_each.field-0.items) c.deref-4.ensures.value
    c.in_ok-one_each.ensures in
    written_state p t c.in_ok-one_each.field-0.items c.requires.total
    (new_values p sorted c.in_ok-one_each.field-0.items states keeps each)

pub returns-clause-exactly : goal.returns-clause-exactly
returns-clause-exactly c = λ w m.
    let p = c.args.parts.now in
    let t = c.args.values.now in
    let ids = c.in_ok-ways.ways.items in
    let all = c.in_ok-all.all.items in
    let sorted = c.in_ok-effects.effects.items in
    let is : all ≡ taken_effects t p.ways.items ids =
    c.in_ok-all.ensures ∙ ap (taken_effects t p.ways.items) c.deref.ensures.value in
    let none : IsLeastClash sorted None =
    subst (λ (z : List Effect). IsLeastClash z None) c.deref-2.ensures.value c.in_default.ensures in
    let each : AreOneEach sorted c.in_ok-one_each.field-0.items =
    subst (λ (z : List Effect). AreOneEach z c.in_ok-one_each.field-0.items) c.deref-4.ensures.value
    c.in_ok-one_each.ensures in
    exactly p c.requires.sound t c.requires.total c.args.flags.now c.requires.right c.args.way.n c.requires.can ids
    c.in_ok-ways.ensures all sorted is c.in_ok-effects.ensures.same w m none c.in_ok-one_each.field-0.items each

pub returns-clause-received : goal.returns-clause-received
returns-clause-received c = λ w m.
    let p = c.args.parts.now in
    let t = c.args.values.now in
    let ids = c.in_ok-ways.ways.items in
    let all = c.in_ok-all.all.items in
    let sorted = c.in_ok-effects.effects.items in
    let is : all ≡ taken_effects t p.ways.items ids =
    c.in_ok-all.ensures ∙ ap (taken_effects t p.ways.items) c.deref.ensures.value in
    let none : IsLeastClash sorted None =
    subst (λ (z : List Effect). IsLeastClash z None) c.deref-2.ensures.value c.in_default.ensures in
    let keeps : IsLeastLeaving p sorted None =
    subst (λ (z : List Effect). IsLeastLeaving p z None) c.deref-3.ensures.value
    c.in_default-first_leaving.ensures in
    let each : AreOneEach sorted c.in_ok-one_each.field-0.items =
    subst (λ (z : List Effect). AreOneEach z c.in_ok-one_each.field-0.items) c.deref-4.ensures.value
    c.in_ok-one_each.ensures in
    ready p c.requires.sound t c.requires.total c.args.flags.now c.requires.right c.args.way.n c.requires.can ids
    c.in_ok-ways.ensures all sorted is c.in_ok-effects.ensures.same w m none keeps c.in_ok-one_each.field-0.items
    each
