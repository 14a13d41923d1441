use Rattle.std.proofs.Common.{◌-◌, false, get_or, arith}
use Rattle.ar_base.specs.Lists.{Stands}
use Rattle.ar_base.proofs.Standing.{stands_get}
use Rattle.domains.specs.declared.Value.TheVariants.{Truth}
use Rattle.way_flags.specs.declared.effects.Effect.{Effect}
use Rattle.way_flags.proofs.Neighbours.{agree_next, none_lesser, none_two, two_there}
use Rattle.way_flags.proofs.receiving.first_clash.Goals as goal

no_effect : Effect
no_effect = record { target = record { n = 0; of = record {} }; value = Truth false }

pub returns-then-clash : goal.returns-then-clash
unfolding no_effect
returns-then-clash c =
    let effects = c.args.effects.now in
    let i = c.loop-place.place in
    let at : Stands effects i (get_or effects i no_effect) = stands_get effects i no_effect c.loop-place-test.true in
    let before : Stands effects (i - 1) (get_or effects (i - 1) no_effect) = stands_get effects (i - 1) no_effect (let h = c.loop-place-test.true in omega (arith, h)) in (
      two_there effects (i - 1) i (get_or effects (i - 1) no_effect) (get_or effects i no_effect) before
          at c.if-clash.ensures,
      none_lesser effects c.requires i (get_or effects i no_effect) at c.loop-place.invariant,
    )

pub loop-place-preserved : goal.loop-place-preserved
unfolding no_effect
loop-place-preserved c =
    let effects = c.args.effects.now in
    let i = c.loop-place.place in
    let at : Stands effects i (get_or effects i no_effect) = stands_get effects i no_effect c.loop-place-test.true in
    let before : Stands effects (i - 1) (get_or effects (i - 1) no_effect) = stands_get effects (i - 1) no_effect (let h = c.loop-place-test.true in omega (arith, h)) in
    agree_next effects i (i - 1) (get_or effects (i - 1) no_effect) (get_or effects i no_effect) (let h = c.loop-place.auto.place in omega (arith, h)) before at c.if-clash.ensures c.loop-place.invariant

pub returns : goal.returns
returns c = none_two c.args.effects.now c.requires c.loop-place.place c.loop-place-test.false c.loop-place.invariant
