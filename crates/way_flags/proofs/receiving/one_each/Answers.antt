use Rattle.std.proofs.Common.{false, get_or}
use Rattle.ar_base.proofs.Standing.{stands_get}
use Rattle.domains.specs.declared.Value.TheVariants.{Truth}
use Rattle.way_flags.specs.declared.effects.Effect.{Effect}
use Rattle.way_flags.proofs.Pairing.{each_next, each_all}
use Rattle.way_flags.proofs.receiving.one_each.Goals as goal

no_effect : Effect
no_effect = record { target = record { n = 0; of = record {} }; value = Truth false }

pub loop-effect-preserved : goal.loop-effect-preserved
unfolding no_effect
loop-effect-preserved c =
    let effects = c.args.effects.now in
    let i = c.loop-effect.effect-index in
    each_next effects c.requires i (get_or effects i no_effect) (stands_get effects i no_effect c.loop-effect-test.true)
    c.loop-effect.new.items c.loop-effect.invariant c.add_one.new.new.items c.in_ok-add_one.ensures

pub returns : goal.returns
returns c = each_all c.args.effects.now c.loop-effect.effect-index c.loop-effect.new.items c.loop-effect-test.false
    c.loop-effect.invariant
