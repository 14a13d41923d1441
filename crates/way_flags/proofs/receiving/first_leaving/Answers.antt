use Rattle.std.proofs.Common.{◌≡◌, ◌∙◌, sym, false, true≢false, get_or, length, vec_len, refl, arith}
use Rattle.ar_base.specs.Lists.{Stands}
use Rattle.ar_base.proofs.Standing.{stands_get, stands_within}
use Rattle.domains.specs.declared.Value.TheVariants.{Truth}
use Rattle.way_flags.proofs.Lists.{read_stands}
use Rattle.way_flags.specs.declared.effects.Effect.{Effect}
use Rattle.way_flags.proofs.Pairing.{keep_next, keeps_all, keeps_lesser, leaves_there}
use Rattle.way_flags.proofs.receiving.first_leaving.Goals as goal

no_effect : Effect
no_effect = record { target = record { n = 0; of = record {} }; value = Truth false }

pub index-requires : goal.index-requires
unfolding no_effect
index-requires c =
    let p = c.args.parts.now in
    let effects = c.args.effects.now in
    let i = c.loop-effect.effect-index in
    let e : Effect = get_or effects i no_effect in
    let x = c.requires.targets e.target.n e.value
    (record {
      place = i;
      effect = e;
      stands = stands_get effects i no_effect c.loop-effect-test.true;
      target = refl;
      value = refl;
    }) in
    let w = stands_within p.variables.items e.target.n x.variable x.stands in
    let count : vec_len p.variables ≡ length p.variables.items = omega (arith, p.variables.ok.0) in
    omega (arith, w, count)

pub holds-requires : goal.holds-requires
unfolding no_effect
holds-requires c =
    let p = c.args.parts.now in
    let effects = c.args.effects.now in
    let i = c.loop-effect.effect-index in
    let e : Effect = get_or effects i no_effect in
    let x = c.requires.targets e.target.n e.value
    (record {
      place = i;
      effect = e;
      stands = stands_get effects i no_effect c.loop-effect-test.true;
      target = refl;
      value = refl;
    }) in
    let w = stands_within p.variables.items e.target.n x.variable x.stands in
    (c.requires.sound.variables e.target.n c.index.result.now
    (read_stands p.variables.items e.target.n c.index.result.now w c.index.ensures)).domain

pub returns-then-not-holds : goal.returns-then-not-holds
unfolding no_effect
returns-then-not-holds c =
    let p = c.args.parts.now in
    let effects = c.args.effects.now in
    let i = c.loop-effect.effect-index in
    let e : Effect = get_or effects i no_effect in
    let at : Stands effects i e = stands_get effects i no_effect c.loop-effect-test.true in
    let x = c.requires.targets e.target.n e.value
    (record { place = i; effect = e; stands = at; target = refl; value = refl }) in
    let w = stands_within p.variables.items e.target.n x.variable x.stands in
    let there : Stands p.variables.items e.target.n c.index.result.now = read_stands p.variables.items e.target.n c.index.result.now w c.index.ensures in (
      leaves_there p effects i e c.index.result.now at there
          (λ h. true≢false (sym (c.holds.ensures.1 h) ∙ c.if-not-holds.true)),
      keeps_lesser p effects c.requires.ordered i e at c.loop-effect.invariant,
    )

pub loop-effect-preserved : goal.loop-effect-preserved
unfolding no_effect
loop-effect-preserved c =
    let p = c.args.parts.now in
    let effects = c.args.effects.now in
    let i = c.loop-effect.effect-index in
    let e : Effect = get_or effects i no_effect in
    let at : Stands effects i e = stands_get effects i no_effect c.loop-effect-test.true in
    let x = c.requires.targets e.target.n e.value
    (record { place = i; effect = e; stands = at; target = refl; value = refl }) in
    let w = stands_within p.variables.items e.target.n x.variable x.stands in
    let there : Stands p.variables.items e.target.n c.index.result.now =
    read_stands p.variables.items e.target.n c.index.result.now w c.index.ensures in
    keep_next p effects i e c.index.result.now at there (c.holds.ensures.0 c.if-not-holds.false) c.loop-effect.invariant

pub returns : goal.returns
returns c = keeps_all c.args.parts.now c.args.effects.now c.loop-effect.effect-index c.loop-effect-test.false
    c.loop-effect.invariant
