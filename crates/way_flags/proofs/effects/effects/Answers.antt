use Rattle.std.proofs.Common.{◌≡◌, ◌<◌, ℕ, ◌+◌, ◌++◌, ◌∷◌, [], List, Option, Some, take, get_or, slice_get, append-nil, Vec, Global, sym, ap, subst, ◌∙◌}
use Rattle.std.proofs.lemmas.List.{take_all, take_more}
use Rattle.ar_base.specs.Numbers.{WayId}
use Rattle.ar_base.proofs.Standing.{stands_get}
use Rattle.gts_core.specs.declared.system.Assign.{Assign}
use Rattle.gts_core.specs.declared.system.Way.{Way}
use Rattle.gts_core.specs.declared.system.WayBody.{WayBody}
use Rattle.way_flags.proofs.Lists.{read_stands}
use Rattle.way_flags.specs.Effects.{action_effects, body_effects, found_effects, taken_effects}
use Rattle.way_flags.specs.declared.effects.Effect.{Effect}
use Rattle.way_flags.proofs.Growing.{taken_more}
use Rattle.way_flags.proofs.effects.effects.Goals as goal
use Rattle.way_flags.proofs.effects.effects.Goals.{in-Local+in_ok-add_reached-in-Local, in-Sync}

no_way : WayId
no_way = record { n = 0; of = record {} }

pub loop-way-init : goal.loop-way-init
loop-way-init c = c.new-all.ensures.items

pub index-requires : goal.index-requires
unfolding no_way
index-requires c =
    let ids = c.args.ways.now in
    let i = c.loop-way.way-index in
    let id : WayId = get_or ids i no_way in
    subst (λ (z : ℕ). id.n < z) (sym c.args.parts.now.ways.ok.0)
    (c.requires i id (stands_get ids i no_way c.loop-way-test.true))

pub loop-way-preserved : goal.loop-way-preserved
unfolding no_way
loop-way-preserved c =
    let t = c.args.values.now in
    let ways = c.args.parts.now.ways.items in
    let ids = c.args.ways.now in
    let i = c.loop-way.way-index in
    let id : WayId = get_or ids i no_way in
    let w : Way = c.index.result.now in
    let more : take (i + 1) ids ≡ take i ids ++ id ∷ [] = take_more ids i no_way c.loop-way-test.true in
    let st : slice_get ways id.n ≡ Some w =
    read_stands ways id.n w (c.requires i id (stands_get ids i no_way c.loop-way-test.true)) c.index.ensures in
    let old = c.loop-way.all.items in
    let added : c.match-index.all.items ≡ old ++ body_effects t w.body = elim c.match-index.branch [
      | in-Local+in_ok-add_reached-in-Local v ↦
          ap (λ (z : Vec Effect Global). z.items) v.all-is ∙ v.in_ok-add_reached-in-Local.ensures
          ∙ ap (λ (z : List Assign). old ++ action_effects t z) v.deref.ensures.value
          ∙ ap (λ (z : WayBody). old ++ body_effects t z) (sym v.in-Local.is)
      | in-Sync v ↦
          ap (λ (z : Vec Effect Global). z.items) v.all-is ∙ sym (append-nil old)
          ∙ ap (λ (z : WayBody). old ++ body_effects t z) (sym v.in-Sync.is)
    ] in
    added ∙ ap (λ (z : List Effect). z ++ body_effects t w.body) c.loop-way.invariant
    ∙ ap (λ (z : Option Way). taken_effects t ways (take i ids) ++ found_effects t z) (sym st)
    ∙ sym (taken_more t ways (take i ids) id) ∙ ap (taken_effects t ways) (sym more)

pub returns : goal.returns
returns c = c.loop-way.invariant ∙ ap (taken_effects c.args.values.now c.args.parts.now.ways.items)
    (take_all c.loop-way.way-index c.args.ways.now c.loop-way-test.false)
