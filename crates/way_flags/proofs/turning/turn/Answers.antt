use Rattle.std.proofs.Common.{◌≡◌, ◌+◌, ◌++◌, ◌∷◌, [], Bool, List, take, take_all, get_or, sym, ap, ◌∙◌}
use Rattle.std.proofs.lemmas.List.{take_more}
use Rattle.ar_base.specs.Numbers.{WayId}
use Rattle.way_flags.specs.Turning.{flags_turned}
use Rattle.way_flags.proofs.Turned.{flip, turned_last}
use Rattle.way_flags.proofs.turning.turn.Goals as goal

no_way : WayId
no_way = record { n = 0; of = record {} }

pub loop-way-preserved : goal.loop-way-preserved
unfolding no_way
loop-way-preserved c =
    let ws = c.args.ways.now in
    let first = c.args.flags.now.items in
    let i = c.loop-way.way-index in
    let w = get_or ws i no_way in
    let more : take (i + 1) ws ≡ take i ws ++ w ∷ [] = take_more ws i no_way c.loop-way-test.true in
    c.turn_one.ensures ∙ ap (λ (z : List Bool). flip z w.n) c.loop-way.invariant
    ∙ sym (ap (flags_turned first) more ∙ turned_last first (take i ws) w)

pub returns : goal.returns
returns c = c.loop-way.invariant ∙ ap (flags_turned c.args.flags.now.items)
    (take_all c.loop-way.way-index c.args.ways.now c.loop-way-test.false)
