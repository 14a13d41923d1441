use Rattle.std.proofs.Common.{length, refl}
use Rattle.std.proofs.lemmas.Option.{slice_get_read}
use Rattle.ar_base.specs.Lists.{Stands}
use Rattle.event_order.proofs.Taking.{takes_more}
use Rattle.event_order.proofs.numbering.Numbering.take.Goals as goal

pub returns : goal.returns
returns c =
    let trees = c.args.trees.now in
    let place = c.args.place in
    let tree = c.index-trees-place.result in
    let stands : Stands trees place tree =
    slice_get_read trees (length trees) place tree refl c.requires.place c.index-trees-place.is in
    let e = c.in_ok-tree.ensures in
    takes_more trees place c.args.self.now (record { trees = c.push.new.self; numbers = c.renumber.new.self }) tree
    c.in_ok-tree.tree c.requires.taken stands (c.requires.fresh tree stands) e.names e.numbers e.renumbered e.next
    c.in_ok-push.ensures.items
