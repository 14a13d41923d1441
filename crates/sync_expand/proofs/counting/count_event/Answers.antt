use Rattle.std.proofs.Common.{◌<◌, length, min, ap, ◌∙◌, arith}
use Rattle.ar_base.specs.Stages.{passes_it}
use Rattle.ar_base.proofs.Standing.{stands_get}
use Rattle.sync_expand.proofs.KnownLemmas.{count_big, count_small}
use Rattle.sync_expand.proofs.Ordering.{ways_agree}
use Rattle.sync_expand.proofs.counting.count_event.Goals as goal

pub returns-then-count-ge-TOO_MANY-clause-err : goal.returns-then-count-ge-TOO_MANY-clause-err
returns-then-count-ge-TOO_MANY-clause-err c = λ counts are.
    let s = stands_get c.args.events.now c.args.event c.index-events-place.result (omega arith) in
    let e = (rw c.deref.ensures.value at c.way_count-count.ensures)
    ∙ ap (min 257) (ways_agree c.args.found.now counts _ (c.requires.parts counts are _ s)) in
    passes_it (count_big counts c.args.events.now c.args.event _ c.way_count-count.result s are e
    c.if-count-ge-TOO_MANY.true)

pub returns-clause-ok : goal.returns-clause-ok
returns-clause-ok c = λ counts are.
    let s = stands_get c.args.events.now c.args.event c.index-events-place.result (omega arith) in
    let e = (rw c.deref.ensures.value at c.way_count-count.ensures)
    ∙ ap (min 257) (ways_agree c.args.found.now counts _ (c.requires.parts counts are _ s)) in
    let l : c.args.event < length c.args.found.now = omega arith in
    count_small counts c.args.events.now c.args.found.now c.args.event _ c.way_count-count.result s are l e
    c.if-count-ge-TOO_MANY.false
