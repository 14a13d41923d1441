use Rattle.std.proofs.Common.{◌≡◌, ℕ, ◌++◌, length, take, drop, get_or, arith}
use Rattle.std.proofs.lemmas.List.{take_at}
use Rattle.ar_base.proofs.Standing.{stands_get}
use Rattle.ar_base.specs.Stages.{fits}
use Rattle.sync_expand.specs.Tallies.{IsByRank}
use Rattle.sync_expand.proofs.DeclaredLemmas.{declared_length}
use Rattle.sync_expand.proofs.Ordering.{event_within, parts_counted, counted_next, counted_all}
use Rattle.sync_expand.proofs.counting.count_ways.Goals as goal

pub loop-event-init : goal.loop-event-init
loop-event-init c = (c.in_ok-counts.ensures, λ counts are. record { done = λ j e l s. absurd (omega (arith, l)) })

pub count_event-requires-clause-event : goal.count_event-requires-clause-event
count_event-requires-clause-event c =
    let order = c.deref-event-items.result.now in
    let by : IsByRank (length c.args.events.now) c.args.ranks.now order = rw c.deref-event-items.ensures.value c.in_ok-order.ensures in
    let i = c.loop-event.event-index in
    event_within c.args.events.now c.args.ranks.now order by i (get_or order i 0)
    (stands_get order i 0 c.loop-event-test.true)

pub count_event-requires-clause-parts : goal.count_event-requires-clause-parts
count_event-requires-clause-parts c = λ counts are d there.
    let order = c.deref-event-items.result.now in
    let by : IsByRank (length c.args.events.now) c.args.ranks.now order = rw c.deref-event-items.ensures.value c.in_ok-order.ensures in
    let i = c.loop-event.event-index in
    rw c.deref_mut.ensures.value
    (parts_counted c.args.events.now c.args.ranks.now order by c.requires.falls c.requires.expandable counts
    c.loop-event.counts.items i (get_or order i 0) (stands_get order i 0 c.loop-event-test.true)
    (c.loop-event.invariant.1 counts are) d there)

pub loop-event-preserved : goal.loop-event-preserved
loop-event-preserved c =
    let order = c.deref-event-items.result.now in
    let by : IsByRank (length c.args.events.now) c.args.ranks.now order = rw c.deref-event-items.ensures.value c.in_ok-order.ensures in
    let i = c.loop-event.event-index in
    let old = c.loop-event.counts in
    let new = c.count_event.new.found in
    let n : length new ≡ old.len = omega (arith, c.count_event.auto.found, c.deref_mut.ensures.len, old.ok.0) in
    let same : take old.len (new ++ drop (length new) old.items) ≡ new = take_at new (drop (length new) old.items) old.len n in
    rw same (
      omega (arith, n, old.ok.0, c.loop-event.invariant.0),
      λ counts are. counted_next c.args.events.now c.args.ranks.now order by counts old.items new i (get_or order i 0)
          (stands_get order i 0 c.loop-event-test.true)
          (rw c.deref_mut.ensures.value at (c.in_ok-count_event.ensures.ok counts are))
          (c.loop-event.invariant.1 counts are),
    )

pub returns : goal.returns
returns c = λ counts are.
    let order = c.deref-event-items.result.now in
    let by : IsByRank (length c.args.events.now) c.args.ranks.now order = rw c.deref-event-items.ensures.value c.in_ok-order.ensures in
    let all = counted_all c.args.events.now c.args.ranks.now order by counts c.loop-event.counts.items
    c.loop-event.event-index c.loop-event-test.false (let l = are.long in let d = declared_length 0 c.args.events.now in omega (arith, l, d))
    c.loop-event.invariant.0 (c.loop-event.invariant.1 counts are) in
    (counts, fits all.1, all.0)
