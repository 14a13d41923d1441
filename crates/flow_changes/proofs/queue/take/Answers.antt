use Rattle.std.proofs.Common.{◌<◌, ◌≤◌, length, refl, arith}
use Rattle.ar_base.proofs.Standing.{stands_item}
use Rattle.flow_changes.proofs.Queueing.{takes_next, takes_again, none_waits}
use Rattle.flow_changes.proofs.queue.take.Goals as goal

pub returns-in-Some-clause-takes : goal.returns-in-Some-clause-takes
returns-in-Some-clause-takes c =
    takes_again c.in-Some.place c.args.work.now _ c.requires refl refl c.in-Some.ensures.some
    (λ q h. ((c.in-Some.ensures.rest q).0 h).0) (λ q h f. (c.in-Some.ensures.rest q).1 (h, f)) c.in-Some.ensures.less

pub returns-then-work-len-clause-takes : goal.returns-then-work-len-clause-takes
returns-then-work-len-clause-takes c =
    let h : length c.args.work.now.list.items ≤ c.args.work.now.next = omega arith in
    none_waits c.args.work.now h c.in_default.ensures.none

pub overflow_add-work : goal.overflow_add-work
overflow_add-work c = omega arith

pub returns-clause-takes : goal.returns-clause-takes
returns-clause-takes c =
    let work = c.args.work.now in
    let h : work.next < length work.list.items = omega arith in
    takes_next work _ c.requires refl c.in_default.ensures.none c.in_default.ensures.still c.in_default.ensures.few
    refl c.index-place.result.now (stands_item work.list.items work.next c.index-place.result.now h c.index-place.ensures)
