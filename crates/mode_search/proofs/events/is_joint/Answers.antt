use Rattle.std.proofs.Common.{◌≤◌, true, false, sym, subst, List, length, arith}
use Rattle.ar_base.specs.Lists.{Stands}
use Rattle.ar_base.proofs.Standing.{stands_within, stands_item}
use Rattle.ar_meaning.specs.Found.{IsAnswer}
use Rattle.gts_core.specs.declared.system.Way.{Way}
use Rattle.gts_core.specs.declared.system.WayBody.{WayBody}
use Rattle.mode_search.specs.Events.{IsSync}
use Rattle.mode_search.proofs.Marking.{joint_of}
use Rattle.mode_search.proofs.events.is_joint.Goals as goal

pub returns-in-Local : goal.returns-in-Local
returns-in-Local c =
    let e = c.in-Some.ensures.lookup in
    let st = subst (λ (z : List Way). Stands z c.args.way.n c.in-Some.way.now) c.deref.ensures.value
    (stands_item c.deref.result.now c.args.way.n c.in-Some.way.now e.3.0 e.1) in
    joint_of c.args.parts.now c.args.way.n c.in-Some.way.now false st
    (subst (λ (z : WayBody). IsAnswer false (IsSync z)) (sym c.in-Local.is) (λ h. h))

pub returns-in-Sync : goal.returns-in-Sync
returns-in-Sync c =
    let e = c.in-Some.ensures.lookup in
    let st = subst (λ (z : List Way). Stands z c.args.way.n c.in-Some.way.now) c.deref.ensures.value
    (stands_item c.deref.result.now c.args.way.n c.in-Some.way.now e.3.0 e.1) in
    joint_of c.args.parts.now c.args.way.n c.in-Some.way.now true st
    (subst (λ (z : WayBody). IsAnswer true (IsSync z)) (sym c.in-Sync.is) tt)

pub returns-in-None : goal.returns-in-None
returns-in-None c = λ h.
    let past = subst (λ (z : List Way). length z ≤ c.args.way.n) c.deref.ensures.value c.in-None.ensures.lookup.3 in
    let within = stands_within c.args.parts.now.ways.items c.args.way.n h.way h.stands in
    omega arith
