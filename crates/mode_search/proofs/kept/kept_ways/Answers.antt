use Rattle.std.proofs.Common.{◌≡◌, ◌<◌, ◌+◌, ℕ, Bool, false, List, None, Vec, Global, length, get_or, ap, subst, sym, arith}
use Rattle.ar_base.specs.Lists.{Stands}
use Rattle.gts_core.specs.declared.system.Event.{Event}
use Rattle.mode_search.specs.Kept.{AreKeptWaysBefore}
use Rattle.mode_search.specs.declared.kept.KeptWay.{KeptWay}
use Rattle.ar_base.proofs.Standing.{stands_item, stands_get}
use Rattle.mode_search.proofs.FirstStates.{first_there}
use Rattle.mode_search.proofs.Keeping.{kept_start, continues_marked, continues_event}
use Rattle.mode_search.proofs.kept.kept_ways.Goals as goal
use Rattle.mode_search.proofs.kept.kept_ways.Goals.{then-not-marks-n+in_ok-add_event, else-not-marks-n}

pub loop-n-init : goal.loop-n-init
loop-n-init c = subst (λ (z : List KeptWay). AreKeptWaysBefore c.args.parts.now c.args.marks.now 0 0 z)
    (sym c.new-kept.ensures.items) (kept_start c.args.parts.now c.args.marks.now)

pub add_event-requires-clause-event : goal.add_event-requires-clause-event
add_event-requires-clause-event c =
    let items = c.deref-event-items.ensures.value in
    let below = subst (λ (z : List Event). c.loop-n.n < length z) items c.loop-n-test.true in
    let is = subst (λ (z : List Event). c.event-item.result ≡ get_or z c.loop-n.n c.event-item.result) items
    c.event-item.is in
    let st = stands_item c.args.parts.now.events.items c.loop-n.n c.event-item.result below is in subst (λ (z : ℕ). Stands c.args.parts.now.events.items z c.event-item.result) (sym c.new.ensures) st

pub add_event-requires-clause-first : goal.add_event-requires-clause-first
add_event-requires-clause-first c =
    let p = c.args.parts.now in
    let x = c.event-item.result in
    let items = c.deref-event-items.ensures.value in
    let below = subst (λ (z : List Event). c.loop-n.n < length z) items c.loop-n-test.true in
    let is = subst (λ (z : List Event). x ≡ get_or z c.loop-n.n x) items c.event-item.is in
    let unit = c.requires.sound.event_units c.loop-n.n x (stands_item p.events.items c.loop-n.n x below is) in
    let first = get_or c.args.firsts.now x.unit.n None in
    first_there p x.unit.n first
    (c.requires.firsts.first x.unit.n first
    (stands_get c.args.firsts.now x.unit.n None (omega (arith, unit, c.requires.firsts.long))))

pub loop-n-preserved : goal.loop-n-preserved
loop-n-preserved c =
    let p = c.args.parts.now in
    let marks = c.args.marks.now in
    let n = c.loop-n.n in
    let x = c.event-item.result in
    let old = c.loop-n.kept.items in
    let items = c.deref-event-items.ensures.value in
    let below = subst (λ (z : List Event). n < length z) items c.loop-n-test.true in
    let is = subst (λ (z : List Event). x ≡ get_or z n x) items c.event-item.is in
    let st = stands_item p.events.items n x below is in
    let mark = stands_get marks n false (omega (arith, below, c.requires.marks)) in
    elim c.if-not-marks-n.branch [
      | then-not-marks-n+in_ok-add_event w ↦
          let id = w.new.result in
          let new = w.add_event.new.kept.items in
          let here = subst (λ (z : ℕ). Stands p.events.items z x) (sym w.new.ensures) st in
          let unmarked = subst (λ (z : ℕ). Stands marks z false) (sym w.new.ensures)
          (subst (λ (z : Bool). Stands marks n z) w.if-not-marks-n.true mark) in
          let more = continues_event p marks id x old new here unmarked w.in_ok-add_event.ensures in
          subst (λ (z : List KeptWay). AreKeptWaysBefore p marks (n + 1) 0 z)
          (sym (ap (λ (z : Vec KeptWay Global). z.items) w.kept-is))
          (subst (λ (z : ℕ). AreKeptWaysBefore p marks (z + 1) 0 new) w.new.ensures
          (more.on (subst (λ (z : ℕ). AreKeptWaysBefore p marks z 0 old) (sym w.new.ensures) c.loop-n.invariant)))
      | else-not-marks-n w ↦
          subst (λ (z : List KeptWay). AreKeptWaysBefore p marks (n + 1) 0 z)
          (sym (ap (λ (z : Vec KeptWay Global). z.items) w.kept-is))
          ((continues_marked p marks n old (subst (λ (z : Bool). Stands marks n z) w.if-not-marks-n.false mark)).on
          c.loop-n.invariant)
    ]
