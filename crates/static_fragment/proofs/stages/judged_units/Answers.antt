use Rattle.std.proofs.Common.{Some, None, refl, ap, arith}
use Rattle.ar_firing.specs.Rules.{AtEvent, AtUnit}
use Rattle.mode_search.specs.Events.{plain_event_numbers}
use Rattle.static_fragment.specs.declared.faults.FragmentFault.TheVariants.{Outside}
use Rattle.static_fragment.specs.declared.faults.Spot.TheVariants as spot
use Rattle.static_fragment.proofs.Judging.{refused1, kept1, refused2, kept2, units_are, stateless_as}
use Rattle.static_fragment.proofs.stages.judged_units.Goals as goal

pub returns-in-Some-clause-rules : goal.returns-in-Some-clause-rules
returns-in-Some-clause-rules c = λ order system dropped h. refused1 system dropped c.args.parts.now h.0 order
    (Some c.in-Some.event) c.in-Some.ensures (Outside 1 (spot.Event c.new.result)) (refl, ap AtEvent c.new.ensures)

pub returns-in-Some-first_stateless-clause-rules : goal.returns-in-Some-first_stateless-clause-rules
returns-in-Some-first_stateless-clause-rules c = λ order system dropped h.
    let p = c.args.parts.now in
    let below = kept1 system dropped p h.0 None tt c.in_default.ensures tt in
    let are = units_are p dropped (plain_event_numbers c.args.dropped.now) c.len.result c.in_ok-marks.marks.items
    c.deref.result.now c.in_ok-moving.moving.items c.in_ok-firsts.firsts.items
    h.1 (omega (arith, c.len.ensures, p.events.ok.0)) c.deref.ensures.value c.in_ok-marks.ensures c.in_ok-moving.ensures
    c.in_ok-firsts.ensures in
    let least = stateless_as c.in_ok-moving.moving.items c.deref-2.result.now c.in_ok-firsts.firsts.items
    c.deref-3.result.now (Some c.in-Some-first_stateless.unit)
    c.deref-2.ensures.value c.deref-3.ensures.value c.in-Some-first_stateless.ensures in
    refused2 system dropped p h.0 c.requires c.in_ok-marks.marks.items c.in_ok-moving.moving.items
    c.in_ok-firsts.firsts.items are below order (Some c.in-Some-first_stateless.unit) least
    (Outside 2 (spot.Unit c.new-in-Some-first_stateless.result)) (refl, ap AtUnit c.new-in-Some-first_stateless.ensures)

pub returns-clause-rules : goal.returns-clause-rules
returns-clause-rules c = λ order system dropped h.
    let p = c.args.parts.now in
    let below = kept1 system dropped p h.0 None tt c.in_default.ensures tt in
    let are = units_are p dropped (plain_event_numbers c.args.dropped.now) c.len.result c.in_ok-marks.marks.items
    c.deref.result.now c.in_ok-moving.moving.items c.in_ok-firsts.firsts.items
    h.1 (omega (arith, c.len.ensures, p.events.ok.0)) c.deref.ensures.value c.in_ok-marks.ensures c.in_ok-moving.ensures
    c.in_ok-firsts.ensures in
    let least = stateless_as c.in_ok-moving.moving.items c.deref-2.result.now c.in_ok-firsts.firsts.items
    c.deref-3.result.now None
    c.deref-2.ensures.value c.deref-3.ensures.value c.in_default-first_stateless.ensures in
    record {
      views = h.0;
      units = are;
      keeps = kept2 system dropped p h.0 c.requires c.in_ok-marks.marks.items c.in_ok-moving.moving.items
          c.in_ok-firsts.firsts.items are below None tt least tt;
    }
