use Rattle.std.proofs.Common.{◌<◌, length, None, arith}
use Rattle.ar_base.proofs.Standing.{stands_get}
use Rattle.class_table.proofs.Looping.{loop_start, loop_next, loop_end}
use Rattle.hierarchy.specs.declared.outline.Outline.{Outline}
use Rattle.class_table.proofs.Taken.{item_stands}
use Rattle.unit_rules.proofs.Kept.{kept_found}
use Rattle.unit_rules.proofs.Sited.{no_body, at_that_body, unit_to, unit_back}
use Rattle.unit_rules.proofs.declarations.of_units.Goals as goal
use Rattle.unit_rules.proofs.declarations.of_units.Goals.{in-Some, in_default}

pub loop-outline-init : goal.loop-outline-init
loop-outline-init c = λ m units classes h bodies. loop_start _ _

pub loop-outline-preserved : goal.loop-outline-preserved
loop-outline-preserved c = λ m units classes h bodies.
    let l : c.loop-outline.outline-index < length c.args.outlines.now = omega arith in
    let none : Outline = record {
      name = record { n = 0; of = record {} };
      owner = None;
      body = record { n = 0; of = record {} };
      set_at = None;
    } in
    let s = stands_get c.args.outlines.now c.loop-outline.outline-index none l in
    let so_far = c.loop-outline.invariant m units classes h bodies in
    elim c.match-get.branch [
      | in-Some w ↦
          (let g = at_that_body m classes c.args.firsts.now h.table.table bodies _ _
          (item_stands c.args.firsts.now _ w.in-Some.first.now w.in-Some.ensures.lookup.3.0 w.in-Some.ensures.lookup.1) in
          rw w.found-is (loop_next _ _ _ _ _ _ _ s so_far g w.earliest-found.ensures))
      | in_default w ↦
          (let g = no_body m classes c.args.firsts.now h.table.table bodies _ w.in_default.ensures.lookup.3 in
          rw w.found-is (loop_next _ _ _ _ _ _ _ s so_far g (kept_found _)))
    ]

pub returns : goal.returns
returns c = λ m units classes h bodies. loop_end _ _ _ _ _ (omega arith) (unit_to m units _ h.along)
    (unit_back m units _ h.along) (c.loop-outline.invariant m units classes h bodies)
