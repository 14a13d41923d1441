use Rattle.std.proofs.Common.{◌<◌, List, [], length, subst, arith, None, get_or, slice_get, unwrap_or}
use Rattle.std.specs.List.{flat_map}
use Rattle.std.proofs.lemmas.List.{take_all}
use Rattle.ar_base.proofs.Standing.{along_length, stands_get}
use Rattle.class_table.proofs.Taken.{item_stands}
use Rattle.hierarchy.specs.declared.outline.Outline.{Outline}
use Rattle.hierarchy.specs.Units.{UnitPath, names_at}
use Rattle.unit_rules.specs.Sizes.{tree_nodes}
use Rattle.unit_rules.specs.Counting.{AreAt, AreMemberCounts}
use Rattle.unit_rules.proofs.Joined.{at_that_body, no_body, units_next}
use Rattle.unit_rules.proofs.totals.of_units.Goals as goal
use Rattle.unit_rules.proofs.totals.of_units.Goals.{in-None, in-Some}

pub loop-outline-preserved : goal.loop-outline-preserved
loop-outline-preserved c = λ m units classes h bodies.
    let l : c.loop-outline.outline-index < length c.args.outlines.now = omega arith in
    let none : Outline = record {
      name = record { n = 0; of = record {} };
      owner = None;
      body = record { n = 0; of = record {} };
      set_at = None;
    } in
    let s = stands_get c.args.outlines.now c.loop-outline.outline-index none l in
    let own : AreAt m.declared (unwrap_or (slice_get m.members (get_or c.args.outlines.now c.loop-outline.outline-index none).body.n) [])
    c.match-get.own = elim c.match-get.branch [
      | in-None w ↦ rw w.own-is (no_body m classes c.args.counts.now h.table.table bodies _ _ w.in-None.ensures.lookup.3
          w.none-own.ensures)
      | in-Some w ↦ rw w.own-is (at_that_body m classes c.args.counts.now h.table.table bodies _ _
          (item_stands c.args.counts.now _ w.in-Some.own.now w.in-Some.ensures.lookup.3.0 w.in-Some.ensures.lookup.1))
    ] in
    units_next m units c.args.outlines.now h.along c.loop-outline.outline-index _ _ s
    (c.with-total.ensures _ _ _ _ (c.loop-outline.invariant m units classes h bodies)
    own)

pub returns : goal.returns
returns c = λ m units classes h bodies.
    let n = along_length units c.args.outlines.now h.along in
    let e = take_all c.loop-outline.outline-index units (omega arith) in
    subst (λ (us : List UnitPath). AreMemberCounts (flat_map (names_at m) us) (tree_nodes m us) c.loop-outline.total) e
    (c.loop-outline.invariant m units classes h bodies)
