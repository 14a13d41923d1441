use Rattle.std.proofs.Common.{ap, arith}
use Rattle.std.specs.Map.{lookup}
use Rattle.ar_base.proofs.Standing.{along_length}
use Rattle.unit_walks.specs.Forms.{same_pair}
use Rattle.unit_walks.specs.Tables.{table_paths}
use Rattle.unit_walks.proofs.Outcomes.{settling_start, settled_none, settled_step, outcomes}
use Rattle.unit_walks.proofs.settling.settle_all.Goals as goal

pub loop-place-init : goal.loop-place-init
loop-place-init c = λ m units f are t d. settling_start m units 0 0 c.args.table.now (record { led = c.new.result }) t
    (settled_none m units (record { led = c.new.result }) (λ k x. ap (lookup (same_pair (k, x))) c.new.ensures.empty))

pub loop-place-preserved : goal.loop-place-preserved
loop-place-preserved c = λ m units f are t d.
    let w = c.loop-place.invariant m units f are t d in
    let children = c.in_ok-children.ensures m units (table_paths c.args.table.now) f.names are d in
    settled_step m units c.args.table.now c.loop-place.table c.settle_unit.new.table c.args.nodes.now c.loop-place.place
    c.new-at.result.n _ c.loop-place.walks c.settle_unit.new.walks c.loop-place-test.true c.new-at.ensures d
    (λ u p b q s. c.in_ok-settle_unit.ensures m units u f are w.run.table p b q children s) w

pub returns : goal.returns
returns c = λ m units f are t d. outcomes m units c.loop-place.place c.loop-place.walks (let e = along_length units c.args.nodes.now d in let z = c.loop-place-test.false in omega (arith, e, z)) (c.loop-place.invariant m units f are t d).settled
