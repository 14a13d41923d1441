use Rattle.std.proofs.Common.{map, codes, List}
use Rattle.ar_base.specs.Texts.{separated}
use Rattle.ar_io.proofs.Writing.{writes_on, writes_front, writes_exit, writes_as, leaves_all, leaves_on, leaves_front, leaves_none, next_item, no_item}
use Rattle.gts_core.specs.declared.system.Assign.{Assign}
use Rattle.gts_core.specs.Printed.{set_text}
use Rattle.gts_core.proofs.print.sets.Goals as goal

pub loop-assign-init : goal.loop-assign-init
loop-assign-init g c = leaves_all _ _

pub returns-in_err-write_text : goal.returns-in_err-write_text
returns-in_err-write_text g c =
    writes_exit _ _ c.from_residual.ensures.1
    (leaves_front _ _ c.loop-assign.invariant (writes_front _ _ (writes_as _ _ c.either.ensures c.in_err-write_text.ensures))
    (next_item (λ (xs : List Assign). separated c.loop-assign.first (codes ", ") (map (set_text c.args.parts.now) xs))
    c.args.assigns.now c.loop-assign.assign-index c.assign-item.result c.loop-assign-test.true c.assign-item.is))

pub returns-in_err-set : goal.returns-in_err-set
returns-in_err-set g c =
    writes_exit _ _ c.from_residual-in_err-set.ensures.1
    (leaves_front _ _ c.loop-assign.invariant
    (writes_on (writes_as _ _ c.either.ensures c.in_ok-write_text.ensures) c.in_err-set.ensures)
    (next_item (λ (xs : List Assign). separated c.loop-assign.first (codes ", ") (map (set_text c.args.parts.now) xs))
    c.args.assigns.now c.loop-assign.assign-index c.assign-item.result c.loop-assign-test.true c.assign-item.is))

pub loop-assign-preserved : goal.loop-assign-preserved
loop-assign-preserved g c =
    leaves_on _ _ c.loop-assign.invariant
    (writes_on (writes_as _ _ c.either.ensures c.in_ok-write_text.ensures) c.in_ok-set.ensures)
    (next_item (λ (xs : List Assign). separated c.loop-assign.first (codes ", ") (map (set_text c.args.parts.now) xs))
    c.args.assigns.now c.loop-assign.assign-index c.assign-item.result c.loop-assign-test.true c.assign-item.is)

pub returns : goal.returns
returns g c =
    leaves_none _ c.loop-assign.invariant
    (no_item (λ (xs : List Assign). separated c.loop-assign.first (codes ", ") (map (set_text c.args.parts.now) xs))
    c.args.assigns.now c.loop-assign.assign-index c.loop-assign-test.false)
