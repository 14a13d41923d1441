use Rattle.std.proofs.Common.{map, List, slice_get}
use Rattle.std.specs.List.{concat}
use Rattle.ar_io.proofs.Writing.{writes_exit, leaves_all, leaves_on, leaves_front, leaves_none, next_read, no_item}
use Rattle.ar_base.specs.Numbers.{WayId}
use Rattle.gts_core.specs.Printed.{line_found}
use Rattle.gts_core.proofs.print.ways.Goals as goal

pub loop-id-init : goal.loop-id-init
loop-id-init g c = leaves_all _ _

pub returns-in_err-way_at : goal.returns-in_err-way_at
returns-in_err-way_at g c =
    writes_exit _ _ c.from_residual.ensures.1 (leaves_front _ _ c.loop-id.invariant c.in_err-way_at.ensures
    (next_read (λ (xs : List WayId). concat
    (map (λ (w : WayId). line_found c.args.parts.now c.args.hidden (slice_get c.args.parts.now.ways.items w.n)) xs))
    c.args.all.now c.loop-id.id-index _ c.loop-id-test.true))

pub loop-id-preserved : goal.loop-id-preserved
loop-id-preserved g c =
    leaves_on _ _ c.loop-id.invariant c.in_ok-way_at.ensures
    (next_read (λ (xs : List WayId). concat
    (map (λ (w : WayId). line_found c.args.parts.now c.args.hidden (slice_get c.args.parts.now.ways.items w.n)) xs))
    c.args.all.now c.loop-id.id-index _ c.loop-id-test.true)

pub returns : goal.returns
returns g c =
    leaves_none _ c.loop-id.invariant
    (no_item (λ (xs : List WayId). concat
    (map (λ (w : WayId). line_found c.args.parts.now c.args.hidden (slice_get c.args.parts.now.ways.items w.n)) xs))
    c.args.all.now c.loop-id.id-index c.loop-id-test.false)
