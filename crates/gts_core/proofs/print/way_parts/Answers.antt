use Rattle.std.proofs.Common.{map, codes, List, Bool}
use Rattle.ar_base.specs.Texts.{separated}
use Rattle.ar_io.proofs.Writing.{writes_on, writes_front, writes_exit, writes_as, leaves_all, leaves_on, leaves_front, leaves_none, next_read, next_some, no_item}
use Rattle.ar_base.specs.Numbers.{WayId}
use Rattle.gts_core.specs.Printed.{part_text}
use Rattle.gts_core.proofs.print.way_parts.Goals as goal

pub loop-part-init : goal.loop-part-init
loop-part-init g c = leaves_all _ _

pub returns-in_err-write_text : goal.returns-in_err-write_text
returns-in_err-write_text g c =
    writes_exit _ _ c.from_residual.ensures.1
    (leaves_front _ _ c.loop-part.invariant (writes_front _ _ (writes_as _ _ c.either.ensures c.in_err-write_text.ensures))
    (next_some (λ (xs : List (Bool × WayId)). separated c.loop-part.first (codes " & ")
    (map (part_text c.args.parts.now) xs)) c.args.all.now c.loop-part.part-index c.loop-part-test.true).1)

pub returns-in_err-write_text-2 : goal.returns-in_err-write_text-2
returns-in_err-write_text-2 g c =
    writes_exit _ _ c.from_residual-in_err-write_text-2.ensures.1
    (leaves_front _ _ c.loop-part.invariant
    (writes_on (writes_as _ _ c.either.ensures c.in_ok-write_text.ensures)
    (writes_front _ _ (writes_as _ _ c.either-in-loop-part.ensures c.in_err-write_text-2.ensures)))
    (next_read (λ (xs : List (Bool × WayId)). separated c.loop-part.first (codes " & ")
    (map (part_text c.args.parts.now) xs)) c.args.all.now c.loop-part.part-index _ c.loop-part-test.true))

pub returns-in_err-label_at : goal.returns-in_err-label_at
returns-in_err-label_at g c =
    writes_exit _ _ c.from_residual-in_err-label_at.ensures.1
    (leaves_front _ _ c.loop-part.invariant
    (writes_on (writes_as _ _ c.either.ensures c.in_ok-write_text.ensures)
    (writes_on (writes_as _ _ c.either-in-loop-part.ensures c.in_ok-write_text-2.ensures) c.in_err-label_at.ensures))
    (next_read (λ (xs : List (Bool × WayId)). separated c.loop-part.first (codes " & ")
    (map (part_text c.args.parts.now) xs)) c.args.all.now c.loop-part.part-index _ c.loop-part-test.true))

pub loop-part-preserved : goal.loop-part-preserved
loop-part-preserved g c =
    leaves_on _ _ c.loop-part.invariant
    (writes_on (writes_as _ _ c.either.ensures c.in_ok-write_text.ensures)
    (writes_on (writes_as _ _ c.either-in-loop-part.ensures c.in_ok-write_text-2.ensures) c.in_ok-label_at.ensures))
    (next_read (λ (xs : List (Bool × WayId)). separated c.loop-part.first (codes " & ")
    (map (part_text c.args.parts.now) xs)) c.args.all.now c.loop-part.part-index _ c.loop-part-test.true)

pub returns : goal.returns
returns g c =
    leaves_none _ c.loop-part.invariant
    (no_item (λ (xs : List (Bool × WayId)). separated c.loop-part.first (codes " & ")
    (map (part_text c.args.parts.now) xs)) c.args.all.now c.loop-part.part-index c.loop-part-test.false)
