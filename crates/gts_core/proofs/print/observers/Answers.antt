use Rattle.std.proofs.Common.{refl, map, List}
use Rattle.std.specs.List.{concat}
use Rattle.ar_io.proofs.Writing.{writes_on, writes_front, writes_exit, writes_as, leaves_all, leaves_on, leaves_front, leaves_none, next_item, no_item}
use Rattle.gts_core.specs.declared.system.Observer.{Observer}
use Rattle.gts_core.specs.Printed.{flat_observer_line}
use Rattle.gts_core.proofs.print.observers.Goals as goal

pub loop-o-init : goal.loop-o-init
loop-o-init g c = leaves_all _ _

pub returns-in_err-write_text : goal.returns-in_err-write_text
returns-in_err-write_text g c =
    writes_exit _ _ c.from_residual.ensures.1
    (leaves_front _ _ c.loop-o.invariant (writes_as _ (flat_observer_line c.args.parts.now c.o-item.result) refl
    (writes_front _ _ c.in_err-write_text.ensures))
    (next_item (λ (xs : List Observer). concat (map (flat_observer_line c.args.parts.now) xs)) c.args.all.now
    c.loop-o.o-index c.o-item.result c.loop-o-test.true c.o-item.is))

pub returns-in_err-write_text-2 : goal.returns-in_err-write_text-2
returns-in_err-write_text-2 g c =
    writes_exit _ _ c.from_residual-in_err-write_text-2.ensures.1
    (leaves_front _ _ c.loop-o.invariant (writes_as _ (flat_observer_line c.args.parts.now c.o-item.result) refl
    (writes_front _ _ (writes_front _ _ (writes_front _ _
    (writes_on c.in_ok-write_text.ensures (writes_as _ _ c.as_str.ensures c.in_err-write_text-2.ensures))))))
    (next_item (λ (xs : List Observer). concat (map (flat_observer_line c.args.parts.now) xs)) c.args.all.now
    c.loop-o.o-index c.o-item.result c.loop-o-test.true c.o-item.is))

pub returns-in_err-write_text-3 : goal.returns-in_err-write_text-3
returns-in_err-write_text-3 g c =
    writes_exit _ _ c.from_residual-in_err-write_text-3.ensures.1
    (leaves_front _ _ c.loop-o.invariant (writes_as _ (flat_observer_line c.args.parts.now c.o-item.result) refl
    (writes_front _ _ (writes_front _ _ (writes_on
    (writes_on c.in_ok-write_text.ensures (writes_as _ _ c.as_str.ensures c.in_ok-write_text-2.ensures)) c.in_err-write_text-3.ensures))))
    (next_item (λ (xs : List Observer). concat (map (flat_observer_line c.args.parts.now) xs)) c.args.all.now
    c.loop-o.o-index c.o-item.result c.loop-o-test.true c.o-item.is))

pub returns-in_err-expression : goal.returns-in_err-expression
returns-in_err-expression g c =
    writes_exit _ _ c.from_residual-in_err-expression.ensures.1
    (leaves_front _ _ c.loop-o.invariant (writes_as _ (flat_observer_line c.args.parts.now c.o-item.result) refl
    (writes_front _ _ (writes_on (writes_on
    (writes_on c.in_ok-write_text.ensures (writes_as _ _ c.as_str.ensures c.in_ok-write_text-2.ensures)) c.in_ok-write_text-3.ensures)
    c.in_err-expression.ensures)))
    (next_item (λ (xs : List Observer). concat (map (flat_observer_line c.args.parts.now) xs)) c.args.all.now
    c.loop-o.o-index c.o-item.result c.loop-o-test.true c.o-item.is))

pub returns-in_err-write_text-4 : goal.returns-in_err-write_text-4
returns-in_err-write_text-4 g c =
    writes_exit _ _ c.from_residual-in_err-write_text-4.ensures.1
    (leaves_front _ _ c.loop-o.invariant (writes_as _ (flat_observer_line c.args.parts.now c.o-item.result) refl
    (writes_on (writes_on (writes_on (writes_on c.in_ok-write_text.ensures
    (writes_as _ _ c.as_str.ensures c.in_ok-write_text-2.ensures)) c.in_ok-write_text-3.ensures) c.in_ok-expression.ensures)
    c.in_err-write_text-4.ensures))
    (next_item (λ (xs : List Observer). concat (map (flat_observer_line c.args.parts.now) xs)) c.args.all.now
    c.loop-o.o-index c.o-item.result c.loop-o-test.true c.o-item.is))

pub loop-o-preserved : goal.loop-o-preserved
loop-o-preserved g c =
    leaves_on _ _ c.loop-o.invariant (writes_as _ (flat_observer_line c.args.parts.now c.o-item.result) refl
    (writes_on (writes_on (writes_on (writes_on c.in_ok-write_text.ensures
    (writes_as _ _ c.as_str.ensures c.in_ok-write_text-2.ensures)) c.in_ok-write_text-3.ensures) c.in_ok-expression.ensures)
    c.in_ok-write_text-4.ensures))
    (next_item (λ (xs : List Observer). concat (map (flat_observer_line c.args.parts.now) xs)) c.args.all.now
    c.loop-o.o-index c.o-item.result c.loop-o-test.true c.o-item.is)

pub returns : goal.returns
returns g c =
    leaves_none _ c.loop-o.invariant
    (no_item (λ (xs : List Observer). concat (map (flat_observer_line c.args.parts.now) xs)) c.args.all.now
    c.loop-o.o-index
    c.loop-o-test.false)
