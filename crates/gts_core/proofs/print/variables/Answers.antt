use Rattle.std.proofs.Common.{refl, map, List}
use Rattle.std.specs.List.{concat}
use Rattle.ar_io.proofs.Writing.{writes_on, writes_front, writes_exit, writes_as, leaves_all, leaves_on, leaves_front, leaves_none, next_item, no_item}
use Rattle.gts_core.specs.declared.system.Variable.{Variable}
use Rattle.gts_core.specs.Printed.{flat_variable_line}
use Rattle.gts_core.proofs.print.variables.Goals as goal

pub loop-x-init : goal.loop-x-init
loop-x-init g c = leaves_all _ _

pub returns-in_err-write_text : goal.returns-in_err-write_text
returns-in_err-write_text g c =
    writes_exit _ _ c.from_residual.ensures.1
    (leaves_front _ _ c.loop-x.invariant (writes_as _ (flat_variable_line c.args.parts.now c.x-item.result) refl
    (writes_front _ _ (writes_front _ _ (writes_front _ _
    (writes_front _ _ (writes_front _ _ (writes_front _ _ (writes_as _ _ c.either.ensures c.in_err-write_text.ensures))))))))
    (next_item (λ (xs : List Variable). concat (map (flat_variable_line c.args.parts.now) xs)) c.args.all.now
    c.loop-x.x-index c.x-item.result c.loop-x-test.true c.x-item.is))

pub returns-in_err-write_text-2 : goal.returns-in_err-write_text-2
returns-in_err-write_text-2 g c =
    writes_exit _ _ c.from_residual-in_err-write_text-2.ensures.1
    (leaves_front _ _ c.loop-x.invariant (writes_as _ (flat_variable_line c.args.parts.now c.x-item.result) refl
    (writes_front _ _ (writes_front _ _ (writes_front _ _
    (writes_front _ _ (writes_front _ _ (writes_on (writes_as _ _ c.either.ensures c.in_ok-write_text.ensures)
    (writes_as _ _ c.as_str.ensures c.in_err-write_text-2.ensures))))))))
    (next_item (λ (xs : List Variable). concat (map (flat_variable_line c.args.parts.now) xs)) c.args.all.now
    c.loop-x.x-index c.x-item.result c.loop-x-test.true c.x-item.is))

pub returns-in_err-write_text-3 : goal.returns-in_err-write_text-3
returns-in_err-write_text-3 g c =
    writes_exit _ _ c.from_residual-in_err-write_text-3.ensures.1
    (leaves_front _ _ c.loop-x.invariant (writes_as _ (flat_variable_line c.args.parts.now c.x-item.result) refl
    (writes_front _ _ (writes_front _ _ (writes_front _ _
    (writes_front _ _ (writes_on (writes_on (writes_as _ _ c.either.ensures c.in_ok-write_text.ensures)
    (writes_as _ _ c.as_str.ensures c.in_ok-write_text-2.ensures)) c.in_err-write_text-3.ensures))))))
    (next_item (λ (xs : List Variable). concat (map (flat_variable_line c.args.parts.now) xs)) c.args.all.now
    c.loop-x.x-index c.x-item.result c.loop-x-test.true c.x-item.is))

pub returns-in_err-domain : goal.returns-in_err-domain
returns-in_err-domain g c =
    writes_exit _ _ c.from_residual-in_err-domain.ensures.1
    (leaves_front _ _ c.loop-x.invariant (writes_as _ (flat_variable_line c.args.parts.now c.x-item.result) refl
    (writes_front _ _ (writes_front _ _ (writes_front _ _
    (writes_on (writes_on (writes_on (writes_as _ _ c.either.ensures c.in_ok-write_text.ensures)
    (writes_as _ _ c.as_str.ensures c.in_ok-write_text-2.ensures)) c.in_ok-write_text-3.ensures) c.in_err-domain.ensures)))))
    (next_item (λ (xs : List Variable). concat (map (flat_variable_line c.args.parts.now) xs)) c.args.all.now
    c.loop-x.x-index c.x-item.result c.loop-x-test.true c.x-item.is))

pub returns-in_err-write_text-4 : goal.returns-in_err-write_text-4
returns-in_err-write_text-4 g c =
    writes_exit _ _ c.from_residual-in_err-write_text-4.ensures.1
    (leaves_front _ _ c.loop-x.invariant (writes_as _ (flat_variable_line c.args.parts.now c.x-item.result) refl
    (writes_front _ _ (writes_front _ _ (writes_on
    (writes_on (writes_on (writes_on (writes_as _ _ c.either.ensures c.in_ok-write_text.ensures)
    (writes_as _ _ c.as_str.ensures c.in_ok-write_text-2.ensures)) c.in_ok-write_text-3.ensures) c.in_ok-domain.ensures)
    c.in_err-write_text-4.ensures))))
    (next_item (λ (xs : List Variable). concat (map (flat_variable_line c.args.parts.now) xs)) c.args.all.now
    c.loop-x.x-index c.x-item.result c.loop-x-test.true c.x-item.is))

pub returns-in_err-write_value : goal.returns-in_err-write_value
returns-in_err-write_value g c =
    writes_exit _ _ c.from_residual-in_err-write_value.ensures.1
    (leaves_front _ _ c.loop-x.invariant (writes_as _ (flat_variable_line c.args.parts.now c.x-item.result) refl
    (writes_front _ _ (writes_on (writes_on
    (writes_on (writes_on (writes_on (writes_as _ _ c.either.ensures c.in_ok-write_text.ensures)
    (writes_as _ _ c.as_str.ensures c.in_ok-write_text-2.ensures)) c.in_ok-write_text-3.ensures) c.in_ok-domain.ensures)
    c.in_ok-write_text-4.ensures) c.in_err-write_value.ensures)))
    (next_item (λ (xs : List Variable). concat (map (flat_variable_line c.args.parts.now) xs)) c.args.all.now
    c.loop-x.x-index c.x-item.result c.loop-x-test.true c.x-item.is))

pub returns-in_err-write_text-5 : goal.returns-in_err-write_text-5
returns-in_err-write_text-5 g c =
    writes_exit _ _ c.from_residual-in_err-write_text-5.ensures.1
    (leaves_front _ _ c.loop-x.invariant (writes_as _ (flat_variable_line c.args.parts.now c.x-item.result) refl
    (writes_on (writes_on (writes_on (writes_on
    (writes_on (writes_on (writes_as _ _ c.either.ensures c.in_ok-write_text.ensures)
    (writes_as _ _ c.as_str.ensures c.in_ok-write_text-2.ensures)) c.in_ok-write_text-3.ensures) c.in_ok-domain.ensures)
    c.in_ok-write_text-4.ensures) c.in_ok-write_value.ensures) c.in_err-write_text-5.ensures))
    (next_item (λ (xs : List Variable). concat (map (flat_variable_line c.args.parts.now) xs)) c.args.all.now
    c.loop-x.x-index c.x-item.result c.loop-x-test.true c.x-item.is))

pub loop-x-preserved : goal.loop-x-preserved
loop-x-preserved g c =
    leaves_on _ _ c.loop-x.invariant (writes_as _ (flat_variable_line c.args.parts.now c.x-item.result) refl
    (writes_on (writes_on (writes_on (writes_on
    (writes_on (writes_on (writes_as _ _ c.either.ensures c.in_ok-write_text.ensures)
    (writes_as _ _ c.as_str.ensures c.in_ok-write_text-2.ensures)) c.in_ok-write_text-3.ensures) c.in_ok-domain.ensures)
    c.in_ok-write_text-4.ensures) c.in_ok-write_value.ensures) c.in_ok-write_text-5.ensures))
    (next_item (λ (xs : List Variable). concat (map (flat_variable_line c.args.parts.now) xs)) c.args.all.now
    c.loop-x.x-index c.x-item.result c.loop-x-test.true c.x-item.is)

pub returns : goal.returns
returns g c =
    leaves_none _ c.loop-x.invariant
    (no_item (λ (xs : List Variable). concat (map (flat_variable_line c.args.parts.now) xs)) c.args.all.now
    c.loop-x.x-index
    c.loop-x-test.false)
