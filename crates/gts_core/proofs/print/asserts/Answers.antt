use Rattle.std.proofs.Common.{◌+◌, ap, refl, List}
use Rattle.ar_io.proofs.Writing.{writes_on, writes_front, writes_exit, writes_as, leaves_all, leaves_on, leaves_front, leaves_none, next_item, no_item}
use Rattle.gts_core.specs.declared.system.Assign.{Assign}
use Rattle.gts_core.specs.Printed.{assert_line, assert_lines}
use Rattle.gts_core.proofs.print.asserts.Goals as goal

pub loop-assign-init : goal.loop-assign-init
loop-assign-init g c = record { leaves = leaves_all _ _; numbered = refl }

pub returns-in_err-write_text : goal.returns-in_err-write_text
returns-in_err-write_text g c =
    writes_exit _ _ c.from_residual.ensures.1
    (leaves_front _ _ c.loop-assign.invariant.leaves (writes_as _ _ (ap (λ n. assert_line c.args.parts.now (n + 1) c.assign-item.result)
    c.loop-assign.invariant.numbered)
    (writes_front _ _ c.in_err-write_text.ensures))
    (next_item (λ (xs : List Assign). assert_lines c.args.parts.now c.loop-assign.assign-index xs) c.args.all.now
    c.loop-assign.assign-index c.assign-item.result c.loop-assign-test.true c.assign-item.is))

pub returns-in_err-write_number : goal.returns-in_err-write_number
returns-in_err-write_number g c =
    writes_exit _ _ c.from_residual-in_err-write_number.ensures.1
    (leaves_front _ _ c.loop-assign.invariant.leaves (writes_as _ _ (ap (λ n. assert_line c.args.parts.now (n + 1) c.assign-item.result)
    c.loop-assign.invariant.numbered)
    (writes_front _ _ (writes_front _ _ (writes_front _ _
    (writes_front _ _ (writes_front _ _ (writes_front _ _
    (writes_front _ _ (writes_on c.in_ok-write_text.ensures c.in_err-write_number.ensures)))))))))
    (next_item (λ (xs : List Assign). assert_lines c.args.parts.now c.loop-assign.assign-index xs) c.args.all.now
    c.loop-assign.assign-index c.assign-item.result c.loop-assign-test.true c.assign-item.is))

pub returns-in_err-write_text-2 : goal.returns-in_err-write_text-2
returns-in_err-write_text-2 g c =
    writes_exit _ _ c.from_residual-in_err-write_text-2.ensures.1
    (leaves_front _ _ c.loop-assign.invariant.leaves (writes_as _ _ (ap (λ n. assert_line c.args.parts.now (n + 1) c.assign-item.result)
    c.loop-assign.invariant.numbered)
    (writes_front _ _ (writes_front _ _ (writes_front _ _
    (writes_front _ _ (writes_front _ _ (writes_front _ _
    (writes_on (writes_on c.in_ok-write_text.ensures c.in_ok-write_number.ensures) c.in_err-write_text-2.ensures))))))))
    (next_item (λ (xs : List Assign). assert_lines c.args.parts.now c.loop-assign.assign-index xs) c.args.all.now
    c.loop-assign.assign-index c.assign-item.result c.loop-assign-test.true c.assign-item.is))

pub returns-in_err-write_number-2 : goal.returns-in_err-write_number-2
returns-in_err-write_number-2 g c =
    writes_exit _ _ c.from_residual-in_err-write_number-2.ensures.1
    (leaves_front _ _ c.loop-assign.invariant.leaves (writes_as _ _ (ap (λ n. assert_line c.args.parts.now (n + 1) c.assign-item.result)
    c.loop-assign.invariant.numbered)
    (writes_front _ _ (writes_front _ _ (writes_front _ _
    (writes_front _ _ (writes_front _ _ (writes_on
    (writes_on (writes_on c.in_ok-write_text.ensures c.in_ok-write_number.ensures) c.in_ok-write_text-2.ensures)
    c.in_err-write_number-2.ensures)))))))
    (next_item (λ (xs : List Assign). assert_lines c.args.parts.now c.loop-assign.assign-index xs) c.args.all.now
    c.loop-assign.assign-index c.assign-item.result c.loop-assign-test.true c.assign-item.is))

pub returns-in_err-write_text-3 : goal.returns-in_err-write_text-3
returns-in_err-write_text-3 g c =
    writes_exit _ _ c.from_residual-in_err-write_text-3.ensures.1
    (leaves_front _ _ c.loop-assign.invariant.leaves (writes_as _ _ (ap (λ n. assert_line c.args.parts.now (n + 1) c.assign-item.result)
    c.loop-assign.invariant.numbered)
    (writes_front _ _ (writes_front _ _ (writes_front _ _
    (writes_front _ _ (writes_on (writes_on
    (writes_on (writes_on c.in_ok-write_text.ensures c.in_ok-write_number.ensures) c.in_ok-write_text-2.ensures) c.in_ok-write_number-2.ensures)
    c.in_err-write_text-3.ensures))))))
    (next_item (λ (xs : List Assign). assert_lines c.args.parts.now c.loop-assign.assign-index xs) c.args.all.now
    c.loop-assign.assign-index c.assign-item.result c.loop-assign-test.true c.assign-item.is))

pub returns-in_err-write_number-3 : goal.returns-in_err-write_number-3
returns-in_err-write_number-3 g c =
    writes_exit _ _ c.from_residual-in_err-write_number-3.ensures.1
    (leaves_front _ _ c.loop-assign.invariant.leaves (writes_as _ _ (ap (λ n. assert_line c.args.parts.now (n + 1) c.assign-item.result)
    c.loop-assign.invariant.numbered)
    (writes_front _ _ (writes_front _ _ (writes_front _ _
    (writes_on (writes_on (writes_on (writes_on (writes_on c.in_ok-write_text.ensures c.in_ok-write_number.ensures)
    c.in_ok-write_text-2.ensures) c.in_ok-write_number-2.ensures) c.in_ok-write_text-3.ensures) c.in_err-write_number-3.ensures)))))
    (next_item (λ (xs : List Assign). assert_lines c.args.parts.now c.loop-assign.assign-index xs) c.args.all.now
    c.loop-assign.assign-index c.assign-item.result c.loop-assign-test.true c.assign-item.is))

pub returns-in_err-write_text-4 : goal.returns-in_err-write_text-4
returns-in_err-write_text-4 g c =
    writes_exit _ _ c.from_residual-in_err-write_text-4.ensures.1
    (leaves_front _ _ c.loop-assign.invariant.leaves (writes_as _ _ (ap (λ n. assert_line c.args.parts.now (n + 1) c.assign-item.result)
    c.loop-assign.invariant.numbered)
    (writes_front _ _ (writes_front _ _ (writes_on
    (writes_on (writes_on (writes_on (writes_on (writes_on c.in_ok-write_text.ensures c.in_ok-write_number.ensures)
    c.in_ok-write_text-2.ensures) c.in_ok-write_number-2.ensures) c.in_ok-write_text-3.ensures) c.in_ok-write_number-3.ensures)
    c.in_err-write_text-4.ensures))))
    (next_item (λ (xs : List Assign). assert_lines c.args.parts.now c.loop-assign.assign-index xs) c.args.all.now
    c.loop-assign.assign-index c.assign-item.result c.loop-assign-test.true c.assign-item.is))

pub returns-in_err-set : goal.returns-in_err-set
returns-in_err-set g c =
    writes_exit _ _ c.from_residual-in_err-set.ensures.1
    (leaves_front _ _ c.loop-assign.invariant.leaves (writes_as _ _ (ap (λ n. assert_line c.args.parts.now (n + 1) c.assign-item.result)
    c.loop-assign.invariant.numbered)
    (writes_front _ _ (writes_on (writes_on
    (writes_on (writes_on (writes_on (writes_on (writes_on c.in_ok-write_text.ensures c.in_ok-write_number.ensures)
    c.in_ok-write_text-2.ensures) c.in_ok-write_number-2.ensures) c.in_ok-write_text-3.ensures) c.in_ok-write_number-3.ensures)
    c.in_ok-write_text-4.ensures) c.in_err-set.ensures)))
    (next_item (λ (xs : List Assign). assert_lines c.args.parts.now c.loop-assign.assign-index xs) c.args.all.now
    c.loop-assign.assign-index c.assign-item.result c.loop-assign-test.true c.assign-item.is))

pub returns-in_err-write_text-5 : goal.returns-in_err-write_text-5
returns-in_err-write_text-5 g c =
    writes_exit _ _ c.from_residual-in_err-write_text-5.ensures.1
    (leaves_front _ _ c.loop-assign.invariant.leaves (writes_as _ _ (ap (λ n. assert_line c.args.parts.now (n + 1) c.assign-item.result)
    c.loop-assign.invariant.numbered)
    (writes_on (writes_on (writes_on (writes_on
    (writes_on (writes_on (writes_on (writes_on c.in_ok-write_text.ensures c.in_ok-write_number.ensures) c.in_ok-write_text-2.ensures)
    c.in_ok-write_number-2.ensures) c.in_ok-write_text-3.ensures) c.in_ok-write_number-3.ensures) c.in_ok-write_text-4.ensures)
    c.in_ok-set.ensures) c.in_err-write_text-5.ensures))
    (next_item (λ (xs : List Assign). assert_lines c.args.parts.now c.loop-assign.assign-index xs) c.args.all.now
    c.loop-assign.assign-index c.assign-item.result c.loop-assign-test.true c.assign-item.is))

pub loop-assign-preserved : goal.loop-assign-preserved
loop-assign-preserved g c = record {
  leaves = leaves_on _ _ c.loop-assign.invariant.leaves (writes_as _ _ (ap (λ n. assert_line c.args.parts.now (n + 1) c.assign-item.result)
      c.loop-assign.invariant.numbered)
      (writes_on (writes_on (writes_on (writes_on
      (writes_on (writes_on (writes_on (writes_on c.in_ok-write_text.ensures c.in_ok-write_number.ensures) c.in_ok-write_text-2.ensures)
      c.in_ok-write_number-2.ensures) c.in_ok-write_text-3.ensures) c.in_ok-write_number-3.ensures) c.in_ok-write_text-4.ensures)
      c.in_ok-set.ensures) c.in_ok-write_text-5.ensures))
      (next_item (λ (xs : List Assign). assert_lines c.args.parts.now c.loop-assign.assign-index xs) c.args.all.now
      c.loop-assign.assign-index c.assign-item.result c.loop-assign-test.true c.assign-item.is);
  numbered = ap (λ n. n + 1) c.loop-assign.invariant.numbered;
}

pub returns : goal.returns
returns g c =
    leaves_none _ c.loop-assign.invariant.leaves
    (no_item (λ (xs : List Assign). assert_lines c.args.parts.now c.loop-assign.assign-index xs) c.args.all.now
    c.loop-assign.assign-index c.loop-assign-test.false)
