use Rattle.std.proofs.Common.{List, ◌+◌, ◌∙◌, ap, refl}
use Rattle.ar_io.proofs.Writing.{writes_exit, writes_as, leaves_all, leaves_on, leaves_front, leaves_none, next_item, no_item}
use Rattle.replayer.specs.Printing.{observer_lines}
use Rattle.gts_core.specs.declared.system.Observer.{Observer}
use Rattle.gts_flatten.specs.Flat.{naming_of_parts}
use Rattle.ar_meaning.specs.TraceText.{observer_line}
use Rattle.replayer.proofs.shown.observer_lines.Goals as goal

pub loop-observer-init : goal.loop-observer-init
loop-observer-init g c = record { leaves = leaves_all _ _; numbered = refl }

pub returns-in_err-observer_line : goal.returns-in_err-observer_line
returns-in_err-observer_line g c =
    writes_exit _ _ c.from_residual.ensures.1
    (leaves_front _ _ c.loop-observer.invariant.leaves
    (writes_as _ _ (ap (λ n. observer_line (naming_of_parts c.args.parts.now) n c.value_in.result)
    c.loop-observer.invariant.numbered
    ∙ ap (λ z. observer_line (naming_of_parts c.args.parts.now) c.loop-observer.observer-index z)
    c.value_in.ensures) c.in_err-observer_line.ensures)
    (next_item (λ (xs : List Observer). observer_lines c.args.parts.now c.args.values.now c.loop-observer.observer-index
    xs) c.args.all.now c.loop-observer.observer-index c.observer-item.result c.loop-observer-test.true
    c.observer-item.is))

pub loop-observer-preserved : goal.loop-observer-preserved
loop-observer-preserved g c = record {
  leaves = leaves_on _ _ c.loop-observer.invariant.leaves
      (writes_as _ _ (ap (λ n. observer_line (naming_of_parts c.args.parts.now) n c.value_in.result)
      c.loop-observer.invariant.numbered
      ∙ ap (λ z. observer_line (naming_of_parts c.args.parts.now) c.loop-observer.observer-index z) c.value_in.ensures)
      c.in_ok-observer_line.ensures)
      (next_item (λ (xs : List Observer). observer_lines c.args.parts.now c.args.values.now
      c.loop-observer.observer-index xs) c.args.all.now c.loop-observer.observer-index c.observer-item.result
      c.loop-observer-test.true c.observer-item.is);
  numbered = ap (λ n. n + 1) c.loop-observer.invariant.numbered;
}

pub returns : goal.returns
returns g c =
    leaves_none _ c.loop-observer.invariant.leaves
    (no_item (λ (xs : List Observer). observer_lines c.args.parts.now c.args.values.now c.loop-observer.observer-index
    xs) c.args.all.now c.loop-observer.observer-index c.loop-observer-test.false)
