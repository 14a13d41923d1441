use Rattle.std.proofs.Common.{ℕ, List}
use Rattle.ar_io.proofs.Writing.{writes_exit, leaves_all, leaves_on, leaves_front, leaves_none, next_read, no_item}
use Rattle.replayer.specs.Printing.{numbered_texts}
use Rattle.replayer.proofs.ObservingLemmas.{observer_text}
use Rattle.replayer.proofs.shown.observer_changes.Goals as goal

pub loop-number-init : goal.loop-number-init
loop-number-init g c = leaves_all _ _

pub returns-in_err-observer_change : goal.returns-in_err-observer_change
returns-in_err-observer_change g c =
    writes_exit _ _ c.from_residual.ensures.1
    (leaves_front _ _ c.loop-number.invariant c.in_err-observer_change.ensures
    (next_read (λ (xs : List ℕ). numbered_texts (observer_text c.args.parts.now c.args.old.now c.args.new.now) xs)
    c.args.touched.now c.loop-number.number-index 0 c.loop-number-test.true))

pub loop-number-preserved : goal.loop-number-preserved
loop-number-preserved g c =
    leaves_on _ _ c.loop-number.invariant c.in_ok-observer_change.ensures
    (next_read (λ (xs : List ℕ). numbered_texts (observer_text c.args.parts.now c.args.old.now c.args.new.now) xs)
    c.args.touched.now c.loop-number.number-index 0 c.loop-number-test.true)

pub returns : goal.returns
returns g c =
    leaves_none _ c.loop-number.invariant
    (no_item (λ (xs : List ℕ). numbered_texts (observer_text c.args.parts.now c.args.old.now c.args.new.now) xs)
    c.args.touched.now c.loop-number.number-index c.loop-number-test.false)
