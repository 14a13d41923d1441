use Rattle.std.proofs.Common.{List, get_or, ap}
use Rattle.ar_base.specs.Numbers.{VarId}
use Rattle.ar_io.proofs.Writing.{writes_exit, writes_as, leaves_all, leaves_on, leaves_front, leaves_none, next_read, no_item}
use Rattle.ar_meaning.specs.TraceText.{variable_line}
use Rattle.gts_core.specs.Readings.{valuation_at}
use Rattle.gts_flatten.specs.Flat.{naming_of_parts}
use Rattle.flow_changes.specs.Changes.{changed_numbers}
use Rattle.replayer.specs.Printing.{numbered_texts}
use Rattle.replayer.proofs.shown.variable_changes.Goals as goal

-- what is read past the end
abbrev none : VarId
none = record { n = 0; of = record {} }

pub loop-variable-init : goal.loop-variable-init
loop-variable-init g c = leaves_all _ _

pub returns-in_err-variable_line : goal.returns-in_err-variable_line
returns-in_err-variable_line g c =
    let one = variable_line (naming_of_parts c.args.parts.now) in
    let x = get_or c.args.changed.now c.loop-variable.variable-index none in
    writes_exit _ _ c.from_residual.ensures.1
    (leaves_front _ _ c.loop-variable.invariant
    (writes_as _ _ (ap (λ v. one x.n v) c.value_at.ensures) c.in_err-variable_line.ensures)
    (next_read (λ (xs : List VarId). numbered_texts (λ n. one n (valuation_at c.args.new.now n)) (changed_numbers xs)) c.args.changed.now
    c.loop-variable.variable-index none c.loop-variable-test.true))

pub loop-variable-preserved : goal.loop-variable-preserved
loop-variable-preserved g c =
    let one = variable_line (naming_of_parts c.args.parts.now) in
    let x = get_or c.args.changed.now c.loop-variable.variable-index none in
    leaves_on _ _ c.loop-variable.invariant
    (writes_as _ _ (ap (λ v. one x.n v) c.value_at.ensures) c.in_ok-variable_line.ensures)
    (next_read (λ (xs : List VarId). numbered_texts (λ n. one n (valuation_at c.args.new.now n)) (changed_numbers xs)) c.args.changed.now
    c.loop-variable.variable-index none c.loop-variable-test.true)

pub returns : goal.returns
returns g c =
    let one = variable_line (naming_of_parts c.args.parts.now) in
    leaves_none _ c.loop-variable.invariant
    (no_item (λ (xs : List VarId). numbered_texts (λ n. one n (valuation_at c.args.new.now n)) (changed_numbers xs)) c.args.changed.now
    c.loop-variable.variable-index c.loop-variable-test.false)
