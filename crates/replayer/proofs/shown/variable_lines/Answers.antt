use Rattle.std.proofs.Common.{List, get_or, false, ◌+◌, ap, refl}
use Rattle.ar_io.proofs.Writing.{writes_exit, writes_as, leaves_all, leaves_on, leaves_front, leaves_none, next_read, no_item}
use Rattle.ar_meaning.specs.TraceText.{variable_line, lines_from}
use Rattle.gts_flatten.specs.Flat.{naming_of_parts}
use Rattle.domains.specs.declared.Value.{Value}
use Rattle.domains.specs.declared.Value.TheVariants.{Truth}
use Rattle.replayer.proofs.shown.variable_lines.Goals as goal

pub loop-v-init : goal.loop-v-init
loop-v-init g c = record { leaves = leaves_all _ _; numbered = refl }

pub returns-in_err-variable_line : goal.returns-in_err-variable_line
returns-in_err-variable_line g c =
    writes_exit _ _ c.from_residual.ensures.1
    (leaves_front _ _ c.loop-v.invariant.leaves
    (writes_as _ _ (ap (λ n. variable_line (naming_of_parts c.args.parts.now) n
    (get_or c.args.values.now c.loop-v.v-index (Truth false))) c.loop-v.invariant.numbered)
    c.in_err-variable_line.ensures)
    (next_read (λ (xs : List Value). lines_from (variable_line (naming_of_parts c.args.parts.now)) c.loop-v.v-index xs)
    c.args.values.now c.loop-v.v-index (Truth false) c.loop-v-test.true))

pub loop-v-preserved : goal.loop-v-preserved
loop-v-preserved g c = record {
  leaves = leaves_on _ _ c.loop-v.invariant.leaves
      (writes_as _ _ (ap (λ n. variable_line (naming_of_parts c.args.parts.now) n
      (get_or c.args.values.now c.loop-v.v-index (Truth false))) c.loop-v.invariant.numbered)
      c.in_ok-variable_line.ensures)
      (next_read (λ (xs : List Value). lines_from (variable_line (naming_of_parts c.args.parts.now)) c.loop-v.v-index
      xs) c.args.values.now c.loop-v.v-index (Truth false) c.loop-v-test.true);
  numbered = ap (λ n. n + 1) c.loop-v.invariant.numbered;
}

pub returns : goal.returns
returns g c =
    leaves_none _ c.loop-v.invariant.leaves
    (no_item (λ (xs : List Value). lines_from (variable_line (naming_of_parts c.args.parts.now)) c.loop-v.v-index xs)
    c.args.values.now c.loop-v.v-index c.loop-v-test.false)
