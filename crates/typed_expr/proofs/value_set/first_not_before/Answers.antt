use Rattle.std.proofs.Common.{sym, ◌∙◌, arith, ◌<◌, ◌-◌, ◌+◌, ◌/◌, true, false}
use Rattle.domains.specs.declared.Value.TheVariants.{Truth}
use Rattle.typed_expr.proofs.Putting.{lower-grows, upper-grows, at-any}
use Rattle.typed_expr.proofs.value_set.first_not_before.Goals as goal

pub loop-low-preserved-then-before : goal.loop-low-preserved-then-before
loop-low-preserved-then-before c =
    let m = c.loop-low.low + (c.loop-low.high - c.loop-low.low) / 2 in
    let order = c.loop-low.invariant.order in
    let within = c.loop-low.invariant.within in
    let test = c.loop-low-test.true in
    let below : m < c.loop-low.high = omega arith in
    record {
      order = omega arith;
      within = within;
      lower =
          lower-grows c.args.values.now c.args.v m c.requires (omega arith)
          (at-any c.args.values.now c.args.v m (Truth false) true (omega arith)
          (sym c.before-in-loop-low.ensures ∙ c.if-before.true));
      upper = c.loop-low.invariant.upper;
    }

pub loop-low-preserved : goal.loop-low-preserved
loop-low-preserved c =
    let m = c.loop-low.low + (c.loop-low.high - c.loop-low.low) / 2 in
    let order = c.loop-low.invariant.order in
    let within = c.loop-low.invariant.within in
    let test = c.loop-low-test.true in
    let below : m < c.loop-low.high = omega arith in
    record {
      order = omega arith;
      within = omega arith;
      lower = c.loop-low.invariant.lower;
      upper =
          upper-grows c.args.values.now c.args.v m c.requires
          (at-any c.args.values.now c.args.v m (Truth false) false (omega arith)
          (sym c.before-in-loop-low.ensures ∙ c.if-before.false));
    }
