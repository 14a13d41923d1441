use Rattle.std.proofs.Common.{sym, ◌∙◌, arith, ◌<◌, ◌≡◌, ◌-◌, ◌+◌, ◌/◌, true, false, subst}
use Rattle.std.proofs.lemmas.List.{get_or_default}
use Rattle.domains.specs.Values.{is_before}
use Rattle.eq_build.specs.declared.groups.Group.{Group}
use Rattle.eq_build.proofs.Rising.{lower_to}
use Rattle.eq_build.proofs.groups.place_of.Goals as goal

pub loop-low-preserved-then-before : goal.loop-low-preserved-then-before
loop-low-preserved-then-before c =
    let m = c.loop-low.low + (c.loop-low.high - c.loop-low.low) / 2 in
    let order = c.loop-low.invariant.order in
    let within = c.loop-low.invariant.within in
    let test = c.loop-low-test.true in
    let below : m < c.loop-low.high = omega arith in
    let x = c.index-groups-middle.result in
    record {
      order = omega arith;
      within = within;
      lower = lower_to c.args.groups.now c.args.value m x c.requires (omega arith) c.index-groups-middle.is
          (subst (λ (z : Group). is_before z.value c.args.value ≡ true) (sym c.index-groups-middle.is)
          (sym c.before-in-loop-low.ensures ∙ c.if-before.true));
      upper = c.loop-low.invariant.upper;
    }

pub loop-low-preserved : goal.loop-low-preserved
loop-low-preserved c =
    let m = c.loop-low.low + (c.loop-low.high - c.loop-low.low) / 2 in
    let order = c.loop-low.invariant.order in
    let within = c.loop-low.invariant.within in
    let test = c.loop-low-test.true in
    let below : m < c.loop-low.high = omega arith in
    let x = c.index-groups-middle.result in
    record {
      order = omega arith;
      within = omega arith;
      lower = c.loop-low.invariant.lower;
      upper = λ l d. subst (λ (z : Group). is_before z.value c.args.value ≡ false)
          (get_or_default c.args.groups.now m x d l)
          (sym c.before-in-loop-low.ensures ∙ c.if-before.false);
    }
