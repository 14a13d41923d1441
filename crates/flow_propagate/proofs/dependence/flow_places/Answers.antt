use Rattle.std.proofs.Common.{◌≡◌, ◌+◌, if◌then◌else◌, List, ℕ, ap, subst, sym, refl, arith, ◌∙◌}
use Rattle.flow_propagate.specs.Dependence.{ArePlaces}
use Rattle.flow_propagate.proofs.FlowUses.{places_start, places_more, places_all, count_more, count_below, count_all}
use Rattle.flow_propagate.proofs.dependence.flow_places.Goals as goal
use Rattle.flow_propagate.proofs.dependence.flow_places.Goals.{then-not-variable, else-not-variable}

pub loop-variable-init : goal.loop-variable-init
loop-variable-init c = (
  subst (λ (z : List ℕ). ArePlaces c.args.variables.now 0 z) (sym c.new-before.ensures.items)
      (places_start c.args.variables.now),
  refl,
)

pub loop-variable-preserved : goal.loop-variable-preserved
loop-variable-preserved c =
    let next : c.if-not-variable.count ≡ c.loop-variable.count + (if c.variable-item.result.is_state then 0 else 1) =
    elim c.if-not-variable.branch [
      | then-not-variable w ↦
          w.count-is ∙ ap (λ b. c.loop-variable.count + (if b then 0 else 1)) (sym w.if-not-variable.true)
      | else-not-variable w ↦
          let same : c.loop-variable.count ≡ c.loop-variable.count + 0 = omega arith in
          w.count-is ∙ same ∙ ap (λ b. c.loop-variable.count + (if b then 0 else 1)) (sym w.if-not-variable.false)
    ] in (
      places_more c.args.variables.now c.loop-variable.variable-index c.loop-variable.count c.loop-variable.before.items
          c.push.new.self.items c.loop-variable.invariant.0 c.loop-variable.invariant.1 c.in_ok-push.ensures.items,
      next ∙ count_more c.args.variables.now c.loop-variable.variable-index c.variable-item.result
          c.loop-variable.count c.loop-variable-test.true c.variable-item.is c.loop-variable.invariant.1,
    )

pub overflow_add-count : goal.overflow_add-count
overflow_add-count c =
    let r = count_below c.args.variables.now c.loop-variable.variable-index c.loop-variable.count
    c.loop-variable-test.true c.loop-variable.invariant.1 in
    omega (arith, r, c.requires)

pub returns : goal.returns
returns c = record {
  places = places_all c.args.variables.now c.loop-variable.variable-index c.loop-variable.before.items
      c.loop-variable-test.false c.loop-variable.auto.variable-index-end c.loop-variable.invariant.0;
  count = count_all c.args.variables.now c.loop-variable.variable-index c.loop-variable.count c.loop-variable-test.false
      c.loop-variable.invariant.1;
}
