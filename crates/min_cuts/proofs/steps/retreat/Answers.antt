use Rattle.std.proofs.Common.{[], ap, ◌∙◌, subst}
use Rattle.min_cuts.specs.Kept.{waiting, HaveRoom}
use Rattle.min_cuts.proofs.Walking.{IsRetreat, back_gives, have_front, have_last, retreat_goes}
use Rattle.min_cuts.proofs.steps.retreat.Goals as goal

pub returns-then-step-ne0-clause-next : goal.returns-then-step-ne0-clause-next
returns-then-step-ne0-clause-next c = λ s. c.loop-step.invariant.way.same s
    ∙ ap (λ z. waiting s [] z) c.in-Some.ensures.items ∙ back_gives s c.pop.new.self.items c.in-Some.step

pub returns-then-step-ne0-clause-fits : goal.returns-then-step-ne0-clause-fits
returns-then-step-ne0-clause-fits c = λ s room h z. have_last s room c.pop.new.self.items c.in-Some.step
    (subst (λ x. HaveRoom s room x) c.in-Some.ensures.items (c.loop-step.invariant.way.rests s room h))

pub returns-then-step-ne0-clause-rests : goal.returns-then-step-ne0-clause-rests
returns-then-step-ne0-clause-rests c = λ s room h. have_front s room c.pop.new.self.items c.in-Some.step
    (subst (λ x. HaveRoom s room x) c.in-Some.ensures.items (c.loop-step.invariant.way.rests s room h))

pub loop-step-preserved : goal.loop-step-preserved
loop-step-preserved c = record {
  way = retreat_goes c.args.steps.now.items c.pop.new.self.items c.in-Some.step
      c.if-step-ne0.false (subst (λ x. IsRetreat c.args.steps.now.items x) c.in-Some.ensures.items
      c.loop-step.invariant.way);
  capacity = c.in-Some.ensures.capacity ∙ c.loop-step.invariant.capacity;
}
