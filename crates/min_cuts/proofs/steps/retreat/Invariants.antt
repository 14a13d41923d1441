use Rattle.std.proofs.Common.{◌≡◌, vec_capacity}
use Rattle.min_cuts.proofs.Walking.{IsRetreat}
use Rattle.min_cuts.proofs.steps.retreat.Given as goal

abbrev pub invariant-loop-step : goal.invariant-loop-step
invariant-loop-step l = record {
  way : IsRetreat l.fn.steps.items l.steps.items;
  capacity : vec_capacity l.steps ≡ vec_capacity l.fn.steps;
}

abbrev pub decreases-loop-step : goal.decreases-loop-step
decreases-loop-step l = goal.left-loop-step l
