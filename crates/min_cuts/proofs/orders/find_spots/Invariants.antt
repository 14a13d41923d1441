use Rattle.std.proofs.Common.{◌≡◌, ◌≤◌, map, take, get_or, vec_capacity}
use Rattle.min_cuts.proofs.orders.find_spots.Given as goal

abbrev pub invariant-loop-step : goal.invariant-loop-step
invariant-loop-step l = record {
  spots : l.spots.items ≡ map (λ x. get_or l.places x.event.n 0) (take l.step-index l.steps);
  room : vec_capacity l.fn.spots ≤ vec_capacity l.spots;
}
