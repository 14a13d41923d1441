use Rattle.std.proofs.Common.{◌≡◌, ◌≤◌, map, take, get_or, vec_capacity}
use Rattle.min_cuts.specs.Kept.{numbers_of_set}
use Rattle.min_cuts.proofs.orders.name_spots.Given as goal

abbrev pub invariant-loop-spot : goal.invariant-loop-spot
invariant-loop-spot l = record {
  given : numbers_of_set l.given.items ≡ map (λ p. get_or (numbers_of_set l.order) p 0) (take l.spot-index l.spots);
  room : vec_capacity l.fn.given ≤ vec_capacity l.given;
}
