use Rattle.std.proofs.Common.{◌≤◌, ◌+◌, vec_capacity, vec_len}
use Rattle.zdd_nodes.specs.Nodes.{family, IsFamilyNumber}
use Rattle.min_cuts.specs.Sizes.{largest}
use Rattle.min_cuts.proofs.Walking.{IsDescent}
use Rattle.min_cuts.proofs.steps.descend.Given as goal

abbrev pub invariant-loop-event : goal.invariant-loop-event
invariant-loop-event l = record {
  in_store : IsFamilyNumber l.store l.number.n;
  way : IsDescent l.store l.fn.steps.items l.fn.from.n l.steps.items l.number.n;
  room : vec_len l.steps + largest (family l.store l.number.n) ≤ vec_capacity l.steps;
  grown : vec_capacity l.fn.steps ≤ vec_capacity l.steps;
}

abbrev pub decreases-loop-event : goal.decreases-loop-event
decreases-loop-event l = l.number.n
