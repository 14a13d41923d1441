use Rattle.std.proofs.Common.{◌+◌, ◌-◌, ◌*◌, ◌^◌}
use Rattle.mode_trees.proofs.trees.+add_below.Given as goal

abbrev pub decreases-add_below : goal.decreases-add_below
decreases-add_below l = l.room * (2 ^ 32 + 1) + (2 ^ 32 - l.low)
