use Rattle.std.proofs.Common.{◌≡◌, ◌<◌, ℕ, length, slice_index}
use Rattle.sync_expand.specs.Reached.{IsReachCount}
use Rattle.sync_expand.proofs.reach.reach_counts.Given as goal

abbrev pub invariant-loop-place : goal.invariant-loop-place
invariant-loop-place l = record {
  long : length l.counts.items ≡ l.place;
  each : (n : ℕ) → n < l.place → IsReachCount l.events n (slice_index l.counts.items n);
}
