use Rattle.std.proofs.Common.{◌≤◌, length}
use Rattle.class_table.proofs.members.count_members.Given as goal

abbrev pub invariant-loop-owned : goal.invariant-loop-owned
invariant-loop-owned l = length l.own ≤ l.count
