use Rattle.std.proofs.Common.{◌≤◌, ◌-◌, length}
use Rattle.aralia_text.proofs.Events.{IsPartSoFar}
use Rattle.aralia_text.proofs.fronts.event_part.Given as goal

abbrev pub invariant-loop-path : goal.invariant-loop-path
invariant-loop-path l = (l.n ≤ length l.names) × IsPartSoFar l.names l.rest l.n l.most

abbrev pub decreases-loop-path : goal.decreases-loop-path
decreases-loop-path l = length l.names - l.n
