use Rattle.std.proofs.Common.{length}
use Rattle.unit_rules.proofs.targets.+is_target.Given as goal

-- the words that are left
abbrev pub decreases-is_target : goal.decreases-is_target
decreases-is_target l = length l.words.now
