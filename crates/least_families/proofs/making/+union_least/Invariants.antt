use Rattle.std.proofs.Common.{◌+◌}
use Rattle.least_families.proofs.making.+union_least.Given as goal

abbrev pub decreases-union_least : goal.decreases-union_least
decreases-union_least l = l.f.n + l.g.n
