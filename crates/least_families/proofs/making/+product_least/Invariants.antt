use Rattle.std.proofs.Common.{◌+◌}
use Rattle.least_families.proofs.making.+product_least.Given as goal

abbrev pub decreases-product_least : goal.decreases-product_least
decreases-product_least l = l.f.n + l.g.n
