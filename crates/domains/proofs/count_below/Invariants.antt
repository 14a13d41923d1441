-- The symbols so far, and those that are left.
use Rattle.std.proofs.Common.{◌≡◌, ◌+◌, ◌≤◌, drop, count_by, nat_lt}
use Rattle.domains.proofs.count_below.Given as goal

abbrev pub invariant-loop-x : goal.invariant-loop-x
invariant-loop-x l = (l.count ≤ l.x-index)
    × (l.count + count_by (λ x. nat_lt x l.s) (drop l.x-index l.symbols) ≡ count_by (λ x. nat_lt x l.s) l.symbols)
