use Rattle.std.proofs.Common.{◌-◌, length}
use Rattle.domains.specs.Domains.{values_of}
use Rattle.mode_search.specs.Reached.{IsReaching}
use Rattle.mode_search.proofs.searching.reached.Given as goal

abbrev pub invariant-loop-next : goal.invariant-loop-next
invariant-loop-next l = IsReaching (record
    { parts = l.parts; number = l.variable.n; domain = values_of l.place.domain; ways = l.ways }) l.place.value l.next 0
    l.found

abbrev pub decreases-loop-next : goal.decreases-loop-next
decreases-loop-next l = length (values_of l.place.domain) - l.next
