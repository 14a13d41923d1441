use Rattle.domains.specs.Domains.{values_of}
use Rattle.mode_search.specs.Reached.{Expands}
use Rattle.mode_search.proofs.searching.expand.Given as goal

abbrev pub invariant-loop-way : goal.invariant-loop-way
invariant-loop-way l = Expands l.parts l.variable.n (values_of l.domain) l.ways l.mode l.way-index l.initial.found
    l.found
