use Rattle.mode_search.specs.Kept.{AddsKeptWays}
use Rattle.mode_search.proofs.kept.add_event.Given as goal

abbrev pub invariant-loop-way : goal.invariant-loop-way
invariant-loop-way l = AddsKeptWays l.parts l.id l.event l.way-index l.initial.kept.items l.kept.items
