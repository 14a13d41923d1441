use Rattle.mode_search.specs.Events.{AreFirstStates}
use Rattle.mode_search.proofs.states.first_states.Given as goal

abbrev pub invariant-loop-n : goal.invariant-loop-n
invariant-loop-n l = AreFirstStates l.parts l.n l.firsts.items
