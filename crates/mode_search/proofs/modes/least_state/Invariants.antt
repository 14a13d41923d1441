use Rattle.std.proofs.Common.{take}
use Rattle.mode_search.specs.Modes.{IsNamedState, IsLeastVariable}
use Rattle.mode_search.proofs.modes.least_state.Given as goal

abbrev pub invariant-loop-name : goal.invariant-loop-name
invariant-loop-name l = IsLeastVariable (IsNamedState l.parts l.unit.n (take l.name-index l.names)) l.least
