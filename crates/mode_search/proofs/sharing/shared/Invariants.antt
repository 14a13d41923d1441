use Rattle.mode_search.specs.Sharing.{IsSharing}
use Rattle.mode_search.proofs.sharing.shared.Given as goal

abbrev pub invariant-loop-one : goal.invariant-loop-one
invariant-loop-one l = IsSharing l.count l.live l.one-index l.found
