use Rattle.std.proofs.Common.{◌≡◌, ◌+◌, length, map, take}
use Rattle.zdd_nodes.specs.Nodes.{family}
use Rattle.gate_modules.specs.Choosing.{AreChosenSoFar}
use Rattle.gate_modules.specs.ShortenedInside.{module_of}
use Rattle.gate_modules.specs.Walked.{AreTwins}
use Rattle.gate_modules.proofs.shortening.choose.Given as goal

abbrev pub invariant-loop-range : goal.invariant-loop-range
invariant-loop-range l =
    AreTwins l.store l.twins × (length l.twins ≡ length l.store.families + 2)
    × AreChosenSoFar (family l.store l.root.n) l.ranges (take l.range-index l.ranges) l.chosen.items
    (map module_of l.modules.items)
