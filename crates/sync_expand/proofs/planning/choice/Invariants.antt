use Rattle.std.proofs.Common.{◌≡◌, ◌<◌, ◌++◌, ℕ, Bool, List, map, drop}
use Rattle.ar_base.specs.Lists.{Stands}
use Rattle.gts_core.specs.Bound.{event_part_of}
use Rattle.gts_core.specs.View.{part_of}
use Rattle.sync_expand.specs.Counts.{choice_count}
use Rattle.sync_expand.specs.Plans.{choices_by}
use Rattle.sync_expand.proofs.planning.choice.Given as goal

abbrev pub invariant-loop-must : goal.invariant-loop-must
invariant-loop-must l = (l.span ≡ choice_count l.numbering.counts.items (map event_part_of (drop l.must-index l.parts)))
    × (l.left < l.span)
    × ((rest : List (Bool × ℕ))
    → Stands (choices_by l.numbering.counts.items (map event_part_of (drop l.must-index l.parts))) l.left rest
    → Stands (choices_by l.numbering.counts.items (map event_part_of l.parts)) l.fn.place
    (map part_of l.chosen.items ++ rest))
