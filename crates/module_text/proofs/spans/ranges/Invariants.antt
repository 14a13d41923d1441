use Rattle.module_text.specs.Spans.{AllGain, IsAtFirst}
use Rattle.module_text.proofs.spans.ranges.Given as goal

abbrev pub invariant-loop-number : goal.invariant-loop-number
invariant-loop-number l = AllGain (IsAtFirst l.tree.units.items l.tree.events.items l.number) l.initial.ranges.items
    l.ranges.items
