use Rattle.std.proofs.Common.{take}
use Rattle.ar_base.specs.Lists.{IsOneOf}
use Rattle.cut_check.specs.Flat.{flat_event_numbers}
use Rattle.cut_check.proofs.listed.is_among.Given as goal

abbrev pub invariant-loop-other : goal.invariant-loop-other
invariant-loop-other l = IsOneOf (flat_event_numbers (take l.other-index l.cut)) l.event → ⊥
