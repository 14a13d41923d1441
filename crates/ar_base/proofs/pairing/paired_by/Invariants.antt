use Rattle.std.proofs.Common.{◌↔◌, ℕ, take}
use Rattle.ar_base.specs.Lists.{IsOneOf}
use Rattle.ar_base.specs.Pairing.{IsPaired}
use Rattle.ar_base.proofs.pairing.paired_by.Given as goal

abbrev pub invariant-loop-first : goal.invariant-loop-first
invariant-loop-first l = (n : ℕ) → (IsOneOf l.all.items n
    ↔ IsPaired l.pairs.pairs.items (take l.first-index l.firsts) n)
