-- What was dropped is the class itself or was given.
use Rattle.std.proofs.Common.{◌≡◌, ℕ, ◌⊎◌, vec_len}
use Rattle.ar_base.specs.Lists.{IsOneOf}
use Rattle.flow_blocks.specs.Waits.{WasGiven}
use Rattle.flow_blocks.proofs.giving.next_target.Given as goal

abbrev pub invariant-loop-target : goal.invariant-loop-target
invariant-loop-target l = record {
  fewer : (d : ℕ) → IsOneOf l.targets.items d → IsOneOf l.fn.targets.items d;
  kept : (d : ℕ) → IsOneOf l.fn.targets.items d → (d ≡ l.class) ⊎ (WasGiven l.given d ⊎ IsOneOf l.targets.items d);
}

abbrev pub decreases-loop-target : goal.decreases-loop-target
decreases-loop-target l = vec_len l.targets
