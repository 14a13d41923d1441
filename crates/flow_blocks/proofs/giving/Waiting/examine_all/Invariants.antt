-- The classes that are still to be looked at.
use Rattle.std.proofs.Common.{◌≡◌, ℕ, List, drop}
use Rattle.flow_blocks.specs.Waits.{IsWaiting}
use Rattle.flow_blocks.proofs.giving.Waiting.examine_all.Given as goal

abbrev pub invariant-loop-class : goal.invariant-loop-class
invariant-loop-class l = record {
  waits : (count : ℕ) (uses : List (ℕ × ℕ)) (class_of : List ℕ) → IsWaiting count uses class_of l.fn.self l.classes
      → IsWaiting count uses class_of l.self (drop l.class-index l.classes);
  given : l.self.given.items ≡ l.fn.self.given.items;
}
