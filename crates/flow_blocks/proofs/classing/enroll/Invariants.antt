-- The classes noted so far.
use Rattle.std.proofs.Common.{◌≡◌, ℕ, take, length, slice_get}
use Rattle.ar_base.specs.Lists.{Stands, IsOneOf}
use Rattle.flow_blocks.proofs.classing.enroll.Given as goal

abbrev pub invariant-loop-member : goal.invariant-loop-member
invariant-loop-member l = record {
  long : length l.class_of ≡ length l.fn.class_of;
  members : (n : ℕ) → IsOneOf (take l.member-index l.members) n → Stands l.class_of n l.class;
  others : (n : ℕ) → (IsOneOf (take l.member-index l.members) n → ⊥)
      → slice_get l.class_of n ≡ slice_get l.fn.class_of n;
}
