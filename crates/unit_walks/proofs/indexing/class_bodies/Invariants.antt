use Rattle.std.proofs.Common.{◌≡◌, ℕ, take}
use Rattle.unit_walks.specs.Classes.{class_at, class_in}
use Rattle.unit_walks.proofs.indexing.class_bodies.Given as goal

abbrev pub invariant-loop-name : goal.invariant-loop-name
invariant-loop-name l = (x : ℕ) → class_at l.classes x ≡ class_in (take l.name-index l.types) x
