use Rattle.std.proofs.Common.{◌≡◌, ℕ, take}
use Rattle.class_table.specs.Kinds.{kind_looked_up}
use Rattle.class_table.specs.Kinding.{kind_among}
use Rattle.class_table.proofs.types.TypeKinds.new.Given as goal

abbrev pub invariant-loop-name : goal.invariant-loop-name
invariant-loop-name l = (x : ℕ) → kind_looked_up l.kinds x ≡ kind_among (take l.name-index l.types) x
