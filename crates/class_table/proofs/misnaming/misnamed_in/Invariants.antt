use Rattle.std.proofs.Common.{ℕ}
use Rattle.class_table.specs.Declaring.{Declared}
use Rattle.class_table.specs.Earliest.{IsEarliest, Until}
use Rattle.class_table.specs.Kinds.{KnowsTypes}
use Rattle.class_table.specs.Shown.{MisnamesIn}
use Rattle.class_table.specs.declared.tables.Owned.{Owned}
use Rattle.class_table.proofs.Looping.{AtItem}
use Rattle.class_table.proofs.misnaming.misnamed_in.Given as goal

abbrev pub invariant-loop-owned : goal.invariant-loop-owned
invariant-loop-owned l = (d : Declared) → KnowsTypes d l.types
    → IsEarliest (Until (AtItem l.own (λ (k : ℕ) (o : Owned). MisnamesIn d o)) l.owned-index) l.found
