use Rattle.std.proofs.Common.{ℕ}
use Rattle.class_table.specs.Declaring.{Declared}
use Rattle.class_table.specs.Earliest.{IsEarliest, Until}
use Rattle.class_table.specs.Shown.{Shows, MisnamesOne}
use Rattle.class_table.specs.declared.tables.Body.{Body}
use Rattle.class_table.proofs.Looping.{AtItem}
use Rattle.class_table.proofs.misnaming.first_misnamed.Given as goal

abbrev pub invariant-loop-body : goal.invariant-loop-body
invariant-loop-body l = (d : Declared) → Shows d l.bodies l.types
    → IsEarliest (Until (AtItem l.bodies (λ (k : ℕ) (b : Body). MisnamesOne d b.own.items)) l.body-index) l.found
