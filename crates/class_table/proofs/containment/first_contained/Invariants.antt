use Rattle.std.proofs.Common.{ℕ, None}
use Rattle.class_table.specs.Declaring.{Declared}
use Rattle.class_table.specs.Earliest.{FindsBeside, Until}
use Rattle.class_table.specs.Shown.{Shows, NamesAgain}
use Rattle.class_table.specs.declared.tables.Body.{Body}
use Rattle.class_table.proofs.Looping.{AtItem}
use Rattle.class_table.proofs.containment.first_contained.Given as goal

abbrev pub invariant-loop-place : goal.invariant-loop-place
invariant-loop-place l = (d : Declared) → Shows d l.bodies l.types
    → FindsBeside (Until (AtItem l.bodies (λ (k : ℕ) (b : Body). NamesAgain d k b.own.items)) l.place) None l.found
