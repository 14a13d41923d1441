use Rattle.std.proofs.Common.{take}
use Rattle.gts_core.specs.Copies.{AreCopies, AreTermCopies, AreCaseCopies}
use Rattle.gts_core.proofs.copies.+copy_expression.Given as goal

abbrev pub invariant-chosen-loop-test : goal.invariant-chosen-loop-test
invariant-chosen-loop-test l = AreCaseCopies (take l.test-index l.choices) l.out.items

abbrev pub invariant-listed-loop-e : goal.invariant-listed-loop-e
invariant-listed-loop-e l = AreCopies (take l.e-index l.es) l.out.items

abbrev pub invariant-summed-loop-plus : goal.invariant-summed-loop-plus
invariant-summed-loop-plus l = AreTermCopies (take l.plus-index l.terms) l.out.items
