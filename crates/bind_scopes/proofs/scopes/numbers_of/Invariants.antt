use Rattle.hierarchy.specs.Units.{numbers}
use Rattle.bind_scopes.proofs.NameSets.{AreNumbersOf}
use Rattle.bind_scopes.proofs.SymbolPlaces.{AreBelow}
use Rattle.bind_scopes.proofs.scopes.numbers_of.Given as goal

abbrev pub invariant-loop-place : goal.invariant-loop-place
invariant-loop-place l = AreNumbersOf l.list l.place l.numbers × AreBelow (numbers l.list) 4294967296 l.place
