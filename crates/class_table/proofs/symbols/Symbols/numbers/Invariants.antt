use Rattle.std.proofs.Common.{ℕ, map, take}
use Rattle.ar_base.specs.Lists.{Along, Stands}
use Rattle.ar_base.specs.Numbers.{NameId}
use Rattle.ar_base.specs.declared.places.Place.{Place}
use Rattle.class_table.specs.Symbols.{UsesMore, names_of_symbols}
use Rattle.class_table.proofs.symbols.Symbols.numbers.Given as goal

abbrev pub invariant-loop-name : goal.invariant-loop-name
invariant-loop-name l = UsesMore (map (λ (n : NameId × Place). n.0.n) (take l.name-index l.names)) l.initial.self l.self
    × Along (λ (n : NameId × Place) (k : ℕ). Stands (names_of_symbols l.self) k n.0.n) (take l.name-index l.names)
    l.numbers.items
