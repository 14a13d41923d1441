use Rattle.std.proofs.Common.{rules, w64, SFits}
use Rattle.std.proofs.lemmas.Int.{to_z-of_z}
use Rattle.class_table.proofs.Numbered.{domain_symbols, domain_range}
use Rattle.class_table.proofs.symbols.Symbols.domain.Goals as goal

pub returns-in-Range : goal.returns-in-Range
returns-in-Range c =
    let f : SFits w64 c.in-Range.low = search rules in
    let g : SFits w64 c.in-Range.high = search rules in
    simp to_z-of_z (domain_range _ _ _ _ c.in-Range.is c.requires)

pub returns-in_ok-numbers-in-Symbols : goal.returns-in_ok-numbers-in-Symbols
returns-in_ok-numbers-in-Symbols c =
    domain_symbols _ _ _ _ _ c.in-Symbols.is (rw c.deref.ensures.value at c.in_ok-numbers-in-Symbols.ensures)
