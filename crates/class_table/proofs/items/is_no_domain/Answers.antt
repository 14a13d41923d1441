use Rattle.std.proofs.Common.{rules, w64, SFits}
use Rattle.std.proofs.lemmas.Int.{to_z-of_z}
use Rattle.ar_base.proofs.Results.{ok_map}
use Rattle.class_table.proofs.FirstItems.{body_range, body_symbols}
use Rattle.class_table.proofs.items.is_no_domain.Goals as goal

pub returns-in-Range : goal.returns-in-Range
returns-in-Range c =
    let f : SFits w64 c.in-Range.low = search rules in
    let g : SFits w64 c.in-Range.high = search rules in
    let h = simp to_z-of_z at c.is_no_range.ensures in
    body_range _ _ _ _ c.in-Range.is h

pub returns-in-Symbols : goal.returns-in-Symbols
returns-in-Symbols c = ok_map _ (λ r h. body_symbols _ _ r c.in-Symbols.is h)
    (rw c.deref.ensures.value at c.are_no_symbols.ensures)
