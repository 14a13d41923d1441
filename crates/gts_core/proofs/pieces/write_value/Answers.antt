use Rattle.std.proofs.Common.{ap, sym, rules, SFits, w64}
use Rattle.ar_io.proofs.Writing.{writes_as}
use Rattle.ar_meaning.specs.ValueTexts.{value_text}
use Rattle.std.proofs.lemmas.Int.{to_z-of_z}
use Rattle.gts_core.proofs.pieces.write_value.Goals as goal

pub returns-in-Whole : goal.returns-in-Whole
returns-in-Whole g c =
    let whole : SFits w64 c.in-Whole.n = search rules in
    let is = simp to_z-of_z at c.write_signed.ensures in
    writes_as _ _ (ap (value_text c.args.parts.now.symbols.items) (sym c.in-Whole.is)) is
