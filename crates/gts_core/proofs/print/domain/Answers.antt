use Rattle.std.proofs.Common.{ap, sym, map, codes, List, ℕ, true, rules, SFits, w64}
use Rattle.ar_base.specs.Texts.{text_at, separated}
use Rattle.ar_io.proofs.Writing.{writes_on, writes_front, writes_exit, writes_as}
use Rattle.gts_core.specs.Printed.{domain_text}
use Rattle.std.proofs.lemmas.Int.{to_z-of_z}
use Rattle.gts_core.proofs.print.domain.Goals as goal

pub returns-in_err-write_text-in-Symbols : goal.returns-in_err-write_text-in-Symbols
returns-in_err-write_text-in-Symbols g c =
    writes_exit _ _ c.from_residual.ensures.1
    (writes_as _ _ (ap (domain_text c.args.parts.now) (sym c.in-Symbols.is))
    (writes_front _ _ c.in_err-write_text-in-Symbols.ensures))

pub returns-in_err-symbol_names-in-Symbols : goal.returns-in_err-symbol_names-in-Symbols
returns-in_err-symbol_names-in-Symbols g c =
    writes_exit _ _ c.from_residual-in_err-symbol_names-in-Symbols.ensures.1
    (writes_as _ _ (ap (domain_text c.args.parts.now) (sym c.in-Symbols.is))
    (writes_front _ _ (writes_on c.in_ok-write_text-in-Symbols.ensures
    (writes_as _ _ (ap (λ (ks : List ℕ). separated true (codes ", ")
    (map (text_at c.args.parts.now.symbols.items) ks)) c.deref.ensures.value)
    c.in_err-symbol_names-in-Symbols.ensures))))

pub returns-in_ok-symbol_names-in-Symbols : goal.returns-in_ok-symbol_names-in-Symbols
returns-in_ok-symbol_names-in-Symbols g c =
    writes_as _ _ (ap (domain_text c.args.parts.now) (sym c.in-Symbols.is))
    (writes_on (writes_on c.in_ok-write_text-in-Symbols.ensures
    (writes_as _ _ (ap (λ (ks : List ℕ). separated true (codes ", ")
    (map (text_at c.args.parts.now.symbols.items) ks)) c.deref.ensures.value)
    c.in_ok-symbol_names-in-Symbols.ensures)) c.write_text-in-Symbols-2.ensures)

pub returns-in_err-write_text-in-Range : goal.returns-in_err-write_text-in-Range
returns-in_err-write_text-in-Range g c =
    writes_exit _ _ c.from_residual-in_err-write_text-in-Range.ensures.1
    (writes_as _ _ (ap (domain_text c.args.parts.now) (sym c.in-Range.is))
    (writes_front _ _ c.in_err-write_text-in-Range.ensures))

pub returns-in_err-write_signed-in-Range : goal.returns-in_err-write_signed-in-Range
returns-in_err-write_signed-in-Range g c =
    let low : SFits w64 c.in-Range.low = search rules in
    writes_exit _ _ c.from_residual-in_err-write_signed-in-Range.ensures.1
    (writes_as _ _ (ap (domain_text c.args.parts.now) (sym c.in-Range.is))
    (writes_front _ _ (writes_front _ _ (writes_front _ _
    (writes_on c.in_ok-write_text-in-Range.ensures (simp to_z-of_z at c.in_err-write_signed-in-Range.ensures))))))

pub returns-in_err-write_text-in-Range-2 : goal.returns-in_err-write_text-in-Range-2
returns-in_err-write_text-in-Range-2 g c =
    let low : SFits w64 c.in-Range.low = search rules in
    writes_exit _ _ c.from_residual-in_err-write_text-in-Range-2.ensures.1
    (writes_as _ _ (ap (domain_text c.args.parts.now) (sym c.in-Range.is))
    (writes_front _ _ (writes_front _ _ (writes_on (writes_on c.in_ok-write_text-in-Range.ensures (simp to_z-of_z at c.in_ok-write_signed-in-Range.ensures))
    c.in_err-write_text-in-Range-2.ensures))))

pub returns-in_err-write_signed-in-Range-2 : goal.returns-in_err-write_signed-in-Range-2
returns-in_err-write_signed-in-Range-2 g c =
    let low : SFits w64 c.in-Range.low = search rules in
    let high : SFits w64 c.in-Range.high = search rules in
    writes_exit _ _ c.from_residual-in_err-write_signed-in-Range-2.ensures.1
    (writes_as _ _ (ap (domain_text c.args.parts.now) (sym c.in-Range.is))
    (writes_front _ _ (writes_on (writes_on (writes_on c.in_ok-write_text-in-Range.ensures (simp to_z-of_z at c.in_ok-write_signed-in-Range.ensures))
    c.in_ok-write_text-in-Range-2.ensures) (simp to_z-of_z at c.in_err-write_signed-in-Range-2.ensures))))

pub returns-in_ok-write_signed-in-Range-2 : goal.returns-in_ok-write_signed-in-Range-2
returns-in_ok-write_signed-in-Range-2 g c =
    let low : SFits w64 c.in-Range.low = search rules in
    let high : SFits w64 c.in-Range.high = search rules in
    writes_as _ _ (ap (domain_text c.args.parts.now) (sym c.in-Range.is))
    (writes_on (writes_on (writes_on (writes_on c.in_ok-write_text-in-Range.ensures (simp to_z-of_z at c.in_ok-write_signed-in-Range.ensures))
    c.in_ok-write_text-in-Range-2.ensures) (simp to_z-of_z at c.in_ok-write_signed-in-Range-2.ensures)) c.write_text-in-Range-3.ensures)
