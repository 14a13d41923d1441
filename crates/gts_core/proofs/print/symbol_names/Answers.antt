use Rattle.std.proofs.Common.{◌∙◌, ap, map, codes, List, ℕ, get_or}
use Rattle.ar_base.specs.Texts.{text_at, separated}
use Rattle.ar_io.proofs.Writing.{writes_on, writes_front, writes_exit, writes_as, leaves_all, leaves_on, leaves_front, leaves_none, next_read, no_item}
use Rattle.gts_core.proofs.print.symbol_names.Goals as goal

pub loop-symbol-init : goal.loop-symbol-init
loop-symbol-init g c = leaves_all _ _

pub returns-in_err-write_text : goal.returns-in_err-write_text
returns-in_err-write_text g c =
    writes_exit _ _ c.from_residual.ensures.1
    (leaves_front _ _ c.loop-symbol.invariant (writes_front _ _ (writes_as _ _ c.either.ensures c.in_err-write_text.ensures))
    (next_read (λ (xs : List ℕ). separated c.loop-symbol.first (codes ", ")
    (map (text_at c.args.parts.now.symbols.items) xs)) c.args.symbols.now c.loop-symbol.symbol-index 0
    c.loop-symbol-test.true))

pub returns-in_err-write_text-2 : goal.returns-in_err-write_text-2
returns-in_err-write_text-2 g c =
    writes_exit _ _ c.from_residual-in_err-write_text-2.ensures.1
    (leaves_front _ _ c.loop-symbol.invariant
    (writes_on (writes_as _ _ c.either.ensures c.in_ok-write_text.ensures)
    (writes_as _ _ (c.text_at.ensures
    ∙ ap (λ (ts : List (List ℕ)). text_at ts (get_or c.args.symbols.now c.loop-symbol.symbol-index 0))
    c.deref.ensures.value) c.in_err-write_text-2.ensures))
    (next_read (λ (xs : List ℕ). separated c.loop-symbol.first (codes ", ")
    (map (text_at c.args.parts.now.symbols.items) xs)) c.args.symbols.now c.loop-symbol.symbol-index 0
    c.loop-symbol-test.true))

pub loop-symbol-preserved : goal.loop-symbol-preserved
loop-symbol-preserved g c =
    leaves_on _ _ c.loop-symbol.invariant
    (writes_on (writes_as _ _ c.either.ensures c.in_ok-write_text.ensures)
    (writes_as _ _ (c.text_at.ensures
    ∙ ap (λ (ts : List (List ℕ)). text_at ts (get_or c.args.symbols.now c.loop-symbol.symbol-index 0))
    c.deref.ensures.value) c.in_ok-write_text-2.ensures))
    (next_read (λ (xs : List ℕ). separated c.loop-symbol.first (codes ", ")
    (map (text_at c.args.parts.now.symbols.items) xs)) c.args.symbols.now c.loop-symbol.symbol-index 0
    c.loop-symbol-test.true)

pub returns : goal.returns
returns g c =
    leaves_none _ c.loop-symbol.invariant
    (no_item (λ (xs : List ℕ). separated c.loop-symbol.first (codes ", ")
    (map (text_at c.args.parts.now.symbols.items) xs)) c.args.symbols.now c.loop-symbol.symbol-index
    c.loop-symbol-test.false)
