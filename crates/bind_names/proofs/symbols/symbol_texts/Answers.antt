use Rattle.std.proofs.Common.{◌≡◌, ℕ, List, map, get_or, arith, subst, sym, ◌∙◌, ap}
use Rattle.ar_base.proofs.Standing.{stands_get}
use Rattle.ar_base.specs.Numbers.{NameId}
use Rattle.ar_base.specs.Texts.{text_at}
use Rattle.hierarchy.specs.Paths.{name_text}
use Rattle.bind_names.proofs.Named.{symbols_more, symbols_end}
use Rattle.bind_names.proofs.symbols.symbol_texts.Goals as goal

-- a name that is read nowhere
no_name : NameId
no_name = record { n = 0; of = record {} }

pub loop-symbol-preserved : goal.loop-symbol-preserved
unfolding no_name
loop-symbol-preserved c = λ m units tree.
    let names = c.deref-symbol-items.result.now in
    let all = subst (λ (ds : List NameId). map (λ (x : NameId). x.n) ds ≡ m.declared.symbols)
    (sym c.deref-symbol-items.ensures.value) tree.table.table.holds.symbols in
    let n = c.loop-symbol.symbol-index in
    let x = get_or names n no_name in
    symbols_more (name_text m) m.declared.symbols names all n x c.loop-symbol.texts.items c.push.new.self.items
    c.new.result
    (stands_get names n no_name c.loop-symbol-test.true) (c.loop-symbol.invariant m units tree)
    (c.new.ensures ∙ (c.in_ok-text.ensures.ok
    ∙ (c.text_of.ensures ∙ ap (λ (ts : List (List ℕ)). text_at ts x.n) tree.table.table.names)))
    c.in_ok-push.ensures.items

pub returns : goal.returns
returns c = λ m units tree.
    let all = subst (λ (ds : List NameId). map (λ (x : NameId). x.n) ds ≡ m.declared.symbols)
    (sym c.deref-symbol-items.ensures.value) tree.table.table.holds.symbols in
    symbols_end (name_text m) m.declared.symbols c.deref-symbol-items.result.now all c.loop-symbol.symbol-index
    c.loop-symbol.texts.items
    (omega (arith, c.loop-symbol-test.false)) (c.loop-symbol.invariant m units tree)
