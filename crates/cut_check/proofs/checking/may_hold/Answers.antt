use Rattle.std.proofs.Common.{true, false, length, sym, ap, ◌∙◌, subst}
use Rattle.std.proofs.lemmas.Bool.{lt-ltb}
use Rattle.ar_base.proofs.Standing.{stands_item}
use Rattle.ar_meaning.specs.Found.{IsAnswer}
use Rattle.cut_check.specs.Verdicts.{ContainsLine}
use Rattle.cut_check.specs.declared.rows.Row.{Row}
use Rattle.cut_check.proofs.HoldLemmas.{not_within, may_before, may_after, words_answer}
use Rattle.cut_check.proofs.checking.may_hold.Goals as goal

pub is_within-requires-else-k-n : goal.is_within-requires-else-k-n
is_within-requires-else-k-n c =
    let rows = c.args.rows.now in
    let r = c.index-rows-n.result in
    let s = c.index-rows-k.result in
    let same = c.requires.wide.same c.args.n c.args.k r s (stands_item rows c.args.n r c.requires.n c.index-rows-n.is)
    (stands_item rows c.args.k s c.requires.k c.index-rows-k.is) in
    ap length (c.deref-else-k-n.ensures.value ∙ ap (λ (z : Row). z.words.items) (sym c.index-rows-n.is)) ∙ same
    ∙ sym (ap length (c.deref-else-k-n-2.ensures.value ∙ ap (λ (z : Row). z.words.items) (sym c.index-rows-k.is)))

pub returns-then-not-is_within : goal.returns-then-not-is_within
returns-then-not-is_within c = λ lines have.
    let rows = c.args.rows.now in
    let r = c.index-rows-n.result in
    let s = c.index-rows-k.result in
    not_within lines rows have c.args.n c.args.k r s (stands_item rows c.args.n r c.requires.n c.index-rows-n.is)
    (stands_item rows c.args.k s c.requires.k c.index-rows-k.is)
    (words_answer _ _ s.words.items r.words.items false
    (c.deref.ensures.value ∙ ap (λ (z : Row). z.words.items) (sym c.index-rows-k.is))
    (c.deref-2.ensures.value ∙ ap (λ (z : Row). z.words.items) (sym c.index-rows-n.is)) c.if-not-is_within.ensures)

pub returns-then-k-n : goal.returns-then-k-n
returns-then-k-n c = λ lines have.
    let rows = c.args.rows.now in
    let r = c.index-rows-n.result in
    let s = c.index-rows-k.result in
    subst (λ b. IsAnswer b (ContainsLine lines c.args.n c.args.k)) (sym (lt-ltb c.args.k c.args.n c.if-k-n.true))
    (may_before lines rows have c.args.n c.args.k r s (stands_item rows c.args.n r c.requires.n c.index-rows-n.is)
    (stands_item rows c.args.k s c.requires.k c.index-rows-k.is)
    (words_answer _ _ s.words.items r.words.items true
    (c.deref.ensures.value ∙ ap (λ (z : Row). z.words.items) (sym c.index-rows-k.is))
    (c.deref-2.ensures.value ∙ ap (λ (z : Row). z.words.items) (sym c.index-rows-n.is)) c.if-not-is_within.ensures)
    c.if-k-n.true)

pub returns-else-k-n : goal.returns-else-k-n
returns-else-k-n c = λ lines have.
    let rows = c.args.rows.now in
    let r = c.index-rows-n.result in
    let s = c.index-rows-k.result in
    may_after lines rows have c.args.n c.args.k r s (stands_item rows c.args.n r c.requires.n c.index-rows-n.is)
    (stands_item rows c.args.k s c.requires.k c.index-rows-k.is)
    (words_answer _ _ s.words.items r.words.items true
    (c.deref.ensures.value ∙ ap (λ (z : Row). z.words.items) (sym c.index-rows-k.is))
    (c.deref-2.ensures.value ∙ ap (λ (z : Row). z.words.items) (sym c.index-rows-n.is)) c.if-not-is_within.ensures)
    c.if-k-n.false c.is_within-else-k-n.result
    (words_answer _ _ r.words.items s.words.items c.is_within-else-k-n.result
    (c.deref-else-k-n.ensures.value ∙ ap (λ (z : Row). z.words.items) (sym c.index-rows-n.is))
    (c.deref-else-k-n-2.ensures.value ∙ ap (λ (z : Row). z.words.items) (sym c.index-rows-k.is))
    c.is_within-else-k-n.ensures)
