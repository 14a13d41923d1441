use Rattle.std.proofs.Common.{◌≡◌, ℕ, List, sym, ◌∙◌, subst, arith}
use Rattle.std.proofs.lemmas.Slice.Eq.{bytes_eq-Decides}
use Rattle.ar_base.specs.Lists.{Stands}
use Rattle.ar_base.proofs.Standing.{stands_within}
use Rattle.ar_base.proofs.Truths.{equal_is_false}
use Rattle.job_inputs.specs.Wanting as w
use Rattle.job_inputs.proofs.Words.{none_more, not_symbol, is_here, is_not}
use Rattle.job_inputs.proofs.values.symbol.Goals as goal

pub returns-then-eq : goal.returns-then-eq
returns-then-eq c =
    let same : c.as_str.result.now ≡ c.args.word.now
    = (bytes_eq-Decides c.as_str.result.now c.args.word.now).0 (sym c.eq.ensures ∙ c.if-eq.true) in
    let stands = is_here c.args.symbols.now c.loop-place.place c.index-symbols-place.result c.loop-place-test.true
    c.index-symbols-place.is in
    w.symbol (subst (λ (z : List ℕ). Stands c.args.symbols.now c.loop-place.place z) (sym c.as_str.ensures ∙ same)
    stands)

pub loop-place-preserved : goal.loop-place-preserved
loop-place-preserved c =
    none_more c.args.symbols.now c.args.word.now c.loop-place.place c.loop-place.invariant
    (is_not c.args.symbols.now c.loop-place.place c.index-symbols-place.result c.as_str.result.now c.args.word.now
    c.loop-place-test.true c.index-symbols-place.is c.as_str.ensures
    (λ e. equal_is_false _ _ _ e c.eq.ensures c.if-eq.false))

pub returns : goal.returns
returns c = λ v. not_symbol (λ n s.
    let l = stands_within c.args.symbols.now n c.args.word.now s in
    c.loop-place.invariant n (omega (arith, l, c.loop-place-test.false)) s) v
