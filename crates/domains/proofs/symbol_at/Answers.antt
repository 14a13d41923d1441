-- Each symbol is looked at.
use Rattle.std.proofs.Common.{◌≡◌, ◌∙◌, ◌<◌, ℕ, sym, subst, inl, inr, arith, get_or, count_by, nat_lt}
use Rattle.std.proofs.lemmas.Bool.{cases_order}
use Rattle.std.proofs.lemmas.List.{get_or_default}
use Rattle.domains.proofs.symbol_at.Goals as goal

pub loop-s-preserved : goal.loop-s-preserved
loop-s-preserved c = λ k h e.
    let xs = c.args.symbols.now in
    elim (cases_order k c.loop-s.s-index) [
      | inl is ↦ c.if-count_below-position-2.false (c.count_below-in-loop-s.ensures
          ∙ subst (λ (n : ℕ). count_by (λ x. nat_lt x (get_or xs n 0)) xs ≡ c.args.position) is e)
      | inr other ↦ elim other [
        | inl earlier ↦ c.loop-s.invariant k earlier e
        | inr later ↦ absurd (omega (arith, h, later))
      ]
    ]

pub returns-clause-none : goal.returns-clause-none
returns-clause-none c = λ s one e.
    let xs = c.args.symbols.now in
    let (k, h, is) = one in
    let looked : k < c.loop-s.s-index = omega (arith, h, c.loop-s-test.false) in
    c.loop-s.invariant k looked
    (subst (λ (n : ℕ). count_by (λ x. nat_lt x n) xs ≡ c.args.position) (sym (get_or_default xs k 0 s h ∙ is)) e)
