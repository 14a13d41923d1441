use Rattle.std.proofs.Common.{◌↔◌, ◌<◌, ℕ, List, arith, subst, sym}
use Rattle.ar_base.specs.Lists.{IsOneOf}
use Rattle.ar_base.specs.Sets.{Ascends}
use Rattle.ar_base.proofs.Sets.{ascends_push}
use Rattle.flow_reasons.proofs.Placing.{ascends_none}
use Rattle.flow_reasons.proofs.Gathering.{below_none, below_next}
use Rattle.flow_reasons.proofs.bringing.numbers_below.Goals as goal

pub loop-number-init : goal.loop-number-init
loop-number-init c = let P : List ℕ → Type 0 = λ z. Ascends z × ((n : ℕ) → (IsOneOf z n ↔ (n < 0))) in
    subst P (sym c.new-numbers.ensures.items) (ascends_none, below_none)

pub loop-number-preserved : goal.loop-number-preserved
loop-number-preserved c =
    let h = c.loop-number.invariant in
    let e = c.in_ok-push.ensures.items in (
      subst Ascends (sym e) (ascends_push c.loop-number.numbers.items c.loop-number.number h.0 (λ n o. (h.1 n).0 o)),
      λ n. below_next c.loop-number.numbers.items c.push.new.self.items c.loop-number.number n e (h.1 n),
    )

pub returns-clause-each : goal.returns-clause-each
returns-clause-each c = λ n.
    let h = c.loop-number.invariant.1 n in
    (λ o. (let l = h.0 o in omega (arith, l)), λ l. h.1 (omega (arith, l)))
