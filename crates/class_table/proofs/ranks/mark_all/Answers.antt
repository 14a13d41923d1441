use Rattle.std.proofs.Common.{List, ℕ, get_or, take, sym, subst, arith, inl, inr}
use Rattle.std.proofs.lemmas.List.{take_all}
use Rattle.ar_base.specs.Lists.{IsOneOf}
use Rattle.ar_base.proofs.Standing.{stands_get, one_none, one_split, only_item}
use Rattle.class_table.specs.Ranks.{IsMarked}
use Rattle.class_table.proofs.Taken.{take_next}
use Rattle.class_table.proofs.ranks.mark_all.Goals as goal

pub loop-number-init : goal.loop-number-init
loop-number-init c = record { ranks = λ rows pending h. (h, λ a o. absurd (one_none a o)); left = omega arith }

pub loop-number-preserved : goal.loop-number-preserved
loop-number-preserved c =
    let i = c.loop-number.number-index in
    let item = get_or c.args.row.now i 0 in
    let e = take_next c.args.row.now i item (stands_get c.args.row.now i 0 c.loop-number-test.true) in
    record {
      ranks = λ rows pending h.
          let k = c.loop-number.invariant.ranks rows pending h in
          let m = c.in_ok-mark.ensures.ranks rows pending k.0 in (
            m.0,
            λ a o. elim (one_split (take i c.args.row.now) _ a (subst (λ (xs : List ℕ). IsOneOf xs a) e o)) [
              | inl p ↦ m.2 a (k.1 a p)
              | inr p ↦ subst (λ (n : ℕ). IsMarked n c.args.rank c.mark.new.ranks) (only_item item a p) m.1
            ],
          );
      left = omega (arith, c.in_ok-mark.ensures.left, c.loop-number.invariant.left);
    }

pub returns-clause-ranks : goal.returns-clause-ranks
returns-clause-ranks c = λ rows pending h.
    let k = c.loop-number.invariant.ranks rows pending h in (
      k.0,
      λ a o. k.1 a (subst (λ (xs : List ℕ). IsOneOf xs a) (sym (take_all c.loop-number.number-index c.args.row.now c.loop-number-test.false)) o),
    )

pub returns-clause-left : goal.returns-clause-left
returns-clause-left c = c.loop-number.invariant.left
