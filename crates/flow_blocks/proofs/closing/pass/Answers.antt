-- One use after the other.
use Rattle.std.proofs.Common.{◌≡◌, ℕ, ◌+◌, false, take, refl, sym, ap, subst, arith, inl, inr}
use Rattle.flow_blocks.specs.Blocks.{Depends, through}
use Rattle.flow_blocks.specs.Bits.{HasBit, AreClosed, AreDependences}
use Rattle.flow_blocks.proofs.UseLemmas.{one_at, one_of_next, neither, one_of_both}
use Rattle.flow_blocks.proofs.closing.pass.Goals as goal

pub join-changed-requires-clause-from : goal.join-changed-requires-clause-from
join-changed-requires-clause-from c =
    (c.requires.below _ _ (one_at c.args.uses.now c.loop-from.from-index (0, 0) c.loop-from-test.true)).0

pub join-changed-requires-clause-to : goal.join-changed-requires-clause-to
join-changed-requires-clause-to c =
    (c.requires.below _ _ (one_at c.args.uses.now c.loop-from.from-index (0, 0) c.loop-from-test.true)).1

-- where the row did not change, no bit did
still : (c : goal.After-rows-1) → c.join-changed.result ≡ false → (a n : ℕ) → HasBit c.join-changed.new.rows a n
    → HasBit c.loop-from.rows a n
still c e a n h = elim ((c.join-changed.ensures.bits a n).0 h) [
  | inl old ↦ old
  | inr new ↦ subst (λ (k : ℕ). HasBit c.loop-from.rows k n) (sym new.0) (c.join-changed.ensures.still e n new.1)
]

sound : (c : goal.After-rows-1) → AreDependences c.args.uses.now c.args.rows.now
    → AreDependences c.args.uses.now c.join-changed.new.rows
sound c old a n h = elim ((c.join-changed.ensures.bits a n).0 h) [
  | inl before ↦ c.loop-from.invariant.sound old a n before
  | inr new ↦ subst (λ (k : ℕ). Depends c.args.uses.now k n) (sym new.0)
      (through (one_at c.args.uses.now c.loop-from.from-index (0, 0) c.loop-from-test.true)
      (c.loop-from.invariant.sound old _ n new.1))
]

closed : (c : goal.After-rows-1) → c.loop-from.changed ≡ false → c.join-changed.result ≡ false
    → AreClosed (take (c.loop-from.from-index + 1) c.args.uses.now) c.join-changed.new.rows
closed c before now = record {
  closed = λ a b n one h.
      let old = still c now b n h in
      (c.join-changed.ensures.bits a n).1
      (inl (elim (one_of_next c.args.uses.now c.loop-from.from-index (0, 0) (a, b) c.loop-from-test.true one) [
        | inl earlier ↦ (c.loop-from.invariant.closed before).closed a b n earlier old
        | inr this ↦
            subst (λ (k : ℕ). HasBit c.loop-from.rows k n) (sym (ap (λ (p : ℕ × ℕ). p.0) this))
            (c.join-changed.ensures.still now n
            (subst (λ (k : ℕ). HasBit c.loop-from.rows k n) (ap (λ (p : ℕ × ℕ). p.1) this) old))
      ]));
}

pub loop-from-preserved : goal.loop-from-preserved
loop-from-preserved c = record {
  rows = c.join-changed.ensures.rows;
  grows = λ a n h. (c.join-changed.ensures.bits a n).1 (inl (c.loop-from.invariant.grows a n h));
  sound = sound c;
  same = λ e a n h. let both = neither c.loop-from.changed c.join-changed.result _ refl e in c.loop-from.invariant.same both.0 a n (still c both.1 a n h);
  closed = λ e. let both = neither c.loop-from.changed c.join-changed.result _ refl e in closed c both.0 both.1;
  no_more = let first = c.loop-from.invariant.no_more in let second = c.join-changed.ensures.no_more in omega (arith, first, second);
  less = λ e. elim (one_of_both c.loop-from.changed c.join-changed.result _ refl e) [
    | inl before ↦ let first = c.loop-from.invariant.less before in let second = c.join-changed.ensures.no_more in omega (arith, first, second)
    | inr now ↦ let first = c.loop-from.invariant.no_more in let second = c.join-changed.ensures.less now in omega (arith, first, second)
  ];
}
