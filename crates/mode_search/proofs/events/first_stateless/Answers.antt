use Rattle.std.proofs.Common.{◌≡◌, ◌<◌, ◌≤◌, ◌⊎◌, inl, inr, ℕ, Bool, false, Option, Some, None, get_or, refl, subst, arith}
use Rattle.std.specs.Option.{is_some}
use Rattle.ar_base.specs.Lists.{Stands}
use Rattle.ar_base.specs.Numbers.{VarId}
use Rattle.ar_base.proofs.Standing.{stands_get}
use Rattle.mode_search.specs.Events.{IsStateless}
use Rattle.mode_search.proofs.events.first_stateless.Goals as goal

none_is : (found : Option VarId) → is_some found ≡ false → found ≡ None
none_is None e = refl
none_is (Some x) e = cc

below : (P : ℕ → Type 0) (n : ℕ) → ((k : ℕ) → k < n → P k → ⊥) → (k : ℕ) → P k → n ≤ k
below P n before k h = by (less_or k n)
  where
    less_or : (k n : ℕ) → (k < n) ⊎ (n ≤ k)
    less_or k n = grind arith

    by : (k < n) ⊎ (n ≤ k) → n ≤ k
    by (inl l) = absurd (before k l h)
    by (inr l) = l

pub returns-then-is_none : goal.returns-then-is_none
returns-then-is_none c =
    let unit = c.loop-unit.unit in (
      record {
        moves = subst (λ (z : Bool). Stands c.args.moving.now unit z) c.if-moves.true
            (stands_get c.args.moving.now unit false c.loop-unit-test.true);
        none = subst (λ (z : Option VarId). Stands c.args.firsts.now unit z)
            (none_is (get_or c.args.firsts.now unit None) c.if-is_none.ensures)
            (stands_get c.args.firsts.now unit None (omega (arith, c.loop-unit-test.true, c.requires.long)));
      },
      below (IsStateless c.args.moving.now c.args.firsts.now) unit c.loop-unit.invariant,
    )
