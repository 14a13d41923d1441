-- The pairs of a number and the variables that stand in a list.
use Rattle.std.proofs.Common.{◌≡◌, ℕ, ◌⊎◌, inl, inr, List, [], ◌∷◌, ◌++◌, sym, ap, subst}
use Rattle.ar_base.specs.Lists.{IsOneOf}
use Rattle.ar_base.specs.Numbers.{VarId}
use Rattle.ar_base.proofs.Standing.{one_none, one_left}
use Rattle.ar_base.proofs.Items.{one_last, last_cases}
use Rattle.gts_core.specs.Adding.{Adds, HasThose}
use Rattle.gts_core.proofs.Added.{those_of_empty}
use Rattle.flow_propagate.specs.Named.{IsPairFor, AddsNamed}

module _ (n : ℕ) where
  pub pairs_none : (pairs : List (ℕ × ℕ)) → AddsNamed n (λ x. IsOneOf [] x) pairs pairs
  pairs_none pairs = record { grows = λ q o. o; only = λ q o. inl o; all = λ x o. absurd (one_none x o) }

  -- where one P is another
  pair_as : (P Q : VarId → Type 0) (q : ℕ × ℕ) → ((x : VarId) → P x → Q x) → IsPairFor n P q → IsPairFor n Q q
  pair_as P Q q f k = record {
    variable = k.variable;
    has = f k.variable k.has;
    first = k.first;
    second = k.second;
  }

  -- one variable more
  pub pairs_more : (xs : List VarId) (y : VarId) (old now new : List (ℕ × ℕ))
      → AddsNamed n (λ x. IsOneOf xs x) old now → new ≡ now ++ (y.n, n) ∷ []
      → AddsNamed n (λ x. IsOneOf (xs ++ y ∷ []) x) old new
  pairs_more xs y old now new f e = record {
    grows = λ q o. there q (f.grows q o);
    only = λ q o. elim (last_cases now (y.n, n) q (subst (λ (z : List (ℕ × ℕ)). IsOneOf z q) e o)) [
      | inl k ↦ before q (f.only q k)
      | inr i ↦ inr (record {
        variable = y;
        has = one_last xs y;
        first = ap (λ (z : ℕ × ℕ). z.0) (sym i);
        second = ap (λ (z : ℕ × ℕ). z.1) (sym i);
      })
    ];
    all = λ x o. elim (last_cases xs y x o) [
      | inl k ↦ there (x.n, n) (f.all x k)
      | inr i ↦ subst (λ (z : VarId). IsOneOf new (z.n, n)) i last
    ];
  }
    where
      there : (q : ℕ × ℕ) → IsOneOf now q → IsOneOf new q
      there q o = subst (λ (z : List (ℕ × ℕ)). IsOneOf z q) (sym e) (one_left now ((y.n, n) ∷ []) q o)

      last : IsOneOf new (y.n, n)
      last = subst (λ (z : List (ℕ × ℕ)). IsOneOf z (y.n, n)) (sym e) (one_last now (y.n, n))

      before : (q : ℕ × ℕ) → IsOneOf old q ⊎ IsPairFor n (λ x. IsOneOf xs x) q
          → IsOneOf old q ⊎ IsPairFor n (λ x. IsOneOf (xs ++ y ∷ []) x) q
      before q (inl o) = inl o
      before q (inr k) =
          inr (pair_as (λ x. IsOneOf xs x) (λ x. IsOneOf (xs ++ y ∷ []) x) q (λ x o. one_left xs (y ∷ []) x o) k)

  -- the pairs of the variables that have P, where an empty list got those variables
  pub pairs_gathered : (P : VarId → Type 0) (none names : List VarId) (old new : List (ℕ × ℕ)) → none ≡ []
      → Adds P none names → AddsNamed n (λ x. IsOneOf names x) old new → AddsNamed n P old new
  pairs_gathered P none names old new e adds f = record {
    grows = f.grows;
    only = λ q o. elim (f.only q o) [
      | inl k ↦ inl k
      | inr k ↦ inr (pair_as (λ x. IsOneOf names x) P q those.only k)
    ];
    all = λ x p. f.all x (those.each x p);
  }
    where
      those : HasThose P names
      those = those_of_empty P none names e adds
