-- Facts and what stands after rounds.
use Rattle.std.proofs.Common.{◌≡◌, ◌≤◌, ◌+◌, ℕ, zero, suc, List, [], ◌∷◌, inl, inr, refl, sym, subst, arith}
use Rattle.ar_base.specs.Lists.{Stands}
use Rattle.ar_base.proofs.Standing.{at_most, one_contains, contains_one, one_cases, one_first, one_rest}
use Rattle.domains.specs.declared.Value.{Value}
use Rattle.typed_expr.specs.Pairs.{Pair, HasPair}
use Rattle.typed_expr.proofs.Facts.{yields_more, nothing_holds}
use Rattle.ar_meaning.specs.Systems.{Variable, Net}
use Rattle.ar_meaning.specs.Facts.{given, assigned, Allows, HasStateValue, FactOf}
use Rattle.ar_meaning.proofs.Least.{closed, passes_more}
use Rattle.flow_reasons.specs.Rounds.{IsAdded, Round}

module _ {V : Type 0} (net : Net V) (t : List Value) where
  -- what stands after some rounds stands after more
  pub round_grows : (j k : ℕ) → j ≤ k → (x : V) (v : Value) → Round net t j x v → Round net t k x v
  round_grows zero zero l x v h = h
  round_grows (suc j) zero l x v h = absurd (omega arith)
  round_grows j (suc k) l x v h =
      elim (at_most j (suc k) (omega arith)) [
        | inl m ↦ inl (round_grows j k (omega arith) x v h)
        | inr e ↦ subst (λ n. Round net t n x v) e h
      ]

  -- what the assertions add from facts is a fact
  pub added_fact : (P : V → Value → Type 0) → ((x : V) (v : Value) → P x v → FactOf net t x v) → (x : V) (v : Value)
      → IsAdded net P x v → FactOf net t x v
  added_fact P facts x v h =
      subst (λ z. FactOf net t z v) h.adds.is_target
      (closed net.assertions (Allows net) (HasStateValue net t) h.assign v h.is_one
      (passes_more V P (FactOf net t) facts h.adds.passes) (yields_more V P (FactOf net t) facts h.adds.yields)
      (subst (λ z. Allows net z v) (sym h.adds.is_target) h.adds.allowed))

  -- what stands after rounds is a fact
  pub round_fact : (k : ℕ) (x : V) (v : Value) → Round net t k x v → FactOf net t x v
  round_fact zero x v h = given h
  round_fact (suc k) x v (inl h) = round_fact k x v h
  round_fact (suc k) x v (inr h) = added_fact (Round net t k) (round_fact k) x v h

  -- finitely many pairs, each of which stands after some rounds, stand together after some
  bounded : (K : List (Pair V)) → ((x : V) (v : Value) → HasPair K x v → (k : ℕ) × Round net t k x v)
      → (m : ℕ) × ((x : V) (v : Value) → HasPair K x v → Round net t m x v)
  bounded [] h = (0, λ x v m. absurd (nothing_holds x v m))
  bounded (p ∷ K) h =
      let a = h p.0 p.1 (contains_one (p ∷ K) p (one_first p K)) in
      let b = bounded K (λ x v m. h x v (contains_one (p ∷ K) (x, v) (one_rest p K (x, v) (one_contains K (x, v) m)))) in (
        a.0 + b.0,
        λ x v m. elim (one_cases p K (x, v) (one_contains (p ∷ K) (x, v) m)) [
          | inl e ↦ (let P : Pair V → Type 0 = λ q. Round net t (a.0 + b.0) q.0 q.1 in
              subst P e (round_grows a.0 (a.0 + b.0) (omega arith) p.0 p.1 a.1))
          | inr o ↦ round_grows b.0 (a.0 + b.0) (omega arith) x v (b.1 x v (contains_one K (x, v) o))
        ],
      )

  -- each fact stands after some rounds
  pub fact_round : (x : V) (v : Value) → FactOf net t x v → (k : ℕ) × Round net t k x v
  fact_round x v (given h) = (0, h)
  fact_round x v (assigned a K o h p y l) =
      let b = bounded K (λ x v m. fact_round x v (h x v m)) in (
        suc b.0,
        inr (record {
          assign = a;
          is_one = o;
          adds = record {
            is_target = refl;
            passes = passes_more V (HasPair K) (Round net t b.0) b.1 p;
            yields = yields_more V (HasPair K) (Round net t b.0) b.1 y;
            allowed = l;
          };
        }),
      )

  -- the variable of what stands after rounds
  pub record Placed (x : V) : Type 0 where
    pub place : ℕ
    pub variable : Variable V
    pub stands : Stands net.variables place variable
    pub is_key : variable.key ≡ x

  pub placed : (k : ℕ) (x : V) (v : Value) → Round net t k x v → Placed x
  placed zero x v h = record { place = h.place; variable = h.variable; stands = h.stands; is_key = h.is_key }
  placed (suc k) x v (inl h) = placed k x v h
  placed (suc k) x v (inr h) =
      let l = h.adds.allowed in record { place = l.place; variable = l.variable; stands = l.stands; is_key = l.is_key }
