-- The flows read the values of the state variables alone.
use Rattle.std.proofs.Common.{◌≡◌, ℕ, zero, suc, Bool, true, false, List, [], ◌∷◌, length, refl, ap, subst, arith}
use Rattle.ar_base.specs.Lists.{Stands, IsFirst, HasNo}
use Rattle.domains.specs.declared.Value.{Value}
use Rattle.typed_expr.proofs.Facts.{yields_more}
use Rattle.ar_meaning.specs.Systems.{Variable, Net}
use Rattle.ar_meaning.specs.Facts.{HasStateValue, Allows, given, FactOf}
use Rattle.ar_meaning.specs.Flows.{HasTwo, IsOutside, Completes, state, known, unknown, Outcome, Flows, two, outside, broken, all_hold}
use Rattle.ar_meaning.specs.Flows as flows
use Rattle.ar_meaning.proofs.Least.{least, closed, passes_more}

-- the valuations give each state variable the same value
pub data Same_states {V : Type 0} : List (Variable V) → List Value → List Value → Type 0 where
  none : Same_states [] [] []
  both : {x : Variable V} {xs : List (Variable V)} {v : Value} {vs ws : List Value} → Same_states xs vs ws
      → Same_states (x ∷ xs) (v ∷ vs) (v ∷ ws)
  flow : {x : Variable V} {xs : List (Variable V)} {v w : Value} {vs ws : List Value} → x.is_state ≡ false
      → Same_states xs vs ws → Same_states (x ∷ xs) (v ∷ vs) (w ∷ ws)

pub turned : {V : Type 0} {xs : List (Variable V)} {vs ws : List Value} → Same_states xs vs ws → Same_states xs ws vs
turned none = none
turned (both d) = both (turned d)
turned (flow e d) = flow e (turned d)

pub same_at : {V : Type 0} {xs : List (Variable V)} {vs ws : List Value} → Same_states xs vs ws
    → (n : ℕ) (x : Variable V) → Stands xs n x → x.is_state ≡ true → (v : Value) → Stands vs n v → Stands ws n v
same_at none n x e i v k = cc
same_at (both d) zero x e i v k = k
same_at (both d) (suc n) x e i v k = same_at d n x e i v k
same_at (flow {x = z} f d) zero x e i v k = let j : z ≡ x = cc in let l = ap (λ z. z.is_state) j in cc
same_at (flow f d) (suc n) x e i v k = same_at d n x e i v k

same_completes : {V : Type 0} {P Q : V → Value → Type 0} {xs : List (Variable V)} {vs us ws : List Value}
    → ((x : V) (v : Value) → P x v → Q x v) → ((x : V) (v : Value) → Q x v → P x v)
    → Same_states xs vs us → Completes P xs vs ws → Completes Q xs us ws
same_completes on off none flows.none = flows.none
same_completes on off (both d) (state i c) = state i (same_completes on off d c)
same_completes on off (both {x = x} d) (known {w = w} i p c) = known i (on x.key w p) (same_completes on off d c)
same_completes on off (both {x = x} d) (unknown i n c) =
    unknown i (λ w q. n w (off x.key w q)) (same_completes on off d c)
same_completes on off (flow e d) (state i c) = cc
same_completes on off (flow {x = x} e d) (known {w = w} i p c) = known i (on x.key w p) (same_completes on off d c)
same_completes on off (flow {x = x} e d) (unknown i n c) =
    unknown i (λ w q. n w (off x.key w q)) (same_completes on off d c)

module _ {V : Type 0} (net : Net V) where
  same_fact : {t u : List Value} → Same_states net.variables t u → (x : V) (v : Value) → FactOf net t x v
      → FactOf net u x v
  same_fact {t = t} {u = u} d = least net.assertions (Allows net) (HasStateValue net t) (FactOf net u)
      (λ x v h. given (record {
        place = h.place;
        variable = h.variable;
        stands = h.stands;
        is_key = h.is_key;
        is_state = h.is_state;
        value = same_at d h.place h.variable h.stands h.is_state v h.value;
      }))
      (λ a v m p y l. closed net.assertions (Allows net) (HasStateValue net u) a v m p y l)

  same_two : {t u : List Value} → Same_states net.variables t u → (x : Variable V) → HasTwo net t x → HasTwo net u x
  same_two d x h = record {
    is_flow = h.is_flow;
    first = h.first;
    second = h.second;
    is_first = same_fact d x.key h.first h.is_first;
    is_second = same_fact d x.key h.second h.is_second;
    differ = h.differ;
  }

  same_outside : {t u : List Value} → Same_states net.variables t u → (x : Variable V) → IsOutside net t x
      → IsOutside net u x
  same_outside {t = t} {u = u} d x h = record {
    is_flow = h.is_flow;
    assign = h.assign;
    value = h.value;
    is_one = h.is_one;
    is_target = h.is_target;
    passes = passes_more V (FactOf net t) (FactOf net u) (same_fact d) h.passes;
    yields = yields_more V (FactOf net t) (FactOf net u) (same_fact d) h.yields;
    outside = h.outside;
  }

  first_as : {A : Type 0} {xs : List A} {P Q : A → Type 0} {n : ℕ} → ((a : A) → P a → Q a) → ((a : A) → Q a → P a)
      → IsFirst xs P n → IsFirst xs Q n
  first_as on off h = record {
    item = h.item;
    stands = h.stands;
    has = on h.item h.has;
    before = λ k a l s q. h.before k a l s (off a q);
  }

  none_as : {A : Type 0} {xs : List A} {P Q : A → Type 0} → ((a : A) → Q a → P a) → HasNo xs P → HasNo xs Q
  none_as off h = record { has_not = λ k a s q. h.has_not k a s (off a q) }

  pub same_flows : {t u : List Value} {o : Outcome} → Same_states net.variables t u → Flows net t o → Flows net u o
  same_flows d (two f) = two (first_as (same_two d) (same_two (turned d)) f)
  same_flows d (outside n f) =
      outside (none_as (same_two (turned d)) n) (first_as (same_outside d) (same_outside (turned d)) f)
  same_flows d (broken total n m c f) =
      broken total (none_as (same_two (turned d)) n) (none_as (same_outside (turned d)) m)
      (same_completes (same_fact d) (same_fact (turned d)) d c) f
  same_flows d (all_hold n m c f) =
      all_hold (none_as (same_two (turned d)) n) (none_as (same_outside (turned d)) m)
      (same_completes (same_fact d) (same_fact (turned d)) d c) f

pub states_same : {V : Type 0} (xs : List (Variable V)) (t u : List Value) → length t ≡ length xs → length u ≡ length xs
    → ((n : ℕ) (x : Variable V) → Stands xs n x → x.is_state ≡ true → (m : Value) × Stands t n m × Stands u n m)
    → Same_states xs t u
states_same [] [] [] a b h = none
states_same [] (v ∷ t) u a b h = absurd (omega arith)
states_same [] [] (w ∷ u) a b h = absurd (omega arith)
states_same (x ∷ xs) [] u a b h = absurd (omega arith)
states_same (x ∷ xs) (v ∷ t) [] a b h = absurd (omega arith)
states_same (x ∷ xs) (v ∷ t) (w ∷ u) a b h =
    go (states_same xs t u (omega arith) (omega arith) (λ n y s i. h (suc n) y s i)) x.is_state refl
  where
    go : Same_states xs t u → (b : Bool) → x.is_state ≡ b → Same_states (x ∷ xs) (v ∷ t) (w ∷ u)
    go rest true i =
        let k = h zero x refl i in
        let e : v ≡ w = cc in
        subst (λ w. Same_states (x ∷ xs) (v ∷ t) (w ∷ u)) e (both rest)
    go rest false i = flow i rest
