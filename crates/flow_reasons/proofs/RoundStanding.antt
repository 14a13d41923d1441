-- The reasons of a state with flows: their rounds descend, and there is one list of them.
use Rattle.std.proofs.Common.{◌≡◌, ◌<◌, ◌≤◌, ◌+◌, ℕ, suc, false, List, ◌∷◌, Option, Some, inl, inr, refl, sym, ◌∙◌, ap, subst, arith}
use Rattle.ar_base.specs.Lists.{Stands, IsOneOf, IsFirst, HasNo}
use Rattle.ar_base.proofs.Standing.{stands_one, one_none, one_cases}
use Rattle.ar_base.proofs.Sets.{same_ascending}
use Rattle.domains.specs.declared.Value.{Value}
use Rattle.ar_meaning.specs.Systems.{Variable, Net}
use Rattle.ar_meaning.specs.Facts.{FactOf}
use Rattle.ar_meaning.specs.Flows.{HasTwo, Flows, Total, all_hold}
use Rattle.ar_meaning.proofs.OneAnswer.{first_same, same_value, head_has_not, rest_has_no}
use Rattle.flow_reasons.specs.Rounds.{Round, AddsFact}
use Rattle.flow_reasons.specs.Reasons.{Reason, IsNamedFact, RestsOn, IsDerived, IsReason, derived, reset, AreReasonsFrom, none, state, flow, AreReasons}
use Rattle.flow_reasons.proofs.RoundRounding.{round_grows, round_fact}

-- no flow of a state with flows has two facts
pub no_two : {V : Type 0} {net : Net V} {t total : List Value} → Flows net t (Total total)
    → HasNo net.variables (HasTwo net t)
no_two (all_hold n m c b) = n

fields_one : (r q : Reason) → r.flow ≡ q.flow → r.value ≡ q.value → r.round ≡ q.round → r.by ≡ q.by
    → r.rests_on ≡ q.rests_on → r ≡ q
fields_one r q a b c d e =
    let make : ℕ → Value → ℕ → Option ℕ → List ℕ
    → Reason = λ f v n o l. record { flow = f; value = v; round = n; by = o; rests_on = l } in
    ap (λ z. make z r.value r.round r.by r.rests_on) a
    ∙ (ap (λ z. make q.flow z r.round r.by r.rests_on) b
    ∙ (ap (λ z. make q.flow q.value z r.by r.rests_on) c
    ∙ (ap (λ z. make q.flow q.value q.round z r.rests_on) d ∙ ap (λ z. make q.flow q.value q.round q.by z) e)))

module _ {V : Type 0} (net : Net V) (t : List Value) where
  -- a derived value stands after its round
  pub stands_then : (x : Variable V) (r : Reason) → (d : IsDerived net t x r) → Round net t (suc d.before) x.key r.value
  stands_then x r d =
      inr (record {
        assign = d.first.item;
        is_one = record { place = d.assertion; stands = d.first.stands };
        adds = d.first.has;
      })

  pub derived_fact : (x : Variable V) (r : Reason) → IsDerived net t x r → FactOf net t x.key r.value
  derived_fact x r d = round_fact net t (suc d.before) x.key r.value (stands_then x r d)

  -- the reason of a flow stands among the reasons
  pub record ReasonAt (n : ℕ) (xs : List (Variable V)) (r : Reason) : Type 0 where
    pub place : ℕ
    pub variable : Variable V
    pub stands : Stands xs place variable
    pub number : r.flow ≡ n + place
    pub is_flow : variable.is_state ≡ false
    pub is : IsReason net t variable r

  pub reason_at : {n : ℕ} {xs : List (Variable V)} {rs : List Reason} → AreReasonsFrom net t n xs rs → (r : Reason)
      → IsOneOf rs r → ReasonAt n xs r
  reason_at none r o = absurd (one_none r o)
  reason_at {n = n} (state s d) r o =
      let h = reason_at d r o in
      record {
        place = suc h.place;
        variable = h.variable;
        stands = h.stands;
        number = omega (arith, h.number);
        is_flow = h.is_flow;
        is = h.is;
      }
  reason_at {n = n} (flow {x = x} {xs = xs} {r = q} {rs = qs} s i w d) r o =
      elim (one_cases q qs r o) [
        | inl e ↦ (let P : Reason → Type 0 = λ z. ReasonAt n (x ∷ xs) z in
            subst P e (record {
              place = 0;
              variable = x;
              stands = refl;
              number = omega (arith, i);
              is_flow = s;
              is = w;
            }))
        | inr p ↦ (let h = reason_at d r p in
            record {
              place = suc h.place;
              variable = h.variable;
              stands = h.stands;
              number = omega (arith, h.number);
              is_flow = h.is_flow;
              is = h.is;
            })
      ]

  -- where a flow has at most one fact
  module _ (x : Variable V) (two : HasTwo net t x → ⊥) (is_flow : x.is_state ≡ false) where
    pub one_fact : (v w : Value) → FactOf net t x.key v → FactOf net t x.key w → v ≡ w
    one_fact v w f g =
        same_value v w
        (λ d. two (record { is_flow = is_flow; first = v; second = w; is_first = f; is_second = g; differ = d }))

    -- the fact stands after no fewer rounds than its reason says
    pub comes_by : (r : Reason) → IsDerived net t x r → (k : ℕ) (v : Value) → Round net t k x.key v → r.round ≤ k
    comes_by r d k v h =
        let e = one_fact v r.value (round_fact net t k x.key v h) (derived_fact x r d) in
        let late : k ≤ d.before → ⊥ = λ l. d.not_yet
        (round_grows net t k d.before l x.key r.value (subst (λ w. Round net t k x.key w) e h)) in
        omega (arith, d.round)

    rounds_one : (r q : Reason) → (d : IsDerived net t x r) → (f : IsDerived net t x q) → d.before ≡ f.before
    rounds_one r q d f =
        let a = comes_by r d (suc f.before) q.value (stands_then x q f) in
        let b = comes_by q f (suc d.before) r.value (stands_then x r d) in
        omega (arith, a, b, d.round, f.round)

    rests_one : (k : ℕ) (v : Value) (m m' : ℕ) (ns ns' : List ℕ)
        → (a : IsFirst net.assertions (AddsFact net (Round net t k) x.key v) m)
        → (b : IsFirst net.assertions (AddsFact net (Round net t k) x.key v) m')
        → RestsOn net (Round net t k) a.item ns → RestsOn net (Round net t k) b.item ns' → ns ≡ ns'
    rests_one k v m m' ns ns' a b g h =
        let e = first_same a b in
        let i = stands_one net.assertions m' a.item b.item (subst (λ z. Stands net.assertions z a.item) e a.stands)
        b.stands in
        let f : RestsOn net (Round net t k) b.item ns = subst (λ z. RestsOn net (Round net t k) z ns) i g in
        same_ascending ns ns' f.ascends h.ascends (λ z o. h.whole z (f.sound z o)) (λ z o. f.whole z (h.sound z o))

    derived_one : (r q : Reason) → r.flow ≡ q.flow → IsDerived net t x r → IsDerived net t x q → r ≡ q
    derived_one r q i d f =
        let e = rounds_one r q d f in
        let u = one_fact r.value q.value (derived_fact x r d) (derived_fact x q f) in
        let P : ℕ → Value → Type 0 =
        λ k v. (a : IsFirst net.assertions (AddsFact net (Round net t k) x.key v) d.assertion)
        × RestsOn net (Round net t k) a.item r.rests_on in
        let start : P d.before r.value = (d.first, d.rests_on) in
        let p : P f.before q.value = subst (λ v. P f.before v) u (subst (λ k. P k r.value) e start) in
        fields_one r q i u (d.round ∙ (ap suc e ∙ sym f.round)) (d.by ∙ (ap Some (first_same p.0 f.first) ∙ sym f.by))
        (rests_one f.before q.value d.assertion f.assertion r.rests_on q.rests_on p.0 f.first p.1 f.rests_on)

    pub reason_one : (r q : Reason) → r.flow ≡ q.flow → IsReason net t x r → IsReason net t x q → r ≡ q
    reason_one r q i (derived d) (derived f) = derived_one r q i d f
    reason_one r q i (derived d) (reset f) = absurd (f.no_fact r.value (derived_fact x r d))
    reason_one r q i (reset d) (derived f) = absurd (d.no_fact q.value (derived_fact x q f))
    reason_one r q i (reset d) (reset f) =
        fields_one r q i (d.value ∙ sym f.value) (d.round ∙ sym f.round) (d.by ∙ sym f.by) (d.rests_on ∙ sym f.rests_on)

  -- flows that have no two facts have one list of reasons
  pub reasons_one : {n : ℕ} {xs : List (Variable V)} {rs qs : List Reason} → HasNo xs (HasTwo net t)
      → AreReasonsFrom net t n xs rs → AreReasonsFrom net t n xs qs → rs ≡ qs
  reasons_one h none none = refl
  reasons_one h (state s d) (state s' d') = reasons_one (rest_has_no h) d d'
  reasons_one h (state s d) (flow s' i' w' d') = cc
  reasons_one h (flow s i w d) (state s' d') = cc
  reasons_one h (flow {x = x} {r = r} s i w d) (flow {r = q} s' i' w' d') =
      let e = reason_one x (λ k. head_has_not h k) s r q (i ∙ sym i') w w' in
      let f = reasons_one (rest_has_no h) d d' in cc

  -- a flow that a reason rests on came in a round before
  pub descends : HasNo net.variables (HasTwo net t) → (reasons : List Reason) → AreReasons net t reasons
      → (r s : Reason)
      → IsOneOf reasons r → IsOneOf reasons s → IsOneOf r.rests_on s.flow → s.round < r.round
  descends two reasons are r s o p rests = by (reason_at are r o).is
    where
      found : ReasonAt 0 net.variables s
      found = reason_at are s p

      below : {x : Variable V} → (d : IsDerived net t x r) → s.round < r.round
      below {x = x} d = elim found.is as (λ _. s.round < r.round) [
        | derived f ↦ (let l = comes_by found.variable (λ h. two.has_not found.place found.variable found.stands h) found.is_flow s f d.before it.value there in omega (arith, l, d.round))
        | reset f ↦ absurd (f.no_fact it.value (round_fact net t d.before found.variable.key it.value there))
      ]
        where
          it : IsNamedFact net (Round net t d.before) d.first.item s.flow
          it = d.rests_on.sound s.flow rests

          same : it.variable ≡ found.variable
          same =
              let e : s.flow ≡ found.place = omega (arith, found.number) in
              stands_one net.variables found.place it.variable found.variable
              (subst (λ z. Stands net.variables z it.variable) e it.stands) found.stands

          there : Round net t d.before found.variable.key it.value
          there = subst (λ (z : Variable V). Round net t d.before z.key it.value) same it.has

      by : {x : Variable V} → IsReason net t x r → s.round < r.round
      by (derived d) = below d
      by (reset d) = absurd (one_none s.flow (subst (λ z. IsOneOf z s.flow) d.rests_on rests))
