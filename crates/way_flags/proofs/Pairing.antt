-- Which variables leave their domains, and what each receives.
use Rattle.std.proofs.Common.{◌≡◌, ◌<◌, ◌≤◌, ◌+◌, ◌-◌, ◌⊎◌, ℕ, Bool, true, false, nat_eq, List, [], ◌∷◌, ◌++◌, length, refl, sym, ap, ◌∙◌, subst, inl, inr, arith}
use Rattle.std.proofs.lemmas.Bool.{cases_lt}
use Rattle.std.proofs.lemmas.Bool.Decides.{nat_tests}
use Rattle.ar_base.specs.Lists.{Stands, IsOneOf}
use Rattle.ar_base.specs.Numbers.{VarId}
use Rattle.ar_base.proofs.Standing.{stands_one, stands_within, stands_some, stands_none, at_most, one_here}
use Rattle.domains.specs.Domains.{Holds}
use Rattle.domains.specs.declared.Value.{Value}
use Rattle.gts_core.specs.declared.system.Variable.{Variable}
use Rattle.gts_core.specs.declared.system.GtsParts.{GtsParts}
use Rattle.way_flags.proofs.Lists.{one_more, one_of_more, one_kept, one_last}
use Rattle.way_flags.specs.Effects.{EffectGives}
use Rattle.flow_propagate.specs.NewValues.{IsRenewed}
use Rattle.way_flags.specs.Receiving.{LeavesItsDomain, KeepsDomain, AreOneEach, IsLast, LastOrOther, AddsOne}
use Rattle.way_flags.specs.declared.effects.Effect.{Effect}
use Rattle.way_flags.proofs.Neighbours.{AreOrdered, target_order, stands_earlier}

-- Domains

-- the first so many effects keep the domains
abbrev pub KeepBefore : GtsParts → List Effect → ℕ → Type 0
KeepBefore p effects i = (k : ℕ) (e : Effect) (x : Variable) → k < i → Stands effects k e
    → Stands p.variables.items e.target.n x → Holds x.domain e.value

-- the next one keeps its domain too
pub keep_next : (p : GtsParts) (effects : List Effect) (i : ℕ) (e : Effect) (x : Variable) → Stands effects i e
    → Stands p.variables.items e.target.n x → Holds x.domain e.value → KeepBefore p effects i
    → KeepBefore p effects (i + 1)
keep_next p effects i e x s t holds before k d y l a b = elim (at_most k i l) [
  | inl h ↦ before k d y h a b
  | inr h ↦ here (stands_one effects i e d s (subst (λ (z : ℕ). Stands effects z d) h a))
]
  where
    here : e ≡ d → Holds y.domain d.value
    here same =
        let there : Stands p.variables.items e.target.n y =
        subst (λ (z : Effect). Stands p.variables.items z.target.n y) (sym same) b in
        let one : x ≡ y = stands_one p.variables.items e.target.n x y t there in
        let P : Variable → Type 0 = λ z. Holds z.domain e.value in
        let Q : Effect → Type 0 = λ z. Holds y.domain z.value in
        subst Q same (subst P one holds)

kept_at : (p : GtsParts) (effects : List Effect) (i n : ℕ) (x : Variable) (v : Value) (g : EffectGives effects n v)
    → KeepBefore p effects i → Stands p.variables.items n x → g.place < i → Holds x.domain v
kept_at p effects i n x v g before s l =
    let P : Value → Type 0 = λ z. Holds x.domain z in
    subst P g.value (before g.place g.effect x l g.stands
    (subst (λ (z : ℕ). Stands p.variables.items z x) (sym g.target) s))

pub keeps_all : (p : GtsParts) (effects : List Effect) (i : ℕ) → length effects ≤ i → KeepBefore p effects i → (n : ℕ)
    → KeepsDomain p effects n
keeps_all p effects i l before n x v s g = kept_at p effects i n x v g before s (let w = stands_within effects g.place g.effect g.stands in omega (arith, w, l))

pub keeps_lesser : (p : GtsParts) (effects : List Effect) → AreOrdered effects → (i : ℕ) (e : Effect)
    → Stands effects i e → KeepBefore p effects i → (n : ℕ) → n < e.target.n → KeepsDomain p effects n
keeps_lesser p effects ordered i e t before n l x v s g = kept_at p effects i n x v g before s (let a = g.target in stands_earlier effects ordered g.place i g.effect e g.stands t (omega (arith, a, l)))

pub leaves_there : (p : GtsParts) (effects : List Effect) (i : ℕ) (e : Effect) (x : Variable) → Stands effects i e
    → Stands p.variables.items e.target.n x → (Holds x.domain e.value → ⊥) → LeavesItsDomain p effects e.target.n
leaves_there p effects i e x s t out =
    record {
      variable = x;
      stands = t;
      value = e.value;
      gives = record { place = i; effect = e; stands = s; target = refl; value = refl };
      outside = out;
    }

-- Whether the last pair is of a variable

pub last_or_other : (new : List (VarId × Value)) (r : VarId × Value) (n : ℕ) → Stands new (length new - 1) r
    → LastOrOther (nat_eq r.0.n n) new n
last_or_other new r n st = go (nat_eq r.0.n n) refl
  where
    within : length new - 1 < length new
    within = stands_within new (length new - 1) r st

    go : (b : Bool) → nat_eq r.0.n n ≡ b → LastOrOther b new n
    go true e = record {
      pair = r;
      place = length new - 1;
      stands = st;
      last = omega (arith, within);
      number = grind (arith, nat_tests);
    }
    go false e = λ h. other h (stands_one new h.place h.pair r h.stands (subst (λ (z : ℕ). Stands new z r) (let l = h.last in let q : length new - 1 ≡ h.place = omega (arith, l) in q) st))
      where
        other : (h : IsLast new n) → h.pair ≡ r → ⊥
        other h same =
            let number : r.0.n ≡ n = ap (λ (z : VarId × Value). z.0.n) (sym same) ∙ h.number in
            grind (arith, nat_tests)

-- One pair for each variable

-- one of the first so many effects gives the variable this value
pub record GivesBefore (effects : List Effect) (i n : ℕ) (v : Value) : Type 0 where
  pub gives : EffectGives effects n v
  pub before : gives.place < i

-- the pairs for the first so many effects
pub record AreEach (effects : List Effect) (i : ℕ) (new : List (VarId × Value)) : Type 0 where
  pub ascend : (j k : ℕ) (r q : VarId × Value) → j < k → Stands new j r → Stands new k q → r.0.n < q.0.n
  pub given : (r : VarId × Value) → IsOneOf new r → GivesBefore effects i r.0.n r.1
  pub all : (k : ℕ) (e : Effect) → k < i → Stands effects k e → IsRenewed new e.target.n

pub each_none : (effects : List Effect) → AreEach effects 0 []
each_none effects = record {
  ascend = λ j k r q l s t. absurd (stands_none j r s);
  given = λ r o. absurd (stands_none o.place r o.stands);
  all = λ k e l s. absurd (omega (arith, l));
}

module _ (effects : List Effect) (ordered : AreOrdered effects) (i : ℕ) (e : Effect) (at : Stands effects i e)
    (old : List (VarId × Value)) (are : AreEach effects i old) where
  later : (n : ℕ) (v : Value) → GivesBefore effects i n v → GivesBefore effects (i + 1) n v
  later n v g = record { gives = g.gives; before = (let b = g.before in omega (arith, b)) }

  same_target : (k : ℕ) (d : Effect) → Stands effects k d → k ≡ i → d.target.n ≡ e.target.n
  same_target k d s h = ap (λ (z : Effect). z.target.n)
      (stands_one effects i d e (subst (λ (z : ℕ). Stands effects z d) h s) at)

  -- another effect on the last variable
  each_again : IsLast old e.target.n → AreEach effects (i + 1) old
  each_again last = record {
    ascend = are.ascend;
    given = λ r o. later r.0.n r.1 (are.given r o);
    all = λ k d l s. elim (at_most k i l) [
      | inl h ↦ are.all k d h s
      | inr h ↦ record {
        pair = last.pair;
        is_one = one_here old last.place last.pair last.stands;
        is = last.number
            ∙ sym (same_target k d s h);
      }
    ];
  }

  -- all pairs so far are of lesser variables, where the last one is of another
  lesser : (IsLast old e.target.n → ⊥) → (k : ℕ) (r : VarId × Value) → Stands old k r → r.0.n < e.target.n
  lesser other k r s =
      let w = stands_within old k r s in
      let m = before_last (length old) w in
      let last = stands_some old m.0 (let h = m.1 in omega (arith, h)) in
      let g = are.given last.0 (one_here old m.0 last.0 last.1) in
      let gives = g.gives in
      let high = target_order effects ordered gives.place i gives.effect e (let b = g.before in omega (arith, b)) gives.stands at in
      let number = gives.target in
      let differs : last.0.0.n ≡ e.target.n
      → ⊥ = λ q. other (record { pair = last.0; place = m.0; stands = last.1; last = m.1; number = q }) in
      go m.0 last.0 m.1 last.1 (omega (arith, high, number)) differs (at_most k m.0 (let h = m.1 in omega (arith, w, h)))
    where
      before_last : (n : ℕ) → k < n → (m : ℕ) × (m + 1 ≡ n)
      before_last n w = (n - 1, omega (arith, w))

      below : (a b : ℕ) → a ≤ b → (a ≡ b → ⊥) → a < b
      below a b l q = elim (cases_lt a b) [ inl h ↦ h | inr h ↦ absurd (q (omega (arith, l, h))) ]

      go : (m : ℕ) (q : VarId × Value) → m + 1 ≡ length old → Stands old m q → q.0.n ≤ e.target.n
          → (q.0.n ≡ e.target.n → ⊥) → (k < m) ⊎ (k ≡ m) → r.0.n < e.target.n
      go m q end t l differs (inl h) = let a = are.ascend k m r q h s t in omega (arith, a, l)
      go m q end t l differs (inr h) =
          let same : r ≡ q = stands_one old m r q (subst (λ (z : ℕ). Stands old z r) h s) t in
          let number : r.0.n ≡ q.0.n = ap (λ (z : VarId × Value). z.0.n) same in
          let b = below q.0.n e.target.n l differs in
          omega (arith, number, b)

  -- the first effect on the next variable
  each_new : (IsLast old e.target.n → ⊥) → AreEach effects (i + 1) (old ++ (e.target, e.value) ∷ [])
  each_new other = record {
    ascend = λ j k r q l s t. rise j k r q l (one_more old pair j r s) (one_more old pair k q t);
    given = λ r o. elim (one_of_more old pair r o) [
      | inl k ↦ later r.0.n r.1 (are.given r k)
      | inr h ↦ subst (λ (z : VarId × Value). GivesBefore effects (i + 1) z.0.n z.1) (sym h) here
    ];
    all = λ k d l s. elim (at_most k i l) [
      | inl h ↦ (let p = are.all k d h s in record { pair = p.pair; is_one = one_kept old pair p.pair p.is_one; is = p.is })
      | inr h ↦ record { pair = pair; is_one = one_last old pair; is = sym (same_target k d s h) }
    ];
  }
    where
      pair : VarId × Value
      pair = (e.target, e.value)

      here : GivesBefore effects (i + 1) e.target.n e.value
      here = record {
        gives = record { place = i; effect = e; stands = at; target = refl; value = refl };
        before = omega arith;
      }

      rise : (j k : ℕ) (r q : VarId × Value) → j < k → Stands old j r ⊎ ((j ≡ length old) × (r ≡ pair))
          → Stands old k q ⊎ ((k ≡ length old) × (q ≡ pair)) → r.0.n < q.0.n
      rise j k r q l (inl s) (inl t) = are.ascend j k r q l s t
      rise j k r q l (inl s) (inr t) = let number : q.0.n ≡ e.target.n = ap (λ (z : VarId × Value). z.0.n) t.1 in let h = lesser other j r s in omega (arith, number, h)
      rise j k r q l (inr s) (inl t) = let w = stands_within old k q t in let h = s.0 in absurd (omega (arith, l, w, h))
      rise j k r q l (inr s) (inr t) = let h = s.0 in let m = t.0 in absurd (omega (arith, l, h, m))

  pub each_next : (new : List (VarId × Value)) → AddsOne e old new → AreEach effects (i + 1) new
  each_next new (inl a) = subst (λ (z : List (VarId × Value)). AreEach effects (i + 1) z) (sym a.1) (each_again a.0)
  each_next new (inr a) = subst (λ (z : List (VarId × Value)). AreEach effects (i + 1) z) (sym a.1) (each_new a.0)

pub each_all : (effects : List Effect) (i : ℕ) (new : List (VarId × Value)) → length effects ≤ i → AreEach effects i new
    → AreOneEach effects new
each_all effects i new l are = record {
  ascend = are.ascend;
  given = λ r o. (are.given r o).gives;
  all = λ n v g. let p = are.all g.place g.effect (let w = stands_within effects g.place g.effect g.stands in omega (arith, w, l)) g.stands in record { pair = p.pair; is_one = p.is_one; is = p.is ∙ g.target };
}
