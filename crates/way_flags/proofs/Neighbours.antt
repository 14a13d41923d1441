-- Effects in the order of their targets.
use Rattle.std.proofs.Common.{◌≡◌, ◌<◌, ◌≤◌, ◌+◌, ℕ, zero, suc, List, length, get_or, refl, sym, ap, ◌∙◌, subst, inl, inr, arith}
use Rattle.std.proofs.lemmas.Bool.{cases_lt}
use Rattle.std.specs.List.Sorted.{IsNonDecreasingBy, IsPermutation}
use Rattle.std.proofs.lemmas.List.Sorted.{Contains-permutation, IsPermutation-sym}
use Rattle.std.proofs.lemmas.Option.{get_or_from_slice_get}
use Rattle.ar_base.specs.Lists.{Stands}
use Rattle.ar_base.proofs.Standing.{stands_one, stands_within, stands_some, one_contains, contains_one, at_most}
use Rattle.domains.specs.declared.Value.{Value}
use Rattle.way_flags.specs.Effects.{EffectGives}
use Rattle.way_flags.specs.Receiving.{GiveSameValues, Clash, ReceivesOne, ReceivesTwo}
use Rattle.way_flags.specs.declared.effects.Effect.{Effect}

-- the targets ascend
abbrev pub AreOrdered : List Effect → Type 0
AreOrdered effects = IsNonDecreasingBy (λ (e : Effect). e.target.n) effects

-- what effects give they give in any order
pub gives_moved : (xs ys : List Effect) → IsPermutation xs ys → (n : ℕ) (v : Value) → EffectGives xs n v → EffectGives ys n v
gives_moved xs ys perm n v h =
    let o = one_contains ys h.effect (Contains-permutation xs ys h.effect perm
    (contains_one xs h.effect (record { place = h.place; stands = h.stands }))) in
    record { place = o.place; effect = h.effect; stands = o.stands; target = h.target; value = h.value }

pub gives_back : (xs ys : List Effect) → IsPermutation xs ys → (n : ℕ) (v : Value) → EffectGives ys n v → EffectGives xs n v
gives_back xs ys perm = gives_moved ys xs (IsPermutation-sym xs ys perm)

-- neighbours among the first so many that are on one variable give it the same value
abbrev pub AgreeBefore : List Effect → ℕ → Type 0
AgreeBefore effects i = (k : ℕ) (d e : Effect) → k + 1 < i → Stands effects k d → Stands effects (k + 1) e → GiveSameValues d e

-- the next neighbour agrees too
pub agree_next : (effects : List Effect) (i j : ℕ) (d e : Effect) → i ≡ j + 1 → Stands effects j d → Stands effects i e
    → GiveSameValues d e → AgreeBefore effects i → AgreeBefore effects (i + 1)
agree_next effects i j d e at s t agree before k x y l a b = elim (at_most (k + 1) i l) [
  | inl h ↦ before k x y h a b
  | inr h ↦ here (let q : k ≡ j = omega (arith, h, at) in q) h
]
  where
    here : k ≡ j → k + 1 ≡ i → GiveSameValues x y
    here q h =
        let first : d ≡ x = stands_one effects j d x s (subst (λ (z : ℕ). Stands effects z x) q a) in
        let second : e ≡ y = stands_one effects i e y t (subst (λ (z : ℕ). Stands effects z y) h b) in
        let P : Effect → Type 0 = λ z. GiveSameValues z y in
        let Q : Effect → Type 0 = λ z. GiveSameValues d z in
        subst P first (subst Q second agree)

module _ (effects : List Effect) (ordered : AreOrdered effects) where
  -- an earlier effect has no greater target
  pub target_order : (j k : ℕ) (d e : Effect) → j ≤ k → Stands effects j d → Stands effects k e
      → d.target.n ≤ e.target.n
  target_order j k d e l s t =
      let within = stands_within effects k e t in
      let h = ordered j k d l within in
      let a : get_or effects j d ≡ d = get_or_from_slice_get effects j d d s in
      let b : get_or effects k d ≡ e = get_or_from_slice_get effects k e d t in
      let i : (get_or effects j d).target.n ≡ d.target.n = ap (λ (z : Effect). z.target.n) a in
      let m : (get_or effects k d).target.n ≡ e.target.n = ap (λ (z : Effect). z.target.n) b in
      omega (arith, h, i, m)

  -- an effect on a lesser variable stands earlier
  pub stands_earlier : (j k : ℕ) (d e : Effect) → Stands effects j d → Stands effects k e → d.target.n < e.target.n
      → j < k
  stands_earlier j k d e s t l = elim (cases_lt j k) [
    | inl h ↦ h
    | inr h ↦ (let o = target_order k j e d h t s in absurd (omega (arith, o, l)))
  ]

  -- where neighbours agree any two effects do
  agree_far : (i m j : ℕ) (d e : Effect) → AgreeBefore effects i → j + m < i → Stands effects j d
      → Stands effects (j + m) e → GiveSameValues d e
  agree_far i zero j d e h l s t = λ same. ap (λ (z : Effect). z.value) (stands_one effects j d e s (subst (λ (z : ℕ). Stands effects z e) (let q : j + 0 ≡ j = omega arith in q) t))
  agree_far i (suc m) j d e h l s t = λ same.
      let at : j + suc m ≡ (j + m) + 1 = omega arith in
      let t1 : Stands effects ((j + m) + 1) e = subst (λ (z : ℕ). Stands effects z e) at t in
      let mid = stands_some effects (j + m) (let w = stands_within effects ((j + m) + 1) e t1 in omega (arith, w)) in
      let low = target_order j (j + m) d mid.0 (omega arith) s mid.1 in
      let high = target_order (j + m) ((j + m) + 1) mid.0 e (omega arith) mid.1 t1 in
      let first = agree_far i m j d mid.0 h (omega (arith, l)) s mid.1 (omega (arith, low, high, same)) in
      let second = h (j + m) mid.0 e (omega (arith, l)) mid.1 t1 (omega (arith, low, high, same)) in
      first ∙ second

  agree_any : (i j k : ℕ) (d e : Effect) → AgreeBefore effects i → j < i → k < i → Stands effects j d
      → Stands effects k e → GiveSameValues d e
  agree_any i j k d e h a b s t = λ same. elim (cases_lt j k) [
    | inl l ↦ (let m = apart j k (omega (arith, l)) in agree_far i m.0 j d e h (omega (arith, b, m.1)) s (subst (λ (z : ℕ). Stands effects z e) m.1 t) same)
    | inr l ↦ (let m = apart k j l in sym (agree_far i m.0 k e d h (omega (arith, a, m.1)) t (subst (λ (z : ℕ). Stands effects z d) m.1 s) (sym same)))
  ]
    where
      apart : (x y : ℕ) → x ≤ y → (m : ℕ) × (y ≡ x + m)
      apart zero y l = (y, omega arith)
      apart (suc x) zero l = absurd (omega (arith, l))
      apart (suc x) (suc y) l = let m = apart x y (omega (arith, l)) in (m.0, let e = m.1 in omega (arith, e))

  one_of_two : (i n : ℕ) (v w : Value) (g : EffectGives effects n v) (h : EffectGives effects n w) → AgreeBefore effects i
      → g.place < i → h.place < i → v ≡ w
  one_of_two i n v w g h agree a b =
      let same : g.effect.target.n ≡ h.effect.target.n = g.target ∙ sym h.target in
      sym g.value ∙ agree_any i g.place h.place g.effect h.effect agree a b g.stands h.stands same ∙ h.value

  -- where all neighbours agree no variable receives two values
  pub none_two : (i : ℕ) → length effects ≤ i → AgreeBefore effects i → (n : ℕ) → ReceivesOne effects n
  none_two i l agree n v w g h =
      let a = stands_within effects g.place g.effect g.stands in
      let b = stands_within effects h.place h.effect h.stands in
      one_of_two i n v w g h agree (omega (arith, a, l)) (omega (arith, b, l))

  -- where the neighbours before a clash agree no lesser variable does
  pub none_lesser : (i : ℕ) (e : Effect) → Stands effects i e → AgreeBefore effects i → (n : ℕ) → n < e.target.n
      → ReceivesOne effects n
  none_lesser i e s agree n l v w g h =
      let a = g.target in
      let b = h.target in
      one_of_two i n v w g h agree (stands_earlier g.place i g.effect e g.stands s (omega (arith, a, l)))
      (stands_earlier h.place i h.effect e h.stands s (omega (arith, b, l)))

-- two effects that clash
pub two_there : (effects : List Effect) (j k : ℕ) (d e : Effect) → Stands effects j d → Stands effects k e → Clash d e
    → ReceivesTwo effects e.target.n
two_there effects j k d e s t c = record {
  first = d.value;
  second = e.value;
  is_first = record { place = j; effect = d; stands = s; target = c.same; value = refl };
  is_second = record { place = k; effect = e; stands = t; target = refl; value = refl };
  differ = c.differ;
}
