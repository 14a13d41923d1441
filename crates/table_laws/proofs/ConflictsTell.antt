-- What the operands of the three conflicts tell.
use Rattle.std.proofs.Common.{◌≡◌, ℕ, ◌⊎◌, inl, inr, Bool, true, false, if◌then◌else◌, List, [], ◌∷◌, ◌++◌, length, Contains, refl, sym, ap, ◌∙◌, subst, append_assoc}
use Rattle.ar_base.specs.Lists.{IsOneOf}
use Rattle.ar_base.proofs.Standing.{one_cases, one_first, one_rest, one_none, one_left, one_right, one_split}
use Rattle.domains.specs.Same.{is_same, has_value}
use Rattle.domains.specs.declared.Value.{Value}
use Rattle.domains.proofs.Same.{same_is, has_in, in_has}
use Rattle.eq_core.specs.Gates.{Operand, Gate}
use Rattle.eq_core.specs.Ordered.{AreBelow}
use Rattle.eq_core.specs.ValuesInside.{IsTrueWhere, EachTrue}
use Rattle.eq_build.specs.Entries.{Entry, one_of_alls}
use Rattle.eq_build.specs.Tells.{AreEntries}
use Rattle.eq_build.proofs.EntriesTell.{is_so}
use Rattle.eq_build.specs.Steps.{others_with, pairs_in, outside_terms, broken_terms}
use Rattle.table_laws.proofs.OperandsTell.{TellTogether, together_more, together_as, nothing_told, one_tells}

-- a list of an entry's operand and one of another value
record IsOther (cs : List Operand) (e : Entry) (fs : List Entry) (os : List Operand) : Type 0 where
  pub other : Entry
  pub is_one : IsOneOf fs other
  pub differ : e.value ≡ other.value → ⊥
  pub is : os ≡ cs ++ e.operand ∷ other.operand ∷ []

other_in : (cs : List Operand) (e : Entry) (fs : List Entry) (os : List Operand) → IsOneOf (others_with cs e fs) os
    → IsOther cs e fs os
other_in cs e [] os o = absurd (one_none os o)
other_in cs e (f ∷ fs) os o = go (is_same e.value f.value) refl o (λ p. other_in cs e fs os p)
  where
    later : IsOther cs e fs os → IsOther cs e (f ∷ fs) os
    later r = record { other = r.other; is_one = one_rest f fs r.other r.is_one; differ = r.differ; is = r.is }

    go : (c : Bool) → is_same e.value f.value ≡ c
        → IsOneOf (if c then others_with cs e fs else (cs ++ e.operand ∷ f.operand ∷ []) ∷ others_with cs e fs) os
        → (IsOneOf (others_with cs e fs) os → IsOther cs e fs os) → IsOther cs e (f ∷ fs) os
    go true i p r = later (r p)
    go false i p r = elim (one_cases (cs ++ e.operand ∷ f.operand ∷ []) (others_with cs e fs) os p) [
      | inl j ↦ record {
        other = f;
        is_one = one_first f fs;
        differ = λ q. (let k = is_so e.value f.value q in cc);
        is = sym j;
      }
      | inr q ↦ later (r q)
    ]

in_other : (cs : List Operand) (e f : Entry) (fs : List Entry) → IsOneOf fs f → (e.value ≡ f.value → ⊥)
    → IsOneOf (others_with cs e fs) (cs ++ e.operand ∷ f.operand ∷ [])
in_other cs e f [] o d = absurd (one_none f o)
in_other cs e f (x ∷ fs) o d = go (is_same e.value x.value) refl (one_cases x fs f o) (λ p. in_other cs e f fs p d)
  where
    joined_with : Entry → List Operand
    joined_with z = cs ++ e.operand ∷ z.operand ∷ []

    go : (c : Bool) → is_same e.value x.value ≡ c → (x ≡ f) ⊎ IsOneOf fs f
        → (IsOneOf fs f → IsOneOf (others_with cs e fs) (joined_with f))
        → IsOneOf (if c then others_with cs e fs else joined_with x ∷ others_with cs e fs) (joined_with f)
    go true i (inl j) r = absurd (d (same_is e.value x.value i ∙ ap (λ (z : Entry). z.value) j))
    go true i (inr p) r = r p
    go false i (inl j) r = subst (λ (z : Entry). IsOneOf (joined_with z ∷ others_with cs e fs) (joined_with f)) (sym j)
        (one_first (joined_with f) (others_with cs e fs))
    go false i (inr p) r = one_rest (joined_with x) (others_with cs e fs) (joined_with f) (r p)

-- P holds, a value with Q and a different one with R
pub record IsApart (P : Type 0) (Q R : Value → Type 0) : Type 0 where
  pub passes : P
  pub value : Value
  pub has : Q value
  pub other : Value
  pub is_other : R other
  pub differ : value ≡ other → ⊥

-- two different values with P
pub record HasBoth (P : Value → Type 0) : Type 0 where
  pub first : Value
  pub second : Value
  pub is_first : P first
  pub is_second : P second
  pub differ : first ≡ second → ⊥

-- P holds, and a value outside the domain has Q
pub record LeavesBy (P : Type 0) (Q : Value → Type 0) (domain : List Value) : Type 0 where
  pub passes : P
  pub value : Value
  pub has : Q value
  pub outside : Contains domain value → ⊥

module _ (set : List ℕ) (g : List Gate) where
  -- these operands, an entry's and another one's, are all true
  three : {cs : List Operand} {P : Type 0} {Q R : Value → Type 0} {es fs : List Entry} → TellTogether set g cs P
      → AreEntries set g es Q → AreEntries set g fs R → (e f : Entry) → IsOneOf es e → IsOneOf fs f
      → TellTogether set g (cs ++ e.operand ∷ f.operand ∷ []) (P × Q e.value × R f.value)
  three {cs = cs} {P = P} {Q = Q} {R = R} t a b e f m n =
      let u : TellTogether set g ((cs ++ e.operand ∷ []) ++ f.operand ∷ []) ((P × Q e.value) × R f.value) =
      together_more (together_more t (a.tells e m)) (b.tells f n) in
      let s : (cs ++ e.operand ∷ []) ++ f.operand ∷ [] ≡ cs ++ e.operand ∷ f.operand ∷ [] =
      append_assoc cs (e.operand ∷ []) (f.operand ∷ []) in
      let v : TellTogether set g ((cs ++ e.operand ∷ []) ++ f.operand ∷ []) (P × Q e.value × R f.value) =
      together_as (λ h. (h.0.0, h.0.1, h.1)) (λ h. ((h.0, h.1), h.2)) u in
      subst (λ z. TellTogether set g z (P × Q e.value × R f.value)) s v

  -- an entry, and another one of a different value
  record IsPairOf (cs : List Operand) (es fs : List Entry) (os : List Operand) : Type 0 where
    pub entry : Entry
    pub is_one : IsOneOf es entry
    pub other : IsOther cs entry fs os

  pair_of : (cs : List Operand) (es fs : List Entry) (os : List Operand) → IsOneOf (broken_terms cs es fs) os
      → IsPairOf cs es fs os
  pair_of cs [] fs os o = absurd (one_none os o)
  pair_of cs (e ∷ es) fs os o = elim (one_split (others_with cs e fs) (broken_terms cs es fs) os o) [
    | inl p ↦ record { entry = e; is_one = one_first e es; other = other_in cs e fs os p }
    | inr p ↦ let r = pair_of cs es fs os p in
        record { entry = r.entry; is_one = one_rest e es r.entry r.is_one; other = r.other }
  ]

  of_pair : (cs : List Operand) (e f : Entry) (es fs : List Entry) → IsOneOf es e → IsOneOf fs f
      → (e.value ≡ f.value → ⊥) → IsOneOf (broken_terms cs es fs) (cs ++ e.operand ∷ f.operand ∷ [])
  of_pair cs e f [] fs m n d = absurd (one_none e m)
  of_pair cs e f (x ∷ es) fs m n d = elim (one_cases x es e m) [
    | inl i ↦ one_left (others_with cs x fs) (broken_terms cs es fs) (cs ++ e.operand ∷ f.operand ∷ [])
        (subst (λ (z : Entry). IsOneOf (others_with cs z fs) (cs ++ e.operand ∷ f.operand ∷ [])) (sym i)
        (in_other cs e f fs n d))
    | inr p ↦ one_right (others_with cs x fs) (broken_terms cs es fs) (cs ++ e.operand ∷ f.operand ∷ [])
        (of_pair cs e f es fs p n d)
  ]

  -- an assignment that is reached, and its target has another value
  pub broken_tells : {cs : List Operand} {P : Type 0} {Q R : Value → Type 0} {es fs : List Entry}
      → TellTogether set g cs P → AreEntries set g es Q → AreEntries set g fs R
      → IsTrueWhere set (one_of_alls g (broken_terms cs es fs)).gates (one_of_alls g (broken_terms cs es fs)).operand
      (IsApart P Q R)
  broken_tells {cs = cs} {P = P} {Q = Q} {R = R} {es = es} {fs = fs} t a b = one_tells
      (record {
        each = λ os o.
            let r = pair_of cs es fs os o in
            let x = r.other in
            let u = three t a b r.entry x.other r.is_one x.is_one in
            subst (λ z. AreBelow (length g) z) (sym x.is) u.below;
      })
      (λ h.
      let r = pair_of cs es fs h.operands h.is_one in
      let x = r.other in
      let u = three t a b r.entry x.other r.is_one x.is_one in
      let q = u.true_so (subst (λ z. EachTrue set g z) x.is h.each) in
      record {
        passes = q.0;
        value = r.entry.value;
        has = q.1;
        other = x.other.value;
        is_other = q.2;
        differ = x.differ;
      })
      (λ h.
      let e = a.whole h.value h.has in
      let f = b.whole h.other h.is_other in
      let u = three t a b e.0 f.0 e.1 f.1 in
      record {
        operands = cs ++ e.0.operand ∷ f.0.operand ∷ [];
        is_one = of_pair cs e.0 f.0 es fs e.1 f.1 (λ i. h.differ (sym e.2 ∙ i ∙ f.2));
        each = u.so_true (h.passes, subst Q (sym e.2) h.has, subst R (sym f.2) h.is_other);
      })

  -- two entries of different values, in either order
  record IsPairIn (es : List Entry) (os : List Operand) : Type 0 where
    pub first : Entry
    pub second : Entry
    pub is_first : IsOneOf es first
    pub is_second : IsOneOf es second
    pub differ : first.value ≡ second.value → ⊥
    pub is : os ≡ first.operand ∷ second.operand ∷ []

  pair_in : (es : List Entry) (os : List Operand) → IsOneOf (pairs_in es) os → IsPairIn es os
  pair_in [] os o = absurd (one_none os o)
  pair_in (e ∷ es) os o = elim (one_split (others_with [] e es) (pairs_in es) os o) [
    | inl p ↦ let r = other_in [] e es os p in record {
      first = e;
      second = r.other;
      is_first = one_first e es;
      is_second = one_rest e es r.other r.is_one;
      differ = r.differ;
      is = r.is;
    }
    | inr p ↦ let r = pair_in es os p in record {
      first = r.first;
      second = r.second;
      is_first = one_rest e es r.first r.is_first;
      is_second = one_rest e es r.second r.is_second;
      differ = r.differ;
      is = r.is;
    }
  ]

  nothing : TellTogether set g [] (Unit {0})
  nothing = nothing_told tt

  abbrev two : Entry → Entry → List Operand
  two e f = e.operand ∷ f.operand ∷ []

  in_pairs : (es : List Entry) (e f : Entry) → IsOneOf es e → IsOneOf es f → (e.value ≡ f.value → ⊥)
      → IsOneOf (pairs_in es) (two e f) ⊎ IsOneOf (pairs_in es) (two f e)
  in_pairs [] e f m n d = absurd (one_none e m)
  in_pairs (x ∷ es) e f m n d = go (one_cases x es e m) (one_cases x es f n) (λ p q. in_pairs es e f p q d)
    where
      go : (x ≡ e) ⊎ IsOneOf es e → (x ≡ f) ⊎ IsOneOf es f
          → (IsOneOf es e → IsOneOf es f → IsOneOf (pairs_in es) (two e f) ⊎ IsOneOf (pairs_in es) (two f e))
          → IsOneOf (others_with [] x es ++ pairs_in es) (two e f)
          ⊎ IsOneOf (others_with [] x es ++ pairs_in es) (two f e)
      go (inl i) (inl j) r = absurd (d (ap (λ (z : Entry). z.value) (sym i ∙ j)))
      go (inl i) (inr q) r = inl (one_left (others_with [] x es) (pairs_in es) (two e f)
          (subst (λ (z : Entry). IsOneOf (others_with [] z es) (two e f)) (sym i) (in_other [] e f es q d)))
      go (inr p) (inl j) r = inr (one_left (others_with [] x es) (pairs_in es) (two f e)
          (subst (λ (z : Entry). IsOneOf (others_with [] z es) (two f e)) (sym j)
          (in_other [] f e es p (λ k. d (sym k)))))
      go (inr p) (inr q) r = elim (r p q) [
        | inl k ↦ inl (one_right (others_with [] x es) (pairs_in es) (two e f) k)
        | inr k ↦ inr (one_right (others_with [] x es) (pairs_in es) (two f e) k)
      ]

  -- a flow has two values
  pub two_tells : {P : Value → Type 0} {es : List Entry} → AreEntries set g es P
      → IsTrueWhere set (one_of_alls g (pairs_in es)).gates (one_of_alls g (pairs_in es)).operand (HasBoth P)
  two_tells {P = P} {es = es} a = one_tells
      (record {
        each = λ os o.
            let r = pair_in es os o in
            let u = three nothing a a r.first r.second r.is_first r.is_second in
            subst (λ z. AreBelow (length g) z) (sym r.is) u.below;
      })
      (λ h.
      let r = pair_in es h.operands h.is_one in
      let u = three nothing a a r.first r.second r.is_first r.is_second in
      let q = u.true_so (subst (λ z. EachTrue set g z) r.is h.each) in
      record {
        first = r.first.value;
        second = r.second.value;
        is_first = q.1;
        is_second = q.2;
        differ = r.differ;
      })
      (λ h.
      let e = a.whole h.first h.is_first in
      let f = a.whole h.second h.is_second in
      let p = subst P (sym e.2) h.is_first in
      let q = subst P (sym f.2) h.is_second in
      elim (in_pairs es e.0 f.0 e.1 f.1 (λ i. h.differ (sym e.2 ∙ i ∙ f.2))) [
        | inl k ↦ (let u = three nothing a a e.0 f.0 e.1 f.1 in
            record { operands = two e.0 f.0; is_one = k; each = u.so_true (tt, p, q) })
        | inr k ↦ (let u = three nothing a a f.0 e.0 f.1 e.1 in
            record { operands = two f.0 e.0; is_one = k; each = u.so_true (tt, q, p) })
      ])

  -- an entry whose value the domain has not
  record IsOutsideOf (ds : List Value) (cs : List Operand) (es : List Entry) (os : List Operand) : Type 0 where
    pub entry : Entry
    pub is_one : IsOneOf es entry
    pub outside : Contains ds entry.value → ⊥
    pub is : os ≡ cs ++ entry.operand ∷ []

  outside_of : (ds : List Value) (cs : List Operand) (es : List Entry) (os : List Operand)
      → IsOneOf (outside_terms ds cs es) os → IsOutsideOf ds cs es os
  outside_of ds cs [] os o = absurd (one_none os o)
  outside_of ds cs (e ∷ es) os o = go (has_value e.value ds) refl o (λ p. outside_of ds cs es os p)
    where
      later : IsOutsideOf ds cs es os → IsOutsideOf ds cs (e ∷ es) os
      later r =
          record { entry = r.entry; is_one = one_rest e es r.entry r.is_one; outside = r.outside; is = r.is }

      go : (b : Bool) → has_value e.value ds ≡ b
          → IsOneOf (if b then outside_terms ds cs es else (cs ++ e.operand ∷ []) ∷ outside_terms ds cs es) os
          → (IsOneOf (outside_terms ds cs es) os → IsOutsideOf ds cs es os) → IsOutsideOf ds cs (e ∷ es) os
      go true i p r = later (r p)
      go false i p r = elim (one_cases (cs ++ e.operand ∷ []) (outside_terms ds cs es) os p) [
        | inl j ↦ record {
          entry = e;
          is_one = one_first e es;
          outside = λ c. (let k = in_has e.value ds c in cc);
          is = sym j;
        }
        | inr q ↦ later (r q)
      ]

  of_outside : (ds : List Value) (cs : List Operand) (e : Entry) (es : List Entry) → IsOneOf es e
      → (Contains ds e.value → ⊥) → IsOneOf (outside_terms ds cs es) (cs ++ e.operand ∷ [])
  of_outside ds cs e [] m d = absurd (one_none e m)
  of_outside ds cs e (x ∷ es) m d =
      go (has_value x.value ds) refl (one_cases x es e m) (λ p. of_outside ds cs e es p d)
    where
      joined_with : Entry → List Operand
      joined_with z = cs ++ z.operand ∷ []

      go : (b : Bool) → has_value x.value ds ≡ b → (x ≡ e) ⊎ IsOneOf es e
          → (IsOneOf es e → IsOneOf (outside_terms ds cs es) (joined_with e))
          → IsOneOf (if b then outside_terms ds cs es else joined_with x ∷ outside_terms ds cs es) (joined_with e)
      go true i (inl j) r = absurd (d (subst (λ (z : Entry). Contains ds z.value) j (has_in x.value ds i)))
      go true i (inr p) r = r p
      go false i (inl j) r =
          subst (λ (z : Entry). IsOneOf (joined_with z ∷ outside_terms ds cs es) (joined_with e)) (sym j)
          (one_first (joined_with e) (outside_terms ds cs es))
      go false i (inr p) r = one_rest (joined_with x) (outside_terms ds cs es) (joined_with e) (r p)

  -- an assignment that is reached yields a value outside the domain
  pub outside_tells : {cs : List Operand} {P : Type 0} {Q : Value → Type 0} {es : List Entry} (ds : List Value)
      → TellTogether set g cs P → AreEntries set g es Q
      → IsTrueWhere set (one_of_alls g (outside_terms ds cs es)).gates (one_of_alls g (outside_terms ds cs es)).operand
      (LeavesBy P Q ds)
  outside_tells {cs = cs} {P = P} {Q = Q} {es = es} ds t a = one_tells
      (record {
        each = λ os o.
            let r = outside_of ds cs es os o in
            let u = together_more t (a.tells r.entry r.is_one) in
            subst (λ z. AreBelow (length g) z) (sym r.is) u.below;
      })
      (λ h.
      let r = outside_of ds cs es h.operands h.is_one in
      let u = together_more t (a.tells r.entry r.is_one) in
      let q = u.true_so (subst (λ z. EachTrue set g z) r.is h.each) in
      record { passes = q.0; value = r.entry.value; has = q.1; outside = r.outside })
      (λ h.
      let e = a.whole h.value h.has in
      let u = together_more t (a.tells e.0 e.1) in
      record {
        operands = cs ++ e.0.operand ∷ [];
        is_one = of_outside ds cs e.0 es e.1 (λ c. h.outside (subst (λ z. Contains ds z) e.2 c));
        each = u.so_true (h.passes, subst Q (sym e.2) h.has);
      })
