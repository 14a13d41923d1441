-- The groups of terms ascend by their values, and have each term in the group of its value.
use Rattle.std.proofs.Common.{◌≡◌, ◌⊎◌, inl, inr, Bool, true, false, if◌then◌else◌, List, [], ◌∷◌, ◌++◌, refl, sym, ap, ◌∙◌, subst}
use Rattle.ar_base.specs.Lists.{IsOneOf}
use Rattle.ar_base.proofs.Standing.{one_cases, one_first, one_rest, one_none, one_left, one_right, one_split}
use Rattle.domains.specs.Same.{is_same}
use Rattle.domains.specs.Values.{is_before}
use Rattle.domains.specs.declared.Value.{Value}
use Rattle.domains.proofs.Order.{is_before-trans, same-from_neither}
use Rattle.domains.proofs.Same.{same_is, same_self}
use Rattle.eq_core.specs.Gates.{Operand}
use Rattle.eq_build.specs.Entries.{Term, Group, with_term, with_terms}
use Rattle.eq_build.specs.EntriesInside.{Rises}

-- a group of the value has the term's operands
pub record InGroups (ps : List Group) (d : Value) (os : List Operand) : Type 0 where
  pub group : Group
  pub is_one : IsOneOf ps group
  pub value : group.value ≡ d
  pub has : IsOneOf group.terms os

-- one of the terms has the value and the operands
pub record InTerms (ts : List Term) (d : Value) (os : List Operand) : Type 0 where
  pub term : Term
  pub is_one : IsOneOf ts term
  pub value : term.value ≡ d
  pub operands : term.operands ≡ os

-- a group more in front
further : (p : Group) (ps : List Group) (d : Value) (os : List Operand) → InGroups ps d os → InGroups (p ∷ ps) d os
further p ps d os i = record { group = i.group; is_one = one_rest p ps i.group i.is_one; value = i.value; has = i.has }

-- in the first group or in one of the others
in_cases : (p : Group) (ps : List Group) (d : Value) (os : List Operand) → InGroups (p ∷ ps) d os
    → ((p.value ≡ d) × IsOneOf p.terms os) ⊎ InGroups ps d os
in_cases p ps d os i = elim (one_cases p ps i.group i.is_one) [
  | inl e ↦ inl (ap (λ (z : Group). z.value) e ∙ i.value, subst (λ (z : Group). IsOneOf z.terms os) (sym e) i.has)
  | inr m ↦ inr (record { group = i.group; is_one = m; value = i.value; has = i.has })
]

here : (p : Group) (ps : List Group) (d : Value) (os : List Operand) → p.value ≡ d → IsOneOf p.terms os
    → InGroups (p ∷ ps) d os
here p ps d os e m = record { group = p; is_one = one_first p ps; value = e; has = m }

-- the groups that with_term makes of a first group and the others
abbrev choice : Term → Group → List Group → Bool → Bool → List Group
choice t p ps b c =
    if b then record { value = p.value; terms = p.terms ++ t.operands ∷ [] } ∷ ps
    else (if c then p ∷ with_term t ps else record { value = t.value; terms = t.operands ∷ [] } ∷ p ∷ ps)

-- the term is there
pub term_there : (t : Term) (ps : List Group) → InGroups (with_term t ps) t.value t.operands
term_there t [] = here (record { value = t.value; terms = t.operands ∷ [] }) [] t.value t.operands refl
    (one_first t.operands [])
term_there t (p ∷ ps) = go (is_same p.value t.value) refl (is_before p.value t.value) (term_there t ps)
  where
    go : (b : Bool) → is_same p.value t.value ≡ b → (c : Bool) → InGroups (with_term t ps) t.value t.operands
        → InGroups (choice t p ps b c) t.value t.operands
    go true e c r = here (record { value = p.value; terms = p.terms ++ t.operands ∷ [] }) ps t.value t.operands
        (same_is p.value t.value e) (one_right p.terms (t.operands ∷ []) t.operands (one_first t.operands []))
    go false e true r = further p (with_term t ps) t.value t.operands r
    go false e false r = here (record { value = t.value; terms = t.operands ∷ [] }) (p ∷ ps) t.value t.operands refl
        (one_first t.operands [])

-- what was there is there
pub others_there : (t : Term) (ps : List Group) (d : Value) (os : List Operand) → InGroups ps d os
    → InGroups (with_term t ps) d os
others_there t [] d os i = absurd (one_none i.group i.is_one)
others_there t (p ∷ ps) d os i =
    go (is_same p.value t.value) (is_before p.value t.value) (in_cases p ps d os i) (λ j. others_there t ps d os j)
  where
    go : (b c : Bool) → ((p.value ≡ d) × IsOneOf p.terms os) ⊎ InGroups ps d os
        → (InGroups ps d os → InGroups (with_term t ps) d os) → InGroups (choice t p ps b c) d os
    go true c (inl h) r = here (record { value = p.value; terms = p.terms ++ t.operands ∷ [] }) ps d os h.0
        (one_left p.terms (t.operands ∷ []) os h.1)
    go true c (inr j) r = further (record { value = p.value; terms = p.terms ++ t.operands ∷ [] }) ps d os j
    go false true (inl h) r = here p (with_term t ps) d os h.0 h.1
    go false true (inr j) r = further p (with_term t ps) d os (r j)
    go false false h r = further (record { value = t.value; terms = t.operands ∷ [] }) (p ∷ ps) d os i

-- what is there is the term or was there
pub there_was : (t : Term) (ps : List Group) (d : Value) (os : List Operand) → InGroups (with_term t ps) d os
    → ((t.value ≡ d) × (t.operands ≡ os)) ⊎ InGroups ps d os
there_was t [] d os i = elim (in_cases (record { value = t.value; terms = t.operands ∷ [] }) [] d os i) [
  | inl h ↦ elim (one_cases t.operands [] os h.1) [ inl e ↦ inl (h.0, e) | inr m ↦ absurd (one_none os m) ]
  | inr j ↦ inr j
]
there_was t (p ∷ ps) d os i =
    go (is_same p.value t.value) refl (is_before p.value t.value) i (λ j. there_was t ps d os j)
  where
    Was : Type 0
    Was = ((t.value ≡ d) × (t.operands ≡ os)) ⊎ InGroups (p ∷ ps) d os

    go : (b : Bool) → is_same p.value t.value ≡ b → (c : Bool) → InGroups (choice t p ps b c) d os
        → (InGroups (with_term t ps) d os → ((t.value ≡ d) × (t.operands ≡ os)) ⊎ InGroups ps d os)
        → ((t.value ≡ d) × (t.operands ≡ os)) ⊎ InGroups (p ∷ ps) d os
    go true e c j r = elim (in_cases (record { value = p.value; terms = p.terms ++ t.operands ∷ [] }) ps d os j) [
      | inl h ↦ elim (one_split p.terms (t.operands ∷ []) os h.1) [
        | inl m ↦ inr (here p ps d os h.0 m)
        | inr m ↦ elim (one_cases t.operands [] os m) [
          | inl f ↦ inl (sym (same_is p.value t.value e) ∙ h.0, f)
          | inr n ↦ absurd (one_none os n)
        ]
      ]
      | inr k ↦ inr (further p ps d os k)
    ]
    go false e true j r = elim (in_cases p (with_term t ps) d os j) [
      | inl h ↦ inr (here p ps d os h.0 h.1)
      | inr k ↦ elim (r k) [ inl h ↦ inl h | inr l ↦ inr (further p ps d os l) ]
    ]
    go false e false j r = elim (in_cases (record { value = t.value; terms = t.operands ∷ [] }) (p ∷ ps) d os j) [
      | inl h ↦ elim (one_cases t.operands [] os h.1) [ inl f ↦ inl (h.0, f) | inr m ↦ absurd (one_none os m) ]
      | inr k ↦ inr k
    ]

-- the same for all terms
pub terms_keep : (ts : List Term) (ps : List Group) (d : Value) (os : List Operand) → InGroups ps d os
    → InGroups (with_terms ts ps) d os
terms_keep [] ps d os i = i
terms_keep (t ∷ ts) ps d os i = terms_keep ts (with_term t ps) d os (others_there t ps d os i)

pub terms_there : (ts : List Term) (ps : List Group) (t : Term) → IsOneOf ts t
    → InGroups (with_terms ts ps) t.value t.operands
terms_there [] ps t m = absurd (one_none t m)
terms_there (u ∷ ts) ps t m = elim (one_cases u ts t m) [
  | inl e ↦ subst (λ (z : Term). InGroups (with_terms (u ∷ ts) ps) z.value z.operands) e
      (terms_keep ts (with_term u ps) u.value u.operands (term_there u ps))
  | inr n ↦ terms_there ts (with_term u ps) t n
]

pub terms_were : (ts : List Term) (ps : List Group) (d : Value) (os : List Operand) → InGroups (with_terms ts ps) d os
    → InTerms ts d os ⊎ InGroups ps d os
terms_were [] ps d os i = inr i
terms_were (t ∷ ts) ps d os i = elim (terms_were ts (with_term t ps) d os i) [
  | inl h ↦ inl (record
      { term = h.term; is_one = one_rest t ts h.term h.is_one; value = h.value; operands = h.operands })
  | inr j ↦ elim (there_was t ps d os j) [
    | inl h ↦ inl (record { term = t; is_one = one_first t ts; value = h.0; operands = h.1 })
    | inr k ↦ inr k
  ]
]

-- a group has the term's value, or that of a group that was there
record HasOld (t : Term) (ps : List Group) (q : Group) : Type 0 where
  pub group : Group
  pub is_one : IsOneOf ps group
  pub value : group.value ≡ q.value

old_values : (t : Term) (ps : List Group) (q : Group) → IsOneOf (with_term t ps) q → (t.value ≡ q.value) ⊎ HasOld t ps q
old_values t [] q m = elim (one_cases (record { value = t.value; terms = t.operands ∷ [] }) [] q m) [
  | inl e ↦ inl (ap (λ (z : Group). z.value) e)
  | inr n ↦ absurd (one_none q n)
]
old_values t (p ∷ ps) q m = go (is_same p.value t.value) (is_before p.value t.value) m (λ n. old_values t ps q n)
  where
    later : HasOld t ps q → HasOld t (p ∷ ps) q
    later h = record { group = h.group; is_one = one_rest p ps h.group h.is_one; value = h.value }

    go : (b c : Bool) → IsOneOf (choice t p ps b c) q
        → (IsOneOf (with_term t ps) q → (t.value ≡ q.value) ⊎ HasOld t ps q)
        → (t.value ≡ q.value) ⊎ HasOld t (p ∷ ps) q
    go true c n r = elim (one_cases (record { value = p.value; terms = p.terms ++ t.operands ∷ [] }) ps q n) [
      | inl e ↦ inr (record { group = p; is_one = one_first p ps; value = ap (λ (z : Group). z.value) e })
      | inr k ↦ inr (record { group = q; is_one = one_rest p ps q k; value = refl })
    ]
    go false true n r = elim (one_cases p (with_term t ps) q n) [
      | inl e ↦ inr (record { group = p; is_one = one_first p ps; value = ap (λ (z : Group). z.value) e })
      | inr k ↦ elim (r k) [ inl e ↦ inl e | inr h ↦ inr (later h) ]
    ]
    go false false n r = elim (one_cases (record { value = t.value; terms = t.operands ∷ [] }) (p ∷ ps) q n) [
      | inl e ↦ inl (ap (λ (z : Group). z.value) e)
      | inr k ↦ inr (record { group = q; is_one = k; value = refl })
    ]

-- a value that neither is another nor comes after it comes before it
comes_first : (v w : Value) → is_same v w ≡ false → is_before v w ≡ false → is_before w v ≡ true
comes_first v w s b = go (is_before w v) refl
  where
    go : (c : Bool) → is_before w v ≡ c → c ≡ true
    go true e = refl
    go false e = let i = subst (λ z. is_same v z ≡ true) (same-from_neither v w b e) (same_self v) in cc

pub term_rises : (t : Term) (ps : List Group) → Rises ps → Rises (with_term t ps)
term_rises t [] r = ((λ q m. absurd (one_none q m)), tt)
term_rises t (p ∷ ps) r =
    go (is_same p.value t.value) refl (is_before p.value t.value) refl (term_rises t ps r.1)
  where
    go : (b : Bool) → is_same p.value t.value ≡ b → (c : Bool) → is_before p.value t.value ≡ c
        → Rises (with_term t ps) → Rises (choice t p ps b c)
    go true e c f s = (r.0, r.1)
    go false e true f s = (
      (λ q m. elim (old_values t ps q m) [
        | inl i ↦ subst (λ z. is_before p.value z ≡ true) i f
        | inr h ↦ subst (λ z. is_before p.value z ≡ true) h.value (r.0 h.group h.is_one)
      ]),
      s,
    )
    go false e false f s =
        let first = comes_first p.value t.value e f in (
          (λ q m. elim (one_cases p ps q m) [
            | inl i ↦ subst (λ (z : Group). is_before t.value z.value ≡ true) i first
            | inr n ↦ is_before-trans t.value p.value q.value first (r.0 q n)
          ]),
          (r.0, r.1),
        )

pub terms_rise : (ts : List Term) (ps : List Group) → Rises ps → Rises (with_terms ts ps)
terms_rise [] ps r = r
terms_rise (t ∷ ts) ps r = terms_rise ts (with_term t ps) (term_rises t ps r)
