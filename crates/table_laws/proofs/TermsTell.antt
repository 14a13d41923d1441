-- What is built from the terms of entries: as they are, of several lists together, and inside a domain.
use Rattle.std.proofs.Common.{◌≡◌, ℕ, ◌⊎◌, inl, inr, Bool, true, false, if◌then◌else◌, List, [], ◌∷◌, ◌++◌, length, Contains, refl, sym, ap, subst}
use Rattle.ar_base.specs.Lists.{IsOneOf, Along}
use Rattle.ar_base.proofs.Standing.{stands_map, stands_map_back, one_cases, one_first, one_rest, one_none, one_left, one_right, one_split, along_back, along_on}
use Rattle.domains.specs.Same.{has_value}
use Rattle.domains.specs.declared.Value.{Value}
use Rattle.domains.proofs.Same.{has_in, in_has}
use Rattle.eq_core.specs.Gates.{Operand, Gate}
use Rattle.eq_core.specs.Ordered.{AreBelow}
use Rattle.eq_core.specs.ValuesInside.{IsTrueWhere, EachTrue}
use Rattle.eq_build.specs.Entries.{Entry, Term, entries_for}
use Rattle.eq_build.specs.Tells.{AreEntries, IsBuilt}
use Rattle.eq_build.proofs.EntriesTell.{SomeTerm, terms_tell}
use Rattle.eq_build.specs.Steps.{as_terms, given_terms, together}
use Rattle.table_laws.proofs.OperandsTell.{TellTogether, together_more, together_before, together_as, nothing_told}

-- an entry as a term of its own
abbrev pub own_term : Entry → Term
own_term e = record { value = e.value; operands = e.operand ∷ [] }

-- a term is that of an entry
pub record IsOwn (es : List Entry) (t : Term) : Type 0 where
  pub entry : Entry
  pub is_one : IsOneOf es entry
  pub is : own_term entry ≡ t

pub own_of : (es : List Entry) (t : Term) → IsOneOf (as_terms es) t → IsOwn es t
own_of es t o =
    let r = stands_map_back own_term es o.place t o.stands in
    record { entry = r.0; is_one = record { place = o.place; stands = r.1 }; is = r.2 }

pub of_own : (es : List Entry) (e : Entry) → IsOneOf es e → IsOneOf (as_terms es) (own_term e)
of_own es e o = record { place = o.place; stands = stands_map own_term es o.place e o.stands }

-- a term is that of an entry of one of the lists
record IsOfOne (ess : List (List Entry)) (t : Term) : Type 0 where
  pub entries : List Entry
  pub is_one : IsOneOf ess entries
  pub own : IsOwn entries t

of_one : (ess : List (List Entry)) (t : Term) → IsOneOf (together ess) t → IsOfOne ess t
of_one [] t o = absurd (one_none t o)
of_one (es ∷ ess) t o = elim (one_split (as_terms es) (together ess) t o) [
  | inl p ↦ record { entries = es; is_one = one_first es ess; own = own_of es t p }
  | inr p ↦ let r = of_one ess t p in
      record { entries = r.entries; is_one = one_rest es ess r.entries r.is_one; own = r.own }
]

in_one : (ess : List (List Entry)) (es : List Entry) (e : Entry) → IsOneOf ess es → IsOneOf es e
    → IsOneOf (together ess) (own_term e)
in_one [] es e m o = absurd (one_none es m)
in_one (fs ∷ ess) es e m o = elim (one_cases fs ess es m) [
  | inl i ↦ one_left (as_terms fs) (together ess) (own_term e)
      (of_own fs e (subst (λ z. IsOneOf z e) (sym i) o))
  | inr p ↦ one_right (as_terms fs) (together ess) (own_term e) (in_one ess es e p o)
]

-- P holds of one of the items and the value
pub record SomeHas {A : Type 0} (P : A → Value → Type 0) (xs : List A) (d : Value) : Type 0 where
  pub item : A
  pub is_one : IsOneOf xs item
  pub has : P item d

-- the value has P and Q, and the domain has it
pub record IsInside (P : Type 0) (Q : Value → Type 0) (ds : List Value) (d : Value) : Type 0 where
  pub passes : P
  pub has : Q d
  pub inside : Contains ds d

module _ (set : List ℕ) (g : List Gate) where
  pub single_tells : {o : Operand} {P : Type 0} → IsTrueWhere set g o P → TellTogether set g (o ∷ []) P
  single_tells {o = o} {P = P} t =
      let u : TellTogether set g (o ∷ []) (P × Unit {0}) = together_before t (nothing_told tt) in
      together_as (λ p. p.0) (λ p. (p, tt)) u

  -- where the operands of an entry are true, its value has P; and the other way round
  pub own_tells : (P : Value → Type 0) {e : Entry} → IsTrueWhere set g e.operand (P e.value) → (t : Term) → own_term e
      ≡ t → TellTogether set g t.operands (P t.value)
  own_tells P t u i = subst (λ (z : Term). TellTogether set g z.operands (P z.value)) i (single_tells t)

  module _ {A : Type 0} (P : A → Value → Type 0) where
    -- the entries of each item tell of what P says of it
    abbrev pub EntriesTell : List A → List (List Entry) → Type 0
    EntriesTell = Along (λ a es. AreEntries set g es (P a))

    pub together_built : {xs : List A} {ess : List (List Entry)} → EntriesTell xs ess
        → IsBuilt set g (entries_for g (together ess)) (SomeHas P xs)
    together_built {xs = xs} {ess = ess} a =
        terms_tell set g (together ess) (SomeHas P xs) (λ t o. below t (of_one ess t o))
        (λ t o h. holds t (of_one ess t o) h) some
      where
        at : (t : Term) → (r : IsOfOne ess t) → (x : A) × IsOneOf xs x × TellTogether set g t.operands (P x t.value)
        at t r =
            let m = r.is_one in
            let i = along_back xs ess a m.place r.entries m.stands in
            let o = r.own in
            let b = i.2 in
            (i.0, record { place = m.place; stands = i.1 }, own_tells (P i.0) (b.tells o.entry o.is_one) t o.is)

        below : (t : Term) → IsOfOne ess t → AreBelow (length g) t.operands
        below t r = let x = at t r in let u = x.2 in u.below

        holds : (t : Term) → IsOfOne ess t → EachTrue set g t.operands → SomeHas P xs t.value
        holds t r h = let x = at t r in let u = x.2 in record { item = x.0; is_one = x.1; has = u.true_so h }

        some : (d : Value) → SomeHas P xs d → SomeTerm set g (together ess) d
        some d h =
            let m = h.is_one in
            let i = along_on xs ess a m.place h.item m.stands in
            let b = i.2 in
            let e = b.whole d h.has in
            let u = own_tells (P h.item) (b.tells e.0 e.1) (own_term e.0) refl in
            record {
              term = own_term e.0;
              is_one = in_one ess i.0 e.0 (record { place = m.place; stands = i.1 }) e.1;
              value = e.2;
              each = u.so_true (subst (P h.item) (sym e.2) h.has);
            }

  -- a term of an entry whose value the domain has
  record IsGivenBy (ds : List Value) (cs : List Operand) (es : List Entry) (t : Term) : Type 0 where
    pub entry : Entry
    pub is_one : IsOneOf es entry
    pub inside : Contains ds entry.value
    pub value : t.value ≡ entry.value
    pub operands : t.operands ≡ cs ++ entry.operand ∷ []

  given_by : (ds : List Value) (cs : List Operand) (es : List Entry) (t : Term) → IsOneOf (given_terms ds cs es) t
      → IsGivenBy ds cs es t
  given_by ds cs [] t o = absurd (one_none t o)
  given_by ds cs (e ∷ es) t o = go (has_value e.value ds) refl o (λ p. given_by ds cs es t p)
    where
      later : IsGivenBy ds cs es t → IsGivenBy ds cs (e ∷ es) t
      later r = record {
        entry = r.entry;
        is_one = one_rest e es r.entry r.is_one;
        inside = r.inside;
        value = r.value;
        operands = r.operands;
      }

      go : (b : Bool) → has_value e.value ds ≡ b
          → IsOneOf (if b then record { value = e.value; operands = cs ++ e.operand ∷ [] } ∷ given_terms ds cs es
          else given_terms ds cs es) t
          → (IsOneOf (given_terms ds cs es) t → IsGivenBy ds cs es t) → IsGivenBy ds cs (e ∷ es) t
      go true i p r = elim (one_cases (record { value = e.value; operands = cs ++ e.operand ∷ [] })
          (given_terms ds cs es) t p) [
            | inl j ↦ record {
              entry = e;
              is_one = one_first e es;
              inside = has_in e.value ds i;
              value = ap (λ (z : Term). z.value) (sym j);
              operands = ap (λ (z : Term). z.operands) (sym j);
            }
            | inr q ↦ later (r q)
          ]
      go false i p r = later (r p)

  in_given : (ds : List Value) (cs : List Operand) (es : List Entry) (e : Entry) → IsOneOf es e → Contains ds e.value
      → IsOneOf (given_terms ds cs es) (record { value = e.value; operands = cs ++ e.operand ∷ [] })
  in_given ds cs [] e o c = absurd (one_none e o)
  in_given ds cs (f ∷ es) e o c =
      go (has_value f.value ds) refl (one_cases f es e o) (λ p. in_given ds cs es e p c)
    where
      term : Entry → Term
      term x = record { value = x.value; operands = cs ++ x.operand ∷ [] }

      go : (b : Bool) → has_value f.value ds ≡ b → (f ≡ e) ⊎ IsOneOf es e
          → (IsOneOf es e → IsOneOf (given_terms ds cs es) (term e))
          → IsOneOf (if b then term f ∷ given_terms ds cs es else given_terms ds cs es) (term e)
      go true i (inl j) r =
          subst (λ z. IsOneOf (term f ∷ given_terms ds cs es) (term z)) j (one_first (term f) (given_terms ds cs es))
      go true i (inr p) r = one_rest (term f) (given_terms ds cs es) (term e) (r p)
      go false i (inl j) r =
          absurd (let k = in_has f.value ds (subst (λ (z : Entry). Contains ds z.value) (sym j) c) in cc)
      go false i (inr p) r = r p

  pub given_built : (ds : List Value) {cs : List Operand} {P : Type 0} {Q : Value → Type 0} {es : List Entry}
      → TellTogether set g cs P → AreEntries set g es Q
      → IsBuilt set g (entries_for g (given_terms ds cs es)) (IsInside P Q ds)
  given_built ds {cs = cs} {P = P} {Q = Q} {es = es} t a =
      terms_tell set g (given_terms ds cs es) (IsInside P Q ds) (λ u o. below u (given_by ds cs es u o))
      (λ u o h. holds u (given_by ds cs es u o) h) some
    where
      both : (e : Entry) → IsOneOf es e → TellTogether set g (cs ++ e.operand ∷ []) (P × Q e.value)
      both e o = together_more t (a.tells e o)

      below : (u : Term) → IsGivenBy ds cs es u → AreBelow (length g) u.operands
      below u r =
          let b = both r.entry r.is_one in subst (λ z. AreBelow (length g) z) (sym r.operands) b.below

      holds : (u : Term) → IsGivenBy ds cs es u → EachTrue set g u.operands → IsInside P Q ds u.value
      holds u r h =
          let b = both r.entry r.is_one in
          let p = b.true_so (subst (λ z. EachTrue set g z) r.operands h) in
          subst (λ z. IsInside P Q ds z) (sym r.value) (record { passes = p.0; has = p.1; inside = r.inside })

      some : (d : Value) → IsInside P Q ds d → SomeTerm set g (given_terms ds cs es) d
      some d h =
          let e = a.whole d h.has in
          let b = both e.0 e.1 in
          record {
            term = record { value = e.0.value; operands = cs ++ e.0.operand ∷ [] };
            is_one = in_given ds cs es e.0 e.1 (subst (λ z. Contains ds z) (sym e.2) h.inside);
            value = e.2;
            each = b.so_true (h.passes, subst Q (sym e.2) h.has);
          }
