-- Entries of different values in the order of their values: the same entries, apart from those that are true nowhere.
use Rattle.std.proofs.Common.{◌≡◌, ℕ, ◌⊎◌, inl, inr, Bool, true, false, if◌then◌else◌, List, [], ◌∷◌, ◌++◌, refl, sym, ap, ap₂, ◌∙◌, subst}
use Rattle.ar_base.specs.Lists.{IsOneOf}
use Rattle.ar_base.proofs.Standing.{one_cases, one_first, one_rest, one_none}
use Rattle.domains.specs.Same.{is_same}
use Rattle.domains.specs.Values.{is_before}
use Rattle.domains.specs.declared.Value.{Value}
use Rattle.domains.proofs.Same.{same_is}
use Rattle.eq_core.specs.Gates.{Operand, Always, Never, EventIs, GateIs, Gate, Made}
use Rattle.eq_core.specs.ValuesInside.{IsTrueWhere}
use Rattle.eq_build.specs.Entries.{Entry, Term, Group, with_term, with_terms, one_of_alls, is_never, with_entry, entries_of}
use Rattle.eq_build.specs.Tells.{AreEntries}
use Rattle.eq_build.proofs.EntriesTell.{entry_cases, true_kept, entry_first, entry_rest}
use Rattle.eq_build.specs.Steps.{as_terms, in_order}
use Rattle.table_laws.proofs.TermsTell.{own_term, own_of, of_own}

-- no two of the entries have one value
abbrev pub Differ : List Entry → Type 0
Differ [] = Unit {0}
Differ (e ∷ es) = ((f : Entry) → IsOneOf es f → e.value ≡ f.value → ⊥) × Differ es

pub differ_more : (d : Value) (o : Operand) (es : List Entry) → Differ es
    → ((f : Entry) → IsOneOf es f → d ≡ f.value → ⊥) → Differ (with_entry d o es)
differ_more d o es a n = go (is_never o)
  where
    go : (b : Bool) → Differ (if b then es else record { value = d; operand = o } ∷ es)
    go true = a
    go false = (n, a)

same_entry : (e f : Entry) → e.value ≡ f.value → e.operand ≡ f.operand → e ≡ f
same_entry e f i j =
    let make : Value → Operand → Entry = λ v o. record { value = v; operand = o } in ap₂ make i j

same_group : (p q : Group) → p.value ≡ q.value → p.terms ≡ q.terms → p ≡ q
same_group p q i j =
    let make : Value → List (List Operand) → Group = λ v os. record { value = v; terms = os } in ap₂ make i j

one_operand : (o p : Operand) → (o ∷ []) ∷ [] ≡ (p ∷ []) ∷ [] → o ≡ p
one_operand o p i = cc

-- the group of a term alone
abbrev group_of : Term → Group
group_of t = record { value = t.value; terms = t.operands ∷ [] }

-- groups with those of these terms
record HaveMore (ts : List Term) (ps qs : List Group) : Type 0 where
  pub new : (t : Term) → IsOneOf ts t → IsOneOf qs (group_of t)
  pub kept : (p : Group) → IsOneOf ps p → IsOneOf qs p
  pub only : (q : Group) → IsOneOf qs q → ((t : Term) × IsOneOf ts t × (group_of t ≡ q)) ⊎ IsOneOf ps q

-- a term whose value no group has makes a group of its own
one_grouped : (t : Term) (ps : List Group) → ((p : Group) → IsOneOf ps p → p.value ≡ t.value → ⊥)
    → HaveMore (t ∷ []) ps (with_term t ps)
one_grouped t [] n = record {
  new = λ u o. elim (one_cases t [] u o) [
    | inl i ↦ subst (λ z. IsOneOf (group_of t ∷ []) (group_of z)) i (one_first (group_of t) [])
    | inr k ↦ absurd (one_none u k)
  ];
  kept = λ p o. absurd (one_none p o);
  only = λ q o. elim (one_cases (group_of t) [] q o) [
    | inl i ↦ inl (t, one_first t [], i)
    | inr k ↦ absurd (one_none q k)
  ];
}
one_grouped t (p ∷ ps) n = go (is_same p.value t.value) refl (is_before p.value t.value)
    (one_grouped t ps (λ q o. n q (one_rest p ps q o)))
  where
    go : (b : Bool) → is_same p.value t.value ≡ b → (c : Bool) → HaveMore (t ∷ []) ps (with_term t ps)
        → HaveMore (t ∷ []) (p ∷ ps) (if b then record { value = p.value; terms = p.terms ++ t.operands ∷ [] } ∷ ps
        else (if c then p ∷ with_term t ps else group_of t ∷ p ∷ ps))
    go true i c r = absurd (n p (one_first p ps) (same_is p.value t.value i))
    go false i true r = record {
      new = λ u o. one_rest p (with_term t ps) (group_of u) (r.new u o);
      kept = λ q o. elim (one_cases p ps q o) [
        | inl j ↦ subst (λ z. IsOneOf (p ∷ with_term t ps) z) j (one_first p (with_term t ps))
        | inr k ↦ one_rest p (with_term t ps) q (r.kept q k)
      ];
      only = λ q o. elim (one_cases p (with_term t ps) q o) [
        | inl j ↦ inr (subst (λ z. IsOneOf (p ∷ ps) z) j (one_first p ps))
        | inr k ↦ elim (r.only q k) [ inl x ↦ inl x | inr m ↦ inr (one_rest p ps q m) ]
      ];
    }
    go false i false r = record {
      new = λ u o. elim (one_cases t [] u o) [
        | inl j ↦ subst (λ z. IsOneOf (group_of t ∷ p ∷ ps) (group_of z)) j (one_first (group_of t) (p ∷ ps))
        | inr k ↦ absurd (one_none u k)
      ];
      kept = λ q o. one_rest (group_of t) (p ∷ ps) q o;
      only = λ q o. elim (one_cases (group_of t) (p ∷ ps) q o) [ inl j ↦ inl (t, one_first t [], j) | inr k ↦ inr k ];
    }

-- terms of which no two, and none and a group, have one value make a group each
all_grouped : (es : List Entry) (ps : List Group) → Differ es
    → ((e : Entry) → IsOneOf es e → (p : Group) → IsOneOf ps p → p.value ≡ e.value → ⊥)
    → HaveMore (as_terms es) ps (with_terms (as_terms es) ps)
all_grouped [] ps d n = record { new = λ t o. absurd (one_none t o); kept = λ p o. o; only = λ q o. inr o }
all_grouped (e ∷ es) ps d n =
    let t = own_term e in
    let r = one_grouped t ps (n e (one_first e es)) in
    let s = all_grouped es (with_term t ps) d.1 (λ f o p m i. apart r f o p m i) in
    record {
      new = λ u o. elim (one_cases t (as_terms es) u o) [
        | inl i ↦ s.kept (group_of u) (r.new u (subst (λ z. IsOneOf (t ∷ []) z) i (one_first t [])))
        | inr k ↦ s.new u k
      ];
      kept = λ p o. s.kept p (r.kept p o);
      only = λ q o. elim (s.only q o) [
        | inl x ↦ inl (x.0, one_rest t (as_terms es) x.0 x.1, x.2)
        | inr k ↦ elim (r.only q k) [
          | inl x ↦ elim (one_cases t [] x.0 x.1) [
            | inl i ↦ inl (t, one_first t (as_terms es), ap group_of i ∙ x.2)
            | inr z ↦ absurd (one_none x.0 z)
          ]
          | inr m ↦ inr m
        ]
      ];
    }
  where
    apart : HaveMore (own_term e ∷ []) ps (with_term (own_term e) ps) → (f : Entry) → IsOneOf es f → (p : Group)
        → IsOneOf (with_term (own_term e) ps) p → p.value ≡ f.value → ⊥
    apart r f o p m i = elim (r.only p m) [
      | inl x ↦ elim (one_cases (own_term e) [] x.0 x.1) [
        | inl j ↦ d.0 f o (ap (λ (z : Term). z.value) j ∙ ap (λ (z : Group). z.value) x.2 ∙ i)
        | inr z ↦ absurd (one_none x.0 z)
      ]
      | inr k ↦ n f (one_rest e es f o) p k i
    ]

-- one operand makes no gate
alone : (g : List Gate) (o : Operand) → one_of_alls g ((o ∷ []) ∷ []) ≡ record { operand = o; gates = g }
alone g Always = refl
alone g Never = refl
alone g (EventIs e sign) = refl
alone g (GateIs n sign) = refl

-- the group of an entry
abbrev group : Entry → Group
group e = group_of (own_term e)

-- each group has one term, of one operand
record AreSingle (ps : List Group) : Type 0 where
  pub each : (p : Group) → IsOneOf ps p → (o : Operand) × (p.terms ≡ (o ∷ []) ∷ [])

of_groups : (g : List Gate) (ps : List Group) → AreSingle ps → (e : Entry) → IsOneOf (entries_of g ps).entries e
    → IsOneOf ps (group e)
of_groups g [] a e o = absurd (one_none e o)
of_groups g (p ∷ ps) a e o =
    let m = one_of_alls g p.terms in
    let s = a.each p (one_first p ps) in
    elim (entry_cases p.value m.operand (entries_of m.gates ps).entries e o) [
      | inl i ↦ subst (λ z. IsOneOf (p ∷ ps) z) (is s.0 s.1 i) (one_first p ps)
      | inr k ↦ one_rest p ps (group e)
          (of_groups m.gates ps (record { each = λ q n. a.each q (one_rest p ps q n) }) e k)
    ]
  where
    is : (x : Operand) → p.terms ≡ (x ∷ []) ∷ []
        → record { value = p.value; operand = (one_of_alls g p.terms).operand } ≡ e → p ≡ group e
    is x t i =
        let c : (one_of_alls g p.terms).operand ≡ x =
        ap (λ z. (one_of_alls g z).operand) t ∙ ap (λ (z : Made). z.operand) (alone g x) in
        let v : p.value ≡ e.value = ap (λ (z : Entry). z.value) i in
        let w : e.operand ≡ x = ap (λ (z : Entry). z.operand) (sym i) ∙ c in
        same_group p (group e) v (t ∙ ap (λ z. (z ∷ []) ∷ []) (sym w))

in_groups : (g : List Gate) (ps : List Group) (e : Entry) → IsOneOf ps (group e) → is_never e.operand ≡ false
    → IsOneOf (entries_of g ps).entries e
in_groups g [] e o n = absurd (one_none (group e) o)
in_groups g (p ∷ ps) e o n =
    let m = one_of_alls g p.terms in
    elim (one_cases p ps (group e) o) [
      | inl i ↦ subst (λ (z : Group). IsOneOf (entries_of g (z ∷ ps)).entries e) (sym i)
          (subst (λ (z : Made). IsOneOf (with_entry e.value z.operand (entries_of z.gates ps).entries) e)
          (sym (alone g e.operand)) (entry_first e.value e.operand (entries_of g ps).entries n))
      | inr k ↦ entry_rest p.value m.operand (entries_of m.gates ps).entries e (in_groups m.gates ps e k n)
    ]

-- each group of the entries has one term, of one operand
single : (es : List Entry) → HaveMore (as_terms es) [] (with_terms (as_terms es) [])
    → AreSingle (with_terms (as_terms es) [])
single es h = record {
  each = λ p m. elim (h.only p m) [
    | inl x ↦
        let r = own_of es x.0 x.1 in
        (r.entry.operand, ap (λ (z : Group). z.terms) (sym x.2) ∙ ap (λ (z : Term). z.operands ∷ []) (sym r.is))
    | inr k ↦ absurd (one_none p k)
  ];
}

same_by_group : (f e : Entry) → group f ≡ group e → f ≡ e
same_by_group f e i =
    let v : f.value ≡ e.value = ap (λ (z : Group). z.value) i in
    let w : (f.operand ∷ []) ∷ [] ≡ (e.operand ∷ []) ∷ [] = ap (λ (z : Group). z.terms) i in
    same_entry f e v (one_operand f.operand e.operand w)

entry_of : {es : List Entry} (e : Entry)
    → ((t : Term) × IsOneOf (as_terms es) t × (group_of t ≡ group e)) ⊎ IsOneOf [] (group e)
    → (f : Entry) × IsOneOf es f × (f ≡ e)
entry_of e (inr k) = absurd (one_none (group e) k)
entry_of {es = es} e (inl x) =
    let r = own_of es x.0 x.1 in
    let i : group r.entry ≡ group e = ap group_of r.is ∙ x.2 in
    (r.entry, r.is_one, same_by_group r.entry e i)

grouped : (es : List Entry) → Differ es → HaveMore (as_terms es) [] (with_terms (as_terms es) [])
grouped es d = all_grouped es [] d (λ e o p m i. one_none p m)

-- the entries in order are of the same entries
pub from_order : (es : List Entry) → Differ es → (e : Entry) → IsOneOf (in_order es) e
    → (f : Entry) × IsOneOf es f × (f ≡ e)
from_order es d e o =
    let h = grouped es d in entry_of e (h.only (group e) (of_groups [] (with_terms (as_terms es) []) (single es h) e o))

-- the entries in order tell of the same
pub order_tells : {set : List ℕ} {g : List Gate} {es : List Entry} {P : Value → Type 0} → Differ es
    → AreEntries set g es P → AreEntries set g (in_order es) P
order_tells {set = set} {g = g} {es = es} {P = P} d a =
    let h = grouped es d in
    let ps = with_terms (as_terms es) [] in
    record {
      tells = λ e o.
          let f = from_order es d e o in
          subst (λ (z : Entry). IsTrueWhere set g z.operand (P z.value)) f.2 (a.tells f.0 f.1);
      whole = λ v p.
          let x = a.whole v p in
          let t = a.tells x.0 x.1 in
          let n = true_kept set g x.0.operand (t.so_true (subst P (sym x.2) p)) in
          (x.0, in_groups [] ps x.0 (h.new (own_term x.0) (of_own es x.0 x.1)) n, x.2);
    }
