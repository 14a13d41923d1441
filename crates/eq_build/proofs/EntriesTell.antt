-- Entries that are made of terms tell of what their terms say.
use Rattle.std.proofs.Common.{◌≡◌, ℕ, ◌⊎◌, inl, inr, Bool, true, false, if◌then◌else◌, List, [], ◌∷◌, length, refl, sym, ap, ◌∙◌, subst}
use Rattle.ar_base.specs.Lists.{IsOneOf}
use Rattle.ar_base.proofs.Standing.{one_cases, one_first, one_rest, one_none}
use Rattle.domains.specs.Same.{is_same}
use Rattle.domains.specs.declared.Value.{Value}
use Rattle.domains.proofs.Order.{not_before}
use Rattle.domains.proofs.Same.{same_is, same_self}
use Rattle.eq_core.specs.Gates.{Operand, Always, Never, EventIs, GateIs, Gate, all_of}
use Rattle.eq_core.specs.Ordered.{AreBelow}
use Rattle.eq_core.specs.Values.{value_at}
use Rattle.eq_core.specs.ValuesInside.{IsTrueWhere, GainsGates, EachTrue}
use Rattle.eq_core.proofs.Telling.{grows_self, grows_on, value_kept, below_kept, tells_kept, tells_as, tells_never, all_tells, all_grows, any_tells, any_grows}
use Rattle.eq_build.specs.Entries.{Entry, operand_for, Term, Group, OperandRow, all_of_each, one_of_alls, is_never, with_entry, with_terms, entries_of, entries_for}
use Rattle.eq_build.specs.EntriesInside.{Rises}
use Rattle.eq_build.specs.Tells.{AreEntries, IsBuilt}
use Rattle.eq_build.proofs.GroupsRise.{InGroups, InTerms, terms_there, terms_were, terms_rise}

-- one of the lists has true operands alone
pub record OneAll (set : List ℕ) (gates : List Gate) (oss : List (List Operand)) : Type 0 where
  pub operands : List Operand
  pub is_one : IsOneOf oss operands
  pub each : EachTrue set gates operands

pub is_so : (v w : Value) → v ≡ w → is_same v w ≡ true
is_so v w e = subst (λ z. is_same v z ≡ true) e (same_self v)

-- entries tell of the same when gates are added
pub entries_kept : {set : List ℕ} {g h : List Gate} {es : List Entry} {P : Value → Type 0} → GainsGates g h
    → AreEntries set g es P → AreEntries set h es P
entries_kept w a = record { tells = λ e o. tells_kept w (a.tells e o); whole = a.whole }

pub entries_as : {set : List ℕ} {g : List Gate} {es : List Entry} {P Q : Value → Type 0} → ((d : Value) → P d → Q d)
    → ((d : Value) → Q d → P d) → AreEntries set g es P → AreEntries set g es Q
entries_as f k a = record {
  tells = λ e o. tells_as (f e.value) (k e.value) (a.tells e o);
  whole = λ d q. a.whole d
      (k d q);
}

-- the operand of a value tells of it
pub operand_tells : {set : List ℕ} {g : List Gate} (es : List Entry) (P : Value → Type 0) (d : Value)
    → ((e : Entry) → IsOneOf es e → IsTrueWhere set g e.operand (P e.value))
    → (P d → (e : Entry) × IsOneOf es e × (e.value ≡ d)) → IsTrueWhere set g (operand_for es d) (P d)
operand_tells [] P d t w = tells_never (λ p. let r = w p in one_none r.0 r.1)
operand_tells {set = set} {g = g} (e ∷ es) P d t w = go (is_same e.value d) refl
    (λ f. operand_tells es P d (λ x o. t x (one_rest e es x o)) f)
  where
    go : (b : Bool) → is_same e.value d ≡ b → ((P d → (x : Entry) × IsOneOf es x × (x.value ≡ d)) → IsTrueWhere set g
        (operand_for es d) (P d)) → IsTrueWhere set g (if b then e.operand else operand_for es d) (P d)
    go true i r = subst (λ z. IsTrueWhere set g e.operand (P z)) (same_is e.value d i) (t e (one_first e es))
    go false i r = r (λ p. let x = w p in elim (one_cases e es x.0 x.1) [
      | inl j ↦ absurd (let k = is_so e.value d (ap (λ z. z.value) j ∙ x.2) in cc)
      | inr o ↦ (x.0, o, x.2)
    ])

pub entry_tells : {set : List ℕ} {g : List Gate} {es : List Entry} {P : Value → Type 0} → AreEntries set g es P
    → (d : Value) → IsTrueWhere set g (operand_for es d) (P d)
entry_tells {es = es} {P = P} a d = operand_tells es P d a.tells (a.whole d)

-- operands are true of more gates where they were
each_on : {set : List ℕ} {g h : List Gate} (os : List Operand) → GainsGates g h → AreBelow (length g) os
    → EachTrue set g os → EachTrue set h os
each_on {set = set} os w a t = record { each = λ o m. value_kept set o w (a.each o m) ∙ t.each o m }

each_back : {set : List ℕ} {g h : List Gate} (os : List Operand) → GainsGates g h → AreBelow (length g) os
    → EachTrue set h os → EachTrue set g os
each_back {set = set} os w a t = record { each = λ o m. sym (value_kept set o w (a.each o m)) ∙ t.each o m }

pub are_kept : {g h : List Gate} (os : List Operand) → GainsGates g h → AreBelow (length g) os → AreBelow (length h) os
are_kept os w a = record { each = λ o m. below_kept o w (a.each o m) }

-- each list names no later gate
pub record AllBelow (g : List Gate) (oss : List (List Operand)) : Type 0 where
  pub each : (os : List Operand) → IsOneOf oss os → AreBelow (length g) os

pub all_kept : {g h : List Gate} (oss : List (List Operand)) → GainsGates g h → AllBelow g oss → AllBelow h oss
all_kept oss w a = record { each = λ os o. are_kept os w (a.each os o) }

-- the operands of a row, each telling that its list is true
record IsRow (set : List ℕ) (g : List Gate) (oss : List (List Operand)) (r : OperandRow) : Type 0 where
  pub grown : GainsGates g r.gates
  pub each : (os : List Operand) → IsOneOf oss os
      → (o : Operand) × IsOneOf r.operands o × IsTrueWhere set r.gates o (EachTrue set g os)
  pub back : (o : Operand) → IsOneOf r.operands o
      → (os : List Operand) × IsOneOf oss os × IsTrueWhere set r.gates o (EachTrue set g os)

row_tells : (set : List ℕ) (g : List Gate) (oss : List (List Operand)) → AllBelow g oss
    → IsRow set g oss (all_of_each g oss)
row_tells set g [] a = record {
  grown = grows_self g;
  each = λ os o. absurd (one_none os o);
  back = λ p o. absurd
      (one_none p o);
}
row_tells set g (os ∷ oss) a = with_head (a.each os (one_first os oss)) (λ h w. row_tells set h oss
    (all_kept oss w (record { each = λ ps o. a.each ps (one_rest os oss ps o) })))
  where
    with_head : AreBelow (length g) os → ((h : List Gate) → GainsGates g h → IsRow set h oss (all_of_each h oss))
        → IsRow set g (os ∷ oss) (all_of_each g (os ∷ oss))
    with_head b rest =
        let m = all_of g os in
        let w : GainsGates g m.gates = all_grows set g os b in
        let r = rest m.gates w in
        let rr = all_of_each m.gates oss in
        let t : IsTrueWhere set rr.gates m.operand (EachTrue set g os) = tells_kept r.grown (all_tells set g os b) in
        let lift : (ps : List Operand) → IsOneOf oss ps → (o : Operand) → IsTrueWhere set rr.gates o
        (EachTrue set m.gates ps) → IsTrueWhere set rr.gates o (EachTrue set g ps) = λ ps i o k.
        let c = a.each ps (one_rest os oss ps i) in tells_as (each_back ps w c) (each_on ps w c) k in
        record {
          grown = grows_on w r.grown;
          each = λ ps i. elim (one_cases os oss ps i) [
            | inl e ↦ (
              m.operand,
              one_first m.operand rr.operands,
              subst
                  (λ z. IsTrueWhere set rr.gates m.operand (EachTrue set g z)) e t,
            )
            | inr j ↦ let x = r.each ps j in (x.0, one_rest m.operand rr.operands x.0 x.1, lift ps j x.0 x.2)
          ];
          back = λ o i. elim (one_cases m.operand rr.operands o i) [
            | inl e ↦ (os, one_first os oss, subst (λ z. IsTrueWhere set rr.gates z (EachTrue set g os)) e t)
            | inr j ↦ let x = r.back o j in (x.0, one_rest os oss x.0 x.1, lift x.0 x.1 o x.2)
          ];
        }

-- one of the lists, all of its operands
pub one_grows : (set : List ℕ) (g : List Gate) (oss : List (List Operand)) → AllBelow g oss → GainsGates g (one_of_alls g
    oss).gates × IsTrueWhere set (one_of_alls g oss).gates (one_of_alls g oss).operand (OneAll set g oss)
one_grows set g oss a =
    let r = row_tells set g oss a in
    let rr = all_of_each g oss in
    let b : AreBelow (length rr.gates) rr.operands = record
    { each = λ o i. let x = r.back o i in let t = x.2 in t.below } in (
      grows_on r.grown (any_grows set rr.gates rr.operands b),
      tells_as
          (λ h. let x = r.back h.operand h.is_one in let t = x.2 in record
          { operands = x.0; is_one = x.1; each = t.true_so h.holds })
          (λ h. let x = r.each h.operands h.is_one in let t = x.2 in record
          { operand = x.0; is_one = x.1; holds = t.so_true h.each })
          (any_tells set rr.gates rr.operands b),
    )

one_on : {set : List ℕ} {g h : List Gate} (oss : List (List Operand)) → GainsGates g h → AllBelow g oss
    → OneAll set g oss → OneAll set h oss
one_on oss w a t = record {
  operands = t.operands;
  is_one = t.is_one;
  each = each_on t.operands w
      (a.each t.operands t.is_one) t.each;
}

one_back : {set : List ℕ} {g h : List Gate} (oss : List (List Operand)) → GainsGates g h → AllBelow g oss
    → OneAll set h oss → OneAll set g oss
one_back oss w a t = record {
  operands = t.operands;
  is_one = t.is_one;
  each = each_back t.operands w
      (a.each t.operands t.is_one) t.each;
}

-- a group of the value has a term whose operands are all true
pub record OneOfGroups (set : List ℕ) (g : List Gate) (ps : List Group) (d : Value) : Type 0 where
  pub group : Group
  pub is_one : IsOneOf ps group
  pub value : group.value ≡ d
  pub holds : OneAll set g group.terms

-- the groups' terms name no later gate
pub record GroupsBelow (g : List Gate) (ps : List Group) : Type 0 where
  pub each : (p : Group) → IsOneOf ps p → AllBelow g p.terms

pub below_on : {g h : List Gate} (ps : List Group) → GainsGates g h → GroupsBelow g ps → GroupsBelow h ps
below_on ps w a = record { each = λ p m. all_kept p.terms w (a.each p m) }

groups_on : {set : List ℕ} {g h : List Gate} (ps : List Group) (d : Value) → GainsGates g h → GroupsBelow g ps
    → OneOfGroups set g ps d → OneOfGroups set h ps d
groups_on ps d w a i = record {
  group = i.group;
  is_one = i.is_one;
  value = i.value;
  holds = one_on i.group.terms w (a.each i.group i.is_one) i.holds;
}

groups_back : {set : List ℕ} {g h : List Gate} (ps : List Group) (d : Value) → GainsGates g h → GroupsBelow g ps
    → OneOfGroups set h ps d → OneOfGroups set g ps d
groups_back ps d w a i = record {
  group = i.group;
  is_one = i.is_one;
  value = i.value;
  holds = one_back i.group.terms w (a.each i.group i.is_one) i.holds;
}

-- an operand that is true somewhere is not Never
pub true_kept : (set : List ℕ) (g : List Gate) (o : Operand) → value_at g o set ≡ true → is_never o ≡ false
true_kept set g Always h = refl
true_kept set g Never h = cc
true_kept set g (EventIs e sign) h = refl
true_kept set g (GateIs n sign) h = refl

pub entry_cases : (d : Value) (o : Operand) (es : List Entry) (e : Entry) → IsOneOf (with_entry d o es) e
    → (record { value = d; operand = o } ≡ e) ⊎ IsOneOf es e
entry_cases d o es e m = go (is_never o) m
  where
    go : (b : Bool) → IsOneOf (if b then es else record { value = d; operand = o } ∷ es) e
        → (record { value = d; operand = o } ≡ e) ⊎ IsOneOf es e
    go true m = inr m
    go false m = one_cases (record { value = d; operand = o }) es e m

pub entry_first : (d : Value) (o : Operand) (es : List Entry) → is_never o ≡ false
    → IsOneOf (with_entry d o es) (record { value = d; operand = o })
entry_first d o es n = subst (λ b. IsOneOf (if b then es else record { value = d; operand = o } ∷ es)
    (record { value = d; operand = o })) (sym n) (one_first (record { value = d; operand = o }) es)

pub entry_rest : (d : Value) (o : Operand) (es : List Entry) (e : Entry) → IsOneOf es e → IsOneOf (with_entry d o es) e
entry_rest d o es e m = go (is_never o)
  where
    go : (b : Bool) → IsOneOf (if b then es else record { value = d; operand = o } ∷ es) e
    go true = m
    go false = one_rest (record { value = d; operand = o }) es e m

-- what is built has the values of groups
record OfGroup (ps : List Group) (e : Entry) : Type 0 where
  pub group : Group
  pub is_one : IsOneOf ps group
  pub value : group.value ≡ e.value

of_group : (g : List Gate) (ps : List Group) (e : Entry) → IsOneOf (entries_of g ps).entries e → OfGroup ps e
of_group g [] e m = absurd (one_none e m)
of_group g (p ∷ ps) e m =
    let made = one_of_alls g p.terms in
    elim (entry_cases p.value made.operand (entries_of made.gates ps).entries e m) [
      | inl i ↦ record { group = p; is_one = one_first p ps; value = ap (λ (z : Entry). z.value) i }
      | inr n ↦ let r = of_group made.gates ps e n in
          record { group = r.group; is_one = one_rest p ps r.group r.is_one; value = r.value }
    ]

-- the entries of ascending groups tell which of them has a term whose operands are all true
pub groups_tell : (set : List ℕ) (g : List Gate) (ps : List Group) → Rises ps → GroupsBelow g ps
    → IsBuilt set g (entries_of g ps) (OneOfGroups set g ps)
groups_tell set g [] r a = record {
  grown = grows_self g;
  entries = record { tells = λ e m. absurd (one_none e m); whole = λ d h. absurd (one_none h.group h.is_one) };
}
groups_tell set g (p ∷ ps) r a =
    with_rest (one_grows set g p.terms (a.each p (one_first p ps)))
    (λ h w. groups_tell set h ps r.1 (below_on ps w (record { each = λ q m. a.each q (one_rest p ps q m) })))
  where
    others : GroupsBelow g ps
    others = record { each = λ q m. a.each q (one_rest p ps q m) }

    not_later : (q : Group) → IsOneOf ps q → p.value ≡ q.value → ⊥
    not_later q m e = not_before p.value q.value (r.0 q m) e

    with_rest : GainsGates g (one_of_alls g p.terms).gates
        × IsTrueWhere set (one_of_alls g p.terms).gates (one_of_alls g p.terms).operand (OneAll set g p.terms)
        → ((h : List Gate) → GainsGates g h → IsBuilt set h (entries_of h ps) (OneOfGroups set h ps))
        → IsBuilt set g (entries_of g (p ∷ ps)) (OneOfGroups set g (p ∷ ps))
    with_rest m rest =
        let made = one_of_alls g p.terms in
        let s = rest made.gates m.0 in
        let b = entries_of made.gates ps in
        let first : Entry = record { value = p.value; operand = made.operand } in
        let t : IsTrueWhere set b.gates made.operand (OneAll set g p.terms) = tells_kept s.grown m.1 in
        let own : OneAll set g p.terms → OneOfGroups set g (p ∷ ps) p.value = λ h.
        record { group = p; is_one = one_first p ps; value = refl; holds = h } in
        let mine : OneOfGroups set g (p ∷ ps) p.value → OneAll set g p.terms = λ i.
        elim (one_cases p ps i.group i.is_one) [
          | inl e ↦ subst (λ (z : Group). OneAll set g z.terms) (sym e) i.holds
          | inr n ↦ absurd (not_later i.group n (sym i.value))
        ] in
        record {
          grown = grows_on m.0 s.grown;
          entries = record {
            tells = λ e n. elim (entry_cases p.value made.operand b.entries e n) [
              | inl i ↦ subst (λ (z : Entry). IsTrueWhere set b.gates z.operand (OneOfGroups set g (p ∷ ps) z.value)) i
                  (tells_as own mine t)
              | inr k ↦ tells_as
                  (λ h. let j = groups_back ps e.value m.0 others h in
                  record { group = j.group; is_one = one_rest p ps j.group j.is_one; value = j.value; holds = j.holds })
                  (λ i. elim (one_cases p ps i.group i.is_one) [
                    | inl f ↦ let o = of_group made.gates ps e k in
                        absurd (not_later o.group o.is_one (ap (λ (z : Group). z.value) f ∙ i.value ∙ sym o.value))
                    | inr l ↦ groups_on ps e.value m.0 others
                        (record { group = i.group; is_one = l; value = i.value; holds = i.holds })
                  ])
                  (s.entries.tells e k)
            ];
            whole = λ d i. elim (one_cases p ps i.group i.is_one) [
              | inl f ↦
                  let v : p.value ≡ d = ap (λ (z : Group). z.value) f ∙ i.value in
                  let h = t.so_true (subst (λ (z : Group). OneAll set g z.terms) (sym f) i.holds) in
                  (first, entry_first p.value made.operand b.entries (true_kept set b.gates made.operand h), v)
              | inr l ↦
                  let x = s.entries.whole d (groups_on ps d m.0 others
                  (record { group = i.group; is_one = l; value = i.value; holds = i.holds })) in
                  (x.0, entry_rest p.value made.operand b.entries x.0 x.1, x.2)
            ];
          };
        }

-- one of the terms of the value has true operands alone
pub record SomeTerm (set : List ℕ) (g : List Gate) (ts : List Term) (d : Value) : Type 0 where
  pub term : Term
  pub is_one : IsOneOf ts term
  pub value : term.value ≡ d
  pub each : EachTrue set g term.operands

-- what is built from terms tells of P, if P is what the terms say
pub terms_tell : (set : List ℕ) (g : List Gate) (ts : List Term) (P : Value → Type 0)
    → ((t : Term) → IsOneOf ts t → AreBelow (length g) t.operands)
    → ((t : Term) → IsOneOf ts t → EachTrue set g t.operands → P t.value) → ((d : Value) → P d → SomeTerm set g ts d)
    → IsBuilt set g (entries_for g ts) P
terms_tell set g ts P below to from =
    let ps = with_terms ts [] in
    let r = groups_tell set g ps (terms_rise ts [] tt) (record {
      each = λ p m. record {
        each = λ os n.
            elim (were p.value os (record { group = p; is_one = m; value = refl; has = n })) [
              | inl h ↦ subst (λ z. AreBelow (length g) z) h.operands (below h.term h.is_one)
              | inr i ↦ absurd (one_none i.group i.is_one)
            ];
      };
    }) in
    record { grown = r.grown; entries = entries_as says said r.entries }
  where
    were : (d : Value) (os : List Operand) → InGroups (with_terms ts []) d os → InTerms ts d os ⊎ InGroups [] d os
    were d os i = terms_were ts [] d os i

    says : (d : Value) → OneOfGroups set g (with_terms ts []) d → P d
    says d i =
        let o = i.holds in
        elim (were d o.operands (record { group = i.group; is_one = i.is_one; value = i.value; has = o.is_one })) [
          | inl h ↦ subst P h.value (to h.term h.is_one (subst (λ z. EachTrue set g z) (sym h.operands) o.each))
          | inr k ↦ absurd (one_none k.group k.is_one)
        ]

    said : (d : Value) → P d → OneOfGroups set g (with_terms ts []) d
    said d p =
        let s = from d p in
        let i = terms_there ts [] s.term s.is_one in
        record {
          group = i.group;
          is_one = i.is_one;
          value = i.value ∙ s.value;
          holds = record { operands = s.term.operands; is_one = i.has; each = s.each };
        }
