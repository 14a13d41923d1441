-- What is built on ordered gates is in order.
use Rattle.std.proofs.Common.{pos, ◌⊎◌, inl, inr, Bool, true, false, not, if◌then◌else◌, List, [], ◌∷◌, map, length, refl, subst}
use Rattle.ar_base.specs.Lists.{IsOneOf}
use Rattle.ar_base.proofs.Standing.{one_cases, one_first, one_rest, one_none, one_split}
use Rattle.domains.specs.Same.{is_same}
use Rattle.domains.specs.declared.Value.{Value}
use Rattle.domains.specs.declared.Value.TheVariants.{Truth, Whole}
use Rattle.typed_expr.specs.Yields.{Level}
use Rattle.typed_expr.specs.declared.expr.Expr.{Expr}
use Rattle.eq_core.specs.Gates.{Operand, Always, Gate, all_of}
use Rattle.eq_core.specs.Ordered.{AreBelow, AreOrdered}
use Rattle.eq_core.specs.ValuesInside.{GainsGates, IsBelow}
use Rattle.eq_core.proofs.Ordering.{joined_ordered, none_earlier}
use Rattle.eq_core.proofs.Telling.{grows_on, below_kept, all_more}
use Rattle.eq_build.specs.Entries.{Entry, Term, Group, OperandRow, Built, operand_for, all_of_each, one_of_alls, with_terms, entries_of, entries_for, only, pairs_of, combined, folded, with_step, with_signs, led, opposite_term, opposite_terms, each_for, joint_terms, case_terms, chosen}
use Rattle.eq_build.specs.Builds.{Builds, Builds_each, Builds_parts, Builds_cases}
use Rattle.eq_build.specs.Builds as b
use Rattle.eq_build.specs.Laws.{EntriesBelow, IsOrderedBuilt}
use Rattle.eq_build.specs.declared.steps.Step.{Step}
use Rattle.eq_build.specs.declared.steps.Step.TheVariants.{Times, Lesser, Greater, Counted, Compared}
use Rattle.eq_build.proofs.EntriesTell.{AllBelow, all_kept, entry_cases, GroupsBelow, below_on}
use Rattle.eq_build.proofs.FormsTell.{map_one, one_below, two_below, pair_of}
use Rattle.eq_build.proofs.GroupsRise.{InGroups, InTerms, terms_were}
use Rattle.eq_build.proofs.Growing.{each_more, one_more, entries_more, terms_more, chosen_more, builds_more, operands_more, parts_more, cases_more}

-- entries that name no later gates still do when gates are added
pub entries_on : {g h : List Gate} (es : List Entry) → GainsGates g h → EntriesBelow g es → EntriesBelow h es
entries_on es w a = record { each = λ e m. below_kept e.operand w (a.each e m) }

-- operands, and the gates so far, in order
pub record IsOrderedRow (r : OperandRow) : Type 0 where
  pub gates : AreOrdered r.gates
  pub below : AreBelow (length r.gates) r.operands

pub row_ordered : (g : List Gate) (oss : List (List Operand)) → AreOrdered g → AllBelow g oss
    → IsOrderedRow (all_of_each g oss)
row_ordered g [] a l = record { gates = a; below = record { each = λ o m. absurd (one_none o m) } }
row_ordered g (os ∷ oss) a l = with_rest (λ h w c. row_ordered h oss c (all_kept oss w others))
  where
    others : AllBelow g oss
    others = record { each = λ ps m. l.each ps (one_rest os oss ps m) }

    with_rest : ((h : List Gate) → GainsGates g h → AreOrdered h → IsOrderedRow (all_of_each h oss))
        → IsOrderedRow (all_of_each g (os ∷ oss))
    with_rest rest =
        let m = all_of g os in
        let o = joined_ordered true g [] os a (none_earlier (length g)) (l.each os (one_first os oss)) in
        let r = rest m.gates (all_more g os) o.gates in
        let rr = all_of_each m.gates oss in
        record {
          gates = r.gates;
          below = record {
            each = λ p n. elim (one_cases m.operand rr.operands p n) [
              | inl e ↦ subst (λ z. IsBelow (length rr.gates) z) e
                  (below_kept m.operand (each_more m.gates oss) o.below)
              | inr k ↦ let q = r.below in q.each p k
            ];
          };
        }

-- entries of groups in order
groups_ordered : (g : List Gate) (ps : List Group) → AreOrdered g → GroupsBelow g ps → IsOrderedBuilt (entries_of g ps)
groups_ordered g [] a l = record { gates = a; entries = record { each = λ e m. absurd (one_none e m) } }
groups_ordered g (p ∷ ps) a l = with_rest (λ h w c. groups_ordered h ps c (below_on ps w others))
  where
    others : GroupsBelow g ps
    others = record { each = λ q m. l.each q (one_rest p ps q m) }

    with_rest : ((h : List Gate) → GainsGates g h → AreOrdered h → IsOrderedBuilt (entries_of h ps))
        → IsOrderedBuilt (entries_of g (p ∷ ps))
    with_rest rest =
        let row = row_ordered g p.terms a (l.each p (one_first p ps)) in
        let rr = all_of_each g p.terms in
        let m = one_of_alls g p.terms in
        let o = joined_ordered false rr.gates [] rr.operands row.gates (none_earlier (length rr.gates)) row.below in
        let r = rest m.gates (one_more g p.terms) o.gates in
        let es = entries_of m.gates ps in
        record {
          gates = r.gates;
          entries = record {
            each = λ e n. elim (entry_cases p.value m.operand es.entries e n) [
              | inl i ↦ subst (λ (z : Entry). IsBelow (length es.gates) z.operand) i
                  (below_kept m.operand (entries_more m.gates ps) o.below)
              | inr k ↦ let q = r.entries in q.each e k
            ];
          };
        }

-- the terms name no later gates
pub record TermsBelow (g : List Gate) (ts : List Term) : Type 0 where
  pub each : (t : Term) → IsOneOf ts t → AreBelow (length g) t.operands

pub terms_ordered : (g : List Gate) (ts : List Term) → AreOrdered g → TermsBelow g ts
    → IsOrderedBuilt (entries_for g ts)
terms_ordered g ts a l = groups_ordered g (with_terms ts []) a (record {
  each = λ p m. record {
    each = λ os n.
        elim (were p.value os (record { group = p; is_one = m; value = refl; has = n })) [
          | inl h ↦ subst (λ z. AreBelow (length g) z) h.operands (l.each h.term h.is_one)
          | inr i ↦ absurd (one_none i.group i.is_one)
        ];
  };
})
  where
    were : (d : Value) (os : List Operand) → InGroups (with_terms ts []) d os → InTerms ts d os ⊎ InGroups [] d os
    were d os i = terms_were ts [] d os i

-- the operand that is read for a value names no later gate
pub read_below : {g : List Gate} (es : List Entry) (d : Value) → EntriesBelow g es
    → IsBelow (length g) (operand_for es d)
read_below [] d a = tt
read_below {g = g} (e ∷ es) d a =
    go (is_same e.value d) (read_below es d (record { each = λ x m. a.each x (one_rest e es x m) }))
  where
    go : (c : Bool) → IsBelow (length g) (operand_for es d)
        → IsBelow (length g) (if c then e.operand else operand_for es d)
    go true r = a.each e (one_first e es)
    go false r = r

-- lists of entries name no later gates
record ListsBelow (g : List Gate) (ess : List (List Entry)) : Type 0 where
  pub each : (es : List Entry) → IsOneOf ess es → EntriesBelow g es

lists_on : {g h : List Gate} (ess : List (List Entry)) → GainsGates g h → ListsBelow g ess → ListsBelow h ess
lists_on ess w a = record { each = λ es m. entries_on es w (a.each es m) }

lists_with : {g : List Gate} (es : List Entry) (ess : List (List Entry)) → EntriesBelow g es → ListsBelow g ess
    → ListsBelow g (es ∷ ess)
lists_with {g = g} es ess a l = record {
  each = λ fs m. elim (one_cases es ess fs m) [
    | inl e ↦ subst (λ z. EntriesBelow g z) e a
    | inr n ↦ l.each fs n
  ];
}

combined_ordered : (step : Step) (g : List Gate) (xs ys : List Entry) → AreOrdered g → EntriesBelow g xs
    → EntriesBelow g ys → IsOrderedBuilt (combined step g xs ys)
combined_ordered step g xs ys a k l = terms_ordered g (pairs_of step xs ys) a (record {
  each = λ t m.
      let r = pair_of step xs ys t m in
      subst (λ (z : Term). AreBelow (length g) z.operands) r.is
      (two_below (length g) r.left.operand r.right.operand (k.each r.left r.in_left) (l.each r.right r.in_right));
})

-- operands with steps name no later gates
record StepsBelow (g : List Gate) (ps : List (Step × List Entry)) : Type 0 where
  pub each : (p : Step × List Entry) → IsOneOf ps p → EntriesBelow g p.1

folded_ordered : (g : List Gate) (xs : List Entry) (ps : List (Step × List Entry)) → AreOrdered g → EntriesBelow g xs
    → StepsBelow g ps → IsOrderedBuilt (folded g xs ps)
folded_ordered g xs [] a k l = record { gates = a; entries = k }
folded_ordered g xs (p ∷ ps) a k l =
    let m = combined_ordered p.0 g xs p.1 a k (l.each p (one_first p ps)) in
    let r = combined p.0 g xs p.1 in
    let w = terms_more g (pairs_of p.0 xs p.1) in
    folded_ordered r.gates r.entries ps m.gates m.entries
    (record { each = λ q n. entries_on q.1 w (l.each q (one_rest p ps q n)) })

stepped_below : (s : Step) {g : List Gate} (ess : List (List Entry)) → ListsBelow g ess → StepsBelow g (with_step s ess)
stepped_below s {g = g} ess l = record {
  each = λ p m.
      let f : List Entry → Step × List Entry = λ es. (s, es) in
      let r = map_one f ess p m in
      subst (λ (z : Step × List Entry). EntriesBelow g z.1) r.2 (l.each r.0 r.1);
}

led_ordered : (s : Step) (g : List Gate) (ess : List (List Entry)) → AreOrdered g → ListsBelow g ess
    → IsOrderedBuilt (led s g ess)
led_ordered s g [] a l = record { gates = a; entries = record { each = λ e m. absurd (one_none e m) } }
led_ordered s g (es ∷ ess) a l =
    folded_ordered g es (with_step s ess) a (l.each es (one_first es ess))
    (stepped_below s ess (record { each = λ fs m. l.each fs (one_rest es ess fs m) }))

each_for_below : {g : List Gate} (d : Value) (ess : List (List Entry)) → ListsBelow g ess → (o : Operand)
    → IsOneOf (each_for d ess) o → IsBelow (length g) o
each_for_below {g = g} d ess l o m =
    let f : List Entry → Operand = λ es. operand_for es d in
    let r = map_one f ess o m in
    subst (λ z. IsBelow (length g) z) r.2 (read_below r.0 d (l.each r.0 r.1))

joint_ordered : (both : Bool) (g : List Gate) (ess : List (List Entry)) → AreOrdered g → ListsBelow g ess
    → IsOrderedBuilt (entries_for g (joint_terms both ess))
joint_ordered both g ess a l = terms_ordered g (joint_terms both ess) a (record {
  each = λ t m.
      let f : Operand → Term = λ o. record { value = Truth (not both); operands = o ∷ [] } in
      let whole : Term = record { value = Truth both; operands = each_for (Truth both) ess } in
      elim (one_split (map f (each_for (Truth (not both)) ess)) (whole ∷ []) t m) [
        | inl n ↦ let r = map_one f (each_for (Truth (not both)) ess) t n in
            subst (λ (z : Term). AreBelow (length g) z.operands) r.2
            (one_below (length g) r.0 (each_for_below (Truth (not both)) ess l r.0 r.1))
        | inr n ↦ elim (one_cases whole [] t n) [
          | inl e ↦ subst (λ (z : Term). AreBelow (length g) z.operands) e
              (record { each = λ o k. each_for_below (Truth both) ess l o k })
          | inr k ↦ absurd (one_none t k)
        ]
      ];
})

turned_ordered : (g : List Gate) (es : List Entry) → AreOrdered g → EntriesBelow g es
    → IsOrderedBuilt (entries_for g (opposite_terms es))
turned_ordered g es a l = terms_ordered g (opposite_terms es) a (record {
  each = λ t m.
      let r = map_one opposite_term es t m in
      subst (λ (z : Term). AreBelow (length g) z.operands) r.2
      (one_below (length g) r.0.operand (l.each r.0 r.1));
})

case_ordered : (g : List Gate) (xs ys zs : List Entry) → AreOrdered g → EntriesBelow g xs → EntriesBelow g ys
    → EntriesBelow g zs → IsOrderedBuilt (entries_for g (case_terms xs ys zs))
case_ordered g xs ys zs a k l n = terms_ordered g (case_terms xs ys zs) a (record {
  each = λ t m.
      let f : Bool → Entry → Term = λ c e. record {
        value = e.value;
        operands = operand_for xs (Truth c) ∷ e.operand ∷ [];
      } in
      elim (one_split (map (f true) ys) (map (f false) zs) t m) [
        | inl q ↦ let r = map_one (f true) ys t q in
            subst (λ (z : Term). AreBelow (length g) z.operands) r.2
            (two_below (length g) (operand_for xs (Truth true)) r.0.operand (read_below xs (Truth true) k)
            (l.each r.0 r.1))
        | inr q ↦ let r = map_one (f false) zs t q in
            subst (λ (z : Term). AreBelow (length g) z.operands) r.2
            (two_below (length g) (operand_for xs (Truth false)) r.0.operand (read_below xs (Truth false) k)
            (n.each r.0 r.1))
      ];
})

-- the tests and values of cases name no later gates
record CasesBelow (g : List Gate) (cs : List (List Entry × List Entry)) : Type 0 where
  pub each : (c : List Entry × List Entry) → IsOneOf cs c → EntriesBelow g c.0 × EntriesBelow g c.1

chosen_ordered : (g : List Gate) (cs : List (List Entry × List Entry)) (other : List Entry) → AreOrdered g
    → CasesBelow g cs → EntriesBelow g other → IsOrderedBuilt (chosen g cs other)
chosen_ordered g [] other a l k = record { gates = a; entries = k }
chosen_ordered g (c ∷ cs) other a l k =
    let r = chosen_ordered g cs other a (record { each = λ d m. l.each d (one_rest c cs d m) }) k in
    let w = chosen_more g cs other in
    let own = l.each c (one_first c cs) in
    let b = chosen g cs other in
    case_ordered b.gates c.0 c.1 b.entries r.gates (entries_on c.0 w own.0) (entries_on c.1 w own.1) r.entries

pub only_below : (g : List Gate) (v : Value) → EntriesBelow g (only v)
only_below g v = record {
  each = λ e m.
      elim (one_cases (record { value = v; operand = Always }) [] e m) [
        | inl i ↦ subst (λ (z : Entry). IsBelow (length g) z.operand) i tt
        | inr n ↦ absurd (one_none e n)
      ];
}

module _ {V : Type 0} (read : V → List Entry) where
  -- the reading names no later gates
  pub record ReadsBelow (g : List Gate) : Type 0 where
    pub each : (x : V) → EntriesBelow g (read x)

  reads_on : {g h : List Gate} → GainsGates g h → ReadsBelow g → ReadsBelow h
  reads_on w r = record { each = λ x. entries_on (read x) w (r.each x) }

  record EachOrdered (ess : List (List Entry)) (h : List Gate) : Type 0 where
    pub gates : AreOrdered h
    pub lists : ListsBelow h ess

  record PartsOrdered (ess : List (Bool × List Entry)) (h : List Gate) : Type 0 where
    pub gates : AreOrdered h
    pub lists : StepsBelow h (with_signs ess)

  record CasesOrdered (ess : List (List Entry × List Entry)) (h : List Gate) : Type 0 where
    pub gates : AreOrdered h
    pub lists : CasesBelow h ess

  steps_with : {h : List Gate} (p : Step × List Entry) (ps : List (Step × List Entry)) → EntriesBelow h p.1
      → StepsBelow h ps → StepsBelow h (p ∷ ps)
  steps_with {h = h} p ps a l = record {
    each = λ q m. elim (one_cases p ps q m) [
      | inl e ↦ subst (λ (z : Step × List Entry). EntriesBelow h z.1) e a
      | inr n ↦ l.each q n
    ];
  }

  cases_with : {h : List Gate} (c : List Entry × List Entry) (cs : List (List Entry × List Entry))
      → EntriesBelow h c.0 → EntriesBelow h c.1 → CasesBelow h cs → CasesBelow h (c ∷ cs)
  cases_with {h = h} c cs a k l = record {
    each = λ d m. elim (one_cases c cs d m) [
      | inl e ↦ subst (λ (z : List Entry × List Entry). EntriesBelow h z.0 × EntriesBelow h z.1) e (a, k)
      | inr n ↦ l.each d n
    ];
  }

  cases_on : {g h : List Gate} (cs : List (List Entry × List Entry)) → GainsGates g h → CasesBelow g cs → CasesBelow h cs
  cases_on cs w l = record { each = λ c m. let p = l.each c m in (entries_on c.0 w p.0, entries_on c.1 w p.1) }

  mutual
    pub builds_ordered : {g : List Gate} {e : Level V} {r : Built} → Builds read g e r → AreOrdered g → ReadsBelow g
        → IsOrderedBuilt r
    builds_ordered (b.constant {g = g} {v = v}) a i = record { gates = a; entries = only_below g v }
    builds_ordered (b.variable {x = x}) a i = record { gates = a; entries = i.each x }
    builds_ordered (b.opposite {b = r} d) a i =
        let m = builds_ordered d a i in turned_ordered r.gates r.entries m.gates m.entries
    builds_ordered (b.all {h = h} {ess = ess} d) a i =
        let m = each_ordered d a i in joint_ordered true h ess m.gates m.lists
    builds_ordered (b.any {h = h} {ess = ess} d) a i =
        let m = each_ordered d a i in joint_ordered false h ess m.gates m.lists
    builds_ordered (b.compared {r = q} {x = x} {y = y} d e) a i =
        let m = builds_ordered d a i in
        let n = builds_ordered e m.gates (reads_on (builds_more d) i) in
        combined_ordered (Compared q) y.gates x.entries y.entries n.gates
        (entries_on x.entries (builds_more e) m.entries)
        n.entries
    builds_ordered (b.sum {h = h} {ess = ess} d) a i =
        let m = parts_ordered d a i in
        folded_ordered h (only (Whole (pos 0))) (with_signs ess) m.gates (only_below h (Whole (pos 0))) m.lists
    builds_ordered (b.product {h = h} {ess = ess} d) a i =
        let m = each_ordered d a i in
        folded_ordered h (only (Whole (pos 1))) (with_step Times ess) m.gates (only_below h (Whole (pos 1)))
        (stepped_below Times ess m.lists)
    builds_ordered (b.least {h = h} {ess = ess} d) a i =
        let m = each_ordered d a i in led_ordered Lesser h ess m.gates m.lists
    builds_ordered (b.greatest {h = h} {ess = ess} d) a i =
        let m = each_ordered d a i in led_ordered Greater h ess m.gates m.lists
    builds_ordered (b.count {h = h} {ess = ess} d) a i =
        let m = each_ordered d a i in
        folded_ordered h (only (Whole (pos 0))) (with_step Counted ess) m.gates (only_below h (Whole (pos 0)))
        (stepped_below Counted ess m.lists)
    builds_ordered (b.choice {ess = ess} {b = r} d e) a i =
        let m = cases_ordered d a i in
        let n = builds_ordered e m.gates (reads_on (cases_more d) i) in
        chosen_ordered r.gates ess r.entries n.gates (cases_on ess (builds_more e) m.lists) n.entries

    each_ordered : {g h : List Gate} {es : List (Expr V)} {ess : List (List Entry)} → Builds_each read g es ess h
        → AreOrdered g → ReadsBelow g → EachOrdered ess h
    each_ordered b.none a i = record { gates = a; lists = record { each = λ es m. absurd (one_none es m) } }
    each_ordered (b.one_and {b = r} {ess = ess} d e) a i =
        let m = builds_ordered d a i in
        let n = each_ordered e m.gates (reads_on (builds_more d) i) in
        record {
          gates = n.gates;
          lists = lists_with r.entries ess (entries_on r.entries (operands_more e) m.entries) n.lists;
        }

    parts_ordered : {g h : List Gate} {ps : List (Bool × Expr V)} {ess : List (Bool × List Entry)}
        → Builds_parts read g ps ess h → AreOrdered g → ReadsBelow g → PartsOrdered ess h
    parts_ordered b.no_part a i = record { gates = a; lists = record { each = λ p m. absurd (one_none p m) } }
    parts_ordered (b.part_and {b = r} {ess = ess} d e) a i =
        let m = builds_ordered d a i in
        let n = parts_ordered e m.gates (reads_on (builds_more d) i) in
        record {
          gates = n.gates;
          lists = steps_with (_, r.entries) (with_signs ess) (entries_on r.entries (parts_more e) m.entries) n.lists;
        }

    cases_ordered : {g h : List Gate} {cs : List (Expr V × Expr V)} {ess : List (List Entry × List Entry)}
        → Builds_cases read g cs ess h → AreOrdered g → ReadsBelow g → CasesOrdered ess h
    cases_ordered b.no_case a i = record { gates = a; lists = record { each = λ c m. absurd (one_none c m) } }
    cases_ordered (b.case_and {x = x} {y = y} {ess = ess} d e f) a i =
        let m = builds_ordered d a i in
        let n = builds_ordered e m.gates (reads_on (builds_more d) i) in
        let o = cases_ordered f n.gates (reads_on (builds_more e) (reads_on (builds_more d) i)) in
        record {
          gates = o.gates;
          lists = cases_with (x.entries, y.entries) ess
              (entries_on x.entries (grows_on (builds_more e) (cases_more f)) m.entries)
              (entries_on y.entries (cases_more f) n.entries) o.lists;
        }
