-- Marks that are set one after the other.
use Rattle.std.proofs.Common.{◌≡◌, ◌<◌, ◌≤◌, ◌+◌, ◌⊎◌, inl, inr, ℕ, true, false, List, [], ◌∷◌, ◌++◌, length, set, get_or, slice_get, take, refl, sym, ap, ◌∙◌, subst, arith, length-set}
use Rattle.std.proofs.lemmas.List.{take_more, take_all}
use Rattle.ar_base.specs.Lists.{Stands, IsOneOf}
use Rattle.ar_base.specs.NumbersInside.{AssignId}
use Rattle.ar_base.specs.Sets.{Ascends}
use Rattle.ar_base.proofs.Standing.{stands_one, stands_some, stands_within, one_here, one_none}
use Rattle.gts_core.specs.Sound.{IsSound}
use Rattle.gts_core.specs.declared.system.Assign.{Assign}
use Rattle.gts_core.specs.declared.system.GtsParts.{GtsParts}
use Rattle.flow_reasons.specs.declared.fact_marks.Mark.{Mark}
use Rattle.flow_reasons.specs.declared.fact_marks.Mark.TheVariants.{Added}
use Rattle.flow_reasons.specs.FactMarks.{is_fact, is_fact_found, HasNoFact, IsTo, IsMarkedBy, MarksAll}
use Rattle.flow_reasons.proofs.Placing.{set_other, set_back, pushed_cases, pushed_old, pushed_last, before_next}

-- the target of an assertion is a variable of the system
pub target_below : (p : GtsParts) → IsSound p → (n : ℕ) (a : Assign) → Stands p.assigns.items n a
    → a.target.n < length p.variables.items
target_below p sound n a st =
    let t = sound.assertions a (one_here p.assigns.items n a st) in
    stands_within p.variables.items a.target.n t.variable t.stands

-- the mark that was tested
module _ (marks : List Mark) where
  pub open_from : (n : ℕ) → n < length marks → is_fact_found (slice_get marks n) ≡ false → HasNoFact marks n
  open_from n l e =
      let m = stands_some marks n l in
      record { mark = m.0; stands = m.1; is = sym (ap is_fact_found m.1) ∙ e }

  pub not_open : (n : ℕ) → is_fact_found (slice_get marks n) ≡ true → HasNoFact marks n → ⊥
  not_open n e o = let i : is_fact o.mark ≡ true = sym (ap is_fact_found o.stands) ∙ e in absurd (cc (i, o.is))

pub open_not : {marks : List Mark} {n : ℕ} {m : Mark} → HasNoFact marks n → Stands marks n m → is_fact m ≡ true → ⊥
open_not {marks = marks} {n = n} {m = m} o s i =
    let e = stands_one marks n o.mark m o.stands s in
    let j : is_fact m ≡ false = subst (λ (z : Mark). is_fact z ≡ false) e o.is in absurd (cc (i, j))

module _ (p : GtsParts) (round : ℕ) (old : List Mark) where
  pub marks_none : (xs : List ℕ) → MarksAll p (take 0 xs) round old old []
  marks_none xs = record {
    long = refl;
    kept = λ n m s i. s;
    only = λ n m s. inl s;
    all = λ k n o. absurd (one_none k o);
  }

  module _ (xs : List ℕ) (i : ℕ) (h : Ascends xs) (l : i < length xs) (a : Assign)
      (st : Stands p.assigns.items (get_or xs i 0) a)
      (marks : List Mark) (fresh : List ℕ) (d : MarksAll p (take i xs) round old marks fresh) where
    abbrev more : take (i + 1) xs ≡ take i xs ++ get_or xs i 0 ∷ []
    more = take_more xs i 0 l

    is_target : (n : ℕ) → IsTo p (get_or xs i 0) n → n ≡ a.target.n
    is_target n t =
        let e = stands_one p.assigns.items (get_or xs i 0) t.assign a t.stands st in
        sym t.is ∙ ap (λ (z : Assign). z.target.n) e

    marked_more : (n : ℕ) (m : Mark) → IsMarkedBy p (take i xs) round n m
        → IsMarkedBy p (take i xs ++ get_or xs i 0 ∷ []) round n m
    marked_more n m k = record {
      by = k.by;
      is = k.is;
      is_one = pushed_old (take i xs) (get_or xs i 0) k.by.n k.is_one;
      is_to = k.is_to;
      least = λ j o t. elim (pushed_cases (take i xs) (get_or xs i 0) j o) [
        | inl q ↦ k.least j q t
        | inr e ↦ (let b = before_next xs i h l k.by.n k.is_one in omega (arith, b, e))
      ];
    }

    -- the target has its fact
    pub marks_left : (HasNoFact marks a.target.n → ⊥) → MarksAll p (take (i + 1) xs) round old marks fresh
    marks_left known = subst (λ (z : List ℕ). MarksAll p z round old marks fresh) (sym more) (record {
      long = d.long;
      kept = d.kept;
      only = λ n m s. elim (d.only n m s) [ inl q ↦ inl q | inr q ↦ inr (q.0, (q.1.0, marked_more n m q.1.1)) ];
      all = λ k n o t u. elim (pushed_cases (take i xs) (get_or xs i 0) k o) [
        | inl q ↦ d.all k n q t u
        | inr e ↦ (let f = is_target n (subst (λ z. IsTo p z n) (sym e) t) in known (subst (λ z. HasNoFact marks z) f u))
      ];
    })

    -- the target is marked
    module _ (by : AssignId) (is_by : by.n ≡ get_or xs i 0) (o : HasNoFact marks a.target.n)
        (inside : a.target.n < length marks) where
      t : ℕ
      t = a.target.n

      abbrev m : Mark
      m = Added round by

      abbrev new : List Mark
      new = set marks a.target.n m

      was_open : HasNoFact old a.target.n
      was_open = elim (d.only a.target.n o.mark o.stands) [
        | inl s ↦ record { mark = o.mark; stands = s; is = o.is }
        | inr q ↦ q.0
      ]

      to_target : (k : ℕ) → k ≡ get_or xs i 0 → IsTo p k a.target.n
      to_target k e = record { assign = a; stands = subst (λ z. Stands p.assigns.items z a) (sym e) st; is = refl }

      marked_now : IsMarkedBy p (take i xs ++ get_or xs i 0 ∷ []) round a.target.n m
      marked_now = record {
        by = by;
        is = refl;
        is_one = subst (λ z. IsOneOf (take i xs ++ get_or xs i 0 ∷ []) z) (sym is_by)
            (pushed_last (take i xs) (get_or xs i 0));
        is_to = to_target by.n is_by;
        least = λ k q u. elim (pushed_cases (take i xs) (get_or xs i 0) k q) [
          | inl r ↦ absurd (d.all k a.target.n r u o)
          | inr e ↦ omega (arith, e, is_by)
        ];
      }

      new_only : (n : ℕ) (x : Mark) → Stands new n x
          → Stands old n x ⊎ (HasNoFact old n
          × (IsOneOf (fresh ++ a.target.n ∷ []) n × IsMarkedBy p (take i xs ++ get_or xs i 0 ∷ []) round n x))
      new_only n x s = elim (set_back marks a.target.n n m x s) [
        | inl e ↦ (let P : ℕ → Mark → Type 0 =
            λ k z. Stands old k z ⊎ (HasNoFact old k
            × (IsOneOf (fresh ++ a.target.n ∷ []) k × IsMarkedBy p (take i xs ++ get_or xs i 0 ∷ []) round k z)) in
            let here : P a.target.n m = inr (was_open, (pushed_last fresh a.target.n, marked_now)) in
            subst (λ k. P k x) (sym e.0) (subst (λ (z : Mark). P a.target.n z) e.1 here))
        | inr q ↦ (elim (d.only n x q.1) [
          | inl k ↦ inl k
          | inr k ↦ inr (k.0, (pushed_old fresh a.target.n n k.1.0, marked_more n x k.1.1))
        ])
      ]

      still_open : (n : ℕ) → HasNoFact new n → (n ≡ a.target.n → ⊥) × HasNoFact marks n
      still_open n u = elim (set_back marks a.target.n n m u.mark u.stands) [
        | inl e ↦ (let j : is_fact m ≡ false = subst (λ (z : Mark). is_fact z ≡ false) (sym e.1) u.is in absurd (cc j))
        | inr q ↦ (q.0, record { mark = u.mark; stands = q.1; is = u.is })
      ]

      pub marks_taken : MarksAll p (take (i + 1) xs) round old new (fresh ++ a.target.n ∷ [])
      marks_taken = subst (λ (z : List ℕ). MarksAll p z round old new (fresh ++ a.target.n ∷ [])) (sym more) (record {
        long = length-set marks a.target.n m ∙ d.long;
        kept = λ n x s j. set_other marks a.target.n n m x
            (λ e. open_not o (subst (λ z. Stands marks z x) e (d.kept n x s j)) j) (d.kept n x s j);
        only = new_only;
        all = λ k n q u w. let r = still_open n w in elim (pushed_cases (take i xs) (get_or xs i 0) k q) [
          | inl z ↦ d.all k n z u r.1
          | inr e ↦ r.0 (is_target n (subst (λ z. IsTo p z n) (sym e) u))
        ];
      })

  pub marks_done : (xs : List ℕ) (i : ℕ) (marks : List Mark) (fresh : List ℕ) → length xs ≤ i
      → MarksAll p (take i xs) round old marks fresh
      → MarksAll p xs round old marks fresh
  marks_done xs i marks fresh l h = subst (λ (z : List ℕ). MarksAll p z round old marks fresh) (take_all i xs l) h
