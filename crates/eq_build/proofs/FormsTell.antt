-- What is built for each form of expression tells of what it yields.
use Rattle.std.proofs.Common.{◌≡◌, ℕ, ℤ, ◌⊎◌, inl, inr, Bool, true, false, not, List, [], ◌∷◌, map, fold, length, Box, Vec, Global, refl, sym, ap, ◌∙◌, subst}
use Rattle.ar_base.specs.Lists.{IsOneOf}
use Rattle.ar_base.proofs.Standing.{one_cases, one_first, one_rest, one_none, one_left, one_right, one_split}
use Rattle.domains.specs.declared.Value.{Value}
use Rattle.domains.specs.declared.Value.TheVariants.{Truth, Whole}
use Rattle.domains.specs.Values.{truth_of, whole_of}
use Rattle.typed_expr.specs.Values.{added}
use Rattle.typed_expr.specs.Yields.{Level, Yields, Some_yields, All_yield, Picks, Picks_parts, Takes}
use Rattle.typed_expr.specs.Yields as y
use Rattle.typed_expr.specs.declared.expr.Expr.{Expr, out-Expr}
use Rattle.typed_expr.specs.declared.expr.Expr.TheOpen.{Not, All, Any}
use Rattle.eq_core.specs.Gates.{Operand, Always, Gate}
use Rattle.eq_core.specs.Ordered.{AreBelow}
use Rattle.eq_core.specs.Values.{value_at}
use Rattle.eq_core.specs.ValuesInside.{IsBelow, IsTrueWhere, GainsGates, EachTrue}
use Rattle.eq_core.proofs.Telling.{grows_self, grows_on, tells_always}
use Rattle.eq_build.specs.Entries.{Entry, Term, operand_for, entries_for, pair_term, pairs_of, result_of, combined, folded, with_step, with_signs, only, opposite_term, opposite_terms, each_for, joint_terms, case_terms, chosen}
use Rattle.eq_build.specs.Tells.{AreEntries, IsBuilt}
use Rattle.eq_build.specs.declared.steps.Step.{Step}
use Rattle.eq_build.specs.declared.steps.Step.TheVariants.{Part}
use Rattle.eq_build.proofs.EntriesTell.{entries_kept, entries_as, entry_tells, SomeTerm, terms_tell}

module _ {A B : Type 0} (f : A → B) where
  -- an image of one is one of the images
  one_map : (xs : List A) (x : A) → IsOneOf xs x → IsOneOf (map f xs) (f x)
  one_map [] x m = absurd (one_none x m)
  one_map (z ∷ xs) x m = elim (one_cases z xs x m) [
    | inl e ↦ subst (λ w. IsOneOf (map f (z ∷ xs)) (f w)) e (one_first (f z) (map f xs))
    | inr n ↦ one_rest (f z) (map f xs) (f x) (one_map xs x n)
  ]

  -- one of the images is an image of one
  pub map_one : (xs : List A) (w : B) → IsOneOf (map f xs) w → (x : A) × IsOneOf xs x × (f x ≡ w)
  map_one [] w m = absurd (one_none w m)
  map_one (z ∷ xs) w m = elim (one_cases (f z) (map f xs) w m) [
    | inl e ↦ (z, one_first z xs, e)
    | inr n ↦ let r = map_one xs w n in (r.0, one_rest z xs r.0 r.1, r.2)
  ]

pub one_below : (n : ℕ) (o : Operand) → IsBelow n o → AreBelow n (o ∷ [])
one_below n o a = record {
  each = λ q m. elim (one_cases o [] q m) [
    | inl e ↦ subst (λ z. IsBelow n z) e a
    | inr k ↦ absurd (one_none q k)
  ];
}

pub two_below : (n : ℕ) (o p : Operand) → IsBelow n o → IsBelow n p → AreBelow n (o ∷ p ∷ [])
two_below n o p a c = record {
  each = λ q m. elim (one_cases o (p ∷ []) q m) [
    | inl e ↦ subst (λ z. IsBelow n z) e a
    | inr k ↦ elim (one_cases p [] q k) [ inl e ↦ subst (λ z. IsBelow n z) e c | inr l ↦ absurd (one_none q l) ]
  ];
}

module _ {set : List ℕ} {g : List Gate} where
  -- one operand alone
  one_true : (o : Operand) → value_at g o set ≡ true → EachTrue set g (o ∷ [])
  one_true o h = record {
    each = λ q m. elim (one_cases o [] q m) [
      | inl e ↦ subst (λ z. value_at g z set ≡ true) e h
      | inr k ↦ absurd (one_none q k)
    ];
  }

  one_holds : (o : Operand) → EachTrue set g (o ∷ []) → value_at g o set ≡ true
  one_holds o t = t.each o (one_first o [])

  -- two operands, each of them true
  two_true : {o p : Operand} {P Q : Type 0} → IsTrueWhere set g o P → IsTrueWhere set g p Q → P → Q
      → EachTrue set g (o ∷ p ∷ [])
  two_true {o = o} {p = p} a c h k = record {
    each = λ q m. elim (one_cases o (p ∷ []) q m) [
      | inl e ↦ subst (λ z. value_at g z set ≡ true) e (a.so_true h)
      | inr l ↦ elim (one_cases p [] q l) [
        | inl e ↦ subst (λ z. value_at g z set ≡ true) e (c.so_true k)
        | inr r ↦ absurd (one_none q r)
      ]
    ];
  }

  two_hold : {o p : Operand} {P Q : Type 0} → IsTrueWhere set g o P → IsTrueWhere set g p Q
      → EachTrue set g (o ∷ p ∷ []) → P × Q
  two_hold {o = o} {p = p} a c t =
      (a.true_so (t.each o (one_first o (p ∷ []))), c.true_so (t.each p (one_rest o (p ∷ []) p (one_first p []))))

-- a pair of entries
pub record IsPair (step : Step) (xs ys : List Entry) (t : Term) : Type 0 where
  pub left : Entry
  pub right : Entry
  pub in_left : IsOneOf xs left
  pub in_right : IsOneOf ys right
  pub is : pair_term step left right ≡ t

pub pair_of : (step : Step) (xs ys : List Entry) (t : Term) → IsOneOf (pairs_of step xs ys) t → IsPair step xs ys t
pair_of step [] ys t m = absurd (one_none t m)
pair_of step (a ∷ xs) ys t m = elim (one_split (map (pair_term step a) ys) (pairs_of step xs ys) t m) [
  | inl n ↦ let r = map_one (pair_term step a) ys t n in
      record { left = a; right = r.0; in_left = one_first a xs; in_right = r.1; is = r.2 }
  | inr n ↦ let r = pair_of step xs ys t n in
      record {
        left = r.left;
        right = r.right;
        in_left = one_rest a xs r.left r.in_left;
        in_right = r.in_right;
        is =
            r.is;
      }
]

of_pair : (step : Step) (xs ys : List Entry) (a c : Entry) → IsOneOf xs a → IsOneOf ys c
    → IsOneOf (pairs_of step xs ys) (pair_term step a c)
of_pair step [] ys a c m n = absurd (one_none a m)
of_pair step (x ∷ xs) ys a c m n =
    let front = map (pair_term step x) ys in
    let rest = pairs_of step xs ys in
    elim (one_cases x xs a m) [
      | inl e ↦ one_left front rest (pair_term step a c)
          (subst (λ (z : Entry). IsOneOf front (pair_term step z c)) e (one_map (pair_term step x) ys c n))
      | inr k ↦ one_right front rest (pair_term step a c) (of_pair step xs ys a c k n)
    ]

-- some value with P and some with Q make d
pub record FromTwo (step : Step) (P Q : Value → Type 0) (d : Value) : Type 0 where
  pub left : Value
  pub right : Value
  pub has_left : P left
  pub has_right : Q right
  pub gives : result_of step left right ≡ d

pub combined_built : (set : List ℕ) (step : Step) (g : List Gate) (xs ys : List Entry) (P Q : Value → Type 0)
    → AreEntries set g xs P → AreEntries set g ys Q → IsBuilt set g (combined step g xs ys) (FromTwo step P Q)
combined_built set step g xs ys P Q a c = terms_tell set g (pairs_of step xs ys) (FromTwo step P Q)
    (λ t m.
    let r = pair_of step xs ys t m in
    let u = a.tells r.left r.in_left in
    let w = c.tells r.right r.in_right in
    subst (λ (z : Term). AreBelow (length g) z.operands) r.is
    (two_below (length g) r.left.operand r.right.operand u.below w.below))
    (λ t m h.
    let r = pair_of step xs ys t m in
    let k = two_hold (a.tells r.left r.in_left) (c.tells r.right r.in_right)
    (subst (λ (z : Term). EachTrue set g z.operands) (sym r.is) h) in
    record {
      left = r.left.value;
      right = r.right.value;
      has_left = k.0;
      has_right = k.1;
      gives = ap (λ (z : Term). z.value) r.is;
    })
    (λ d h.
    let l = a.whole h.left h.has_left in
    let r = c.whole h.right h.has_right in
    record {
      term = pair_term step l.0 r.0;
      is_one = of_pair step xs ys l.0 r.0 l.1 r.1;
      value = ap (λ z. result_of step z r.0.value) l.2 ∙ ap (result_of step h.left) r.2 ∙ h.gives;
      each = two_true (a.tells l.0 l.1) (c.tells r.0 r.1) (subst P (sym l.2) h.has_left)
          (subst Q (sym r.2) h.has_right);
    })

-- an entry Always for a value tells that it is this one
pub only_tells : (set : List ℕ) (g : List Gate) (v : Value) → AreEntries set g (only v) (λ d. v ≡ d)
only_tells set g v = record {
  tells = λ e o. at e (one_cases (record { value = v; operand = Always }) [] e o);
  whole = λ d i. (record { value = v; operand = Always }, one_first (record { value = v; operand = Always }) [], i);
}
  where
    at : (e : Entry) → (record { value = v; operand = Always } ≡ e) ⊎ IsOneOf [] e
        → IsTrueWhere set g e.operand (v ≡ e.value)
    at e (inl i) = subst (λ (z : Entry). IsTrueWhere set g z.operand (v ≡ z.value)) i (tells_always refl)
    at e (inr o) = absurd (one_none e o)

-- steps from a value on
abbrev pub fold_on : Value → List (Step × Value) → Value
fold_on a [] = a
fold_on a (p ∷ ps) = fold_on (result_of p.0 a p.1) ps

module _ {V : Type 0} (facts : V → Value → Type 0) (set : List ℕ) where
  -- each operand's entries tell of what it yields
  pub data EachTells (g : List Gate) : List (Expr V) → List (List Entry) → Type 0 where
    none : EachTells g [] []
    one_and : {e : Expr V} {es : List (Expr V)} {xs : List Entry} {ess : List (List Entry)}
        → AreEntries set g xs (Yields facts (out-Expr V e)) → EachTells g es ess → EachTells g (e ∷ es) (xs ∷ ess)

  -- the same for the parts of a sum
  pub data PartsTell (g : List Gate) : List (Bool × Expr V) → List (Bool × List Entry) → Type 0 where
    none : PartsTell g [] []
    part_and : {plus : Bool} {e : Expr V} {ps : List (Bool × Expr V)} {xs : List Entry} {ess : List (Bool × List Entry)}
        → AreEntries set g xs (Yields facts (out-Expr V e)) → PartsTell g ps ess
        → PartsTell g ((plus, e) ∷ ps) ((plus, xs) ∷ ess)

  -- the same for the cases of a choice
  pub data CasesTell (g : List Gate) : List (Expr V × Expr V) → List (List Entry × List Entry) → Type 0 where
    none : CasesTell g [] []
    case_and : {test value : Expr V} {cs : List (Expr V × Expr V)} {xs ys : List Entry}
        {ess : List (List Entry × List Entry)} → AreEntries set g xs (Yields facts (out-Expr V test))
        → AreEntries set g ys (Yields facts (out-Expr V value)) → CasesTell g cs ess
        → CasesTell g ((test, value) ∷ cs) ((xs, ys) ∷ ess)

  -- the same for operands with steps
  pub data StepsTell (g : List Gate) : List (Step × Expr V) → List (Step × List Entry) → Type 0 where
    none : StepsTell g [] []
    step_and : {step : Step} {e : Expr V} {ps : List (Step × Expr V)} {xs : List Entry} {ess : List (Step × List Entry)}
        → AreEntries set g xs (Yields facts (out-Expr V e)) → StepsTell g ps ess
        → StepsTell g ((step, e) ∷ ps) ((step, xs) ∷ ess)

  pub cases_kept : {g h : List Gate} {cs : List (Expr V × Expr V)} {ess : List (List Entry × List Entry)} → GainsGates g h
      → CasesTell g cs ess → CasesTell h cs ess
  cases_kept w none = none
  cases_kept w (case_and a c t) = case_and (entries_kept w a) (entries_kept w c) (cases_kept w t)

  steps_kept : {g h : List Gate} {ps : List (Step × Expr V)} {ess : List (Step × List Entry)} → GainsGates g h
      → StepsTell g ps ess → StepsTell h ps ess
  steps_kept w none = none
  steps_kept w (step_and a t) = step_and (entries_kept w a) (steps_kept w t)

  -- one yielded value for each operand
  pub data PicksSteps : List (Step × Expr V) → List (Step × Value) → Type 0 where
    no_step : PicksSteps [] []
    step : {s : Step} {e : Expr V} {ps : List (Step × Expr V)} {v : Value} {vs : List (Step × Value)}
        → Yields facts (out-Expr V e) v → PicksSteps ps vs → PicksSteps ((s, e) ∷ ps) ((s, v) ∷ vs)

  -- from some value with P, steps over one choice of yielded values lead to d
  pub record FoldsTo (P : Value → Type 0) (ps : List (Step × Expr V)) (d : Value) : Type 0 where
    pub start : Value
    pub has : P start
    pub values : List (Step × Value)
    pub picks : PicksSteps ps values
    pub is : fold_on start values ≡ d

  folds_first : (P : Value → Type 0) (s : Step) (e : Expr V) (ps : List (Step × Expr V)) (d : Value)
      → FoldsTo (FromTwo s P (Yields facts (out-Expr V e))) ps d → FoldsTo P ((s, e) ∷ ps) d
  folds_first P s e ps d h =
      let k = h.has in
      record {
        start = k.left;
        has = k.has_left;
        values = (s, k.right) ∷ h.values;
        picks = step k.has_right h.picks;
        is = ap (λ z. fold_on z h.values) k.gives ∙ h.is;
      }

  first_folds : (P : Value → Type 0) (s : Step) (e : Expr V) (ps : List (Step × Expr V)) (d : Value)
      → FoldsTo P ((s, e) ∷ ps) d → FoldsTo (FromTwo s P (Yields facts (out-Expr V e))) ps d
  first_folds P s e ps d h = go h.values h.picks h.is
    where
      go : (vs : List (Step × Value)) → PicksSteps ((s, e) ∷ ps) vs → fold_on h.start vs ≡ d
          → FoldsTo (FromTwo s P (Yields facts (out-Expr V e))) ps d
      go vs (step {v = v} {vs = ws} a c) i = record {
        start = result_of s h.start v;
        has = record { left = h.start; right = v; has_left = h.has; has_right = a; gives = refl };
        values = ws;
        picks = c;
        is = i;
      }

  no_steps : (P : Value → Type 0) (d : Value) → FoldsTo P [] d → P d
  no_steps P d h = go h.values h.picks h.is
    where
      go : (vs : List (Step × Value)) → PicksSteps [] vs → fold_on h.start vs ≡ d → P d
      go vs no_step i = subst P i h.has

  -- by recursion on the entries, since what is told moves on to more gates at each step
  pub folded_built : (g : List Gate) (xs : List Entry) (P : Value → Type 0) (ps : List (Step × Expr V))
      (ess : List (Step × List Entry)) → AreEntries set g xs P → StepsTell g ps ess
      → IsBuilt set g (folded g xs ess) (FoldsTo P ps)
  folded_built g xs P [] [] a none = record {
    grown = grows_self g;
    entries = entries_as (λ d p. record { start = d; has = p; values = []; picks = no_step; is = refl }) (no_steps P) a;
  }
  folded_built g xs P [] (q ∷ ess) a t = elim t [ ]
  folded_built g xs P (p ∷ ps) [] a t = elim t [ ]
  folded_built g xs P (p ∷ ps) (q ∷ ess) a (step_and {step = s} {e = e} {xs = ys} c t) =
      let m = combined_built set s g xs ys P (Yields facts (out-Expr V e)) a c in
      let r = combined s g xs ys in
      let w = folded_built r.gates r.entries (FromTwo s P (Yields facts (out-Expr V e))) ps ess m.entries
      (steps_kept m.grown t) in
      record {
        grown = grows_on m.grown w.grown;
        entries = entries_as (folds_first P s e ps) (first_folds P s e ps) w.entries;
      }

  -- the parts of a sum as operands with steps
  abbrev signed : List (Bool × Expr V) → List (Step × Expr V)
  signed ps = map (λ p. (Part p.0, p.1)) ps

  abbrev signed_values : List (Bool × Value) → List (Step × Value)
  signed_values vs = map (λ p. (Part p.0, p.1)) vs

  signed_tell : {g : List Gate} {ps : List (Bool × Expr V)} {ess : List (Bool × List Entry)} → PartsTell g ps ess
      → StepsTell g (signed ps) (with_signs ess)
  signed_tell none = none
  signed_tell (part_and a t) = step_and a (signed_tell t)

  picks_signed : {ps : List (Bool × Expr V)} {vs : List (Bool × Value)} → Picks_parts facts ps vs
      → PicksSteps (signed ps) (signed_values vs)
  picks_signed y.no_part = no_step
  picks_signed (y.part d ds) = step d (picks_signed ds)

  signed_picks : (ps : List (Bool × Expr V)) {qs : List (Step × Value)} → PicksSteps (signed ps) qs
      → (vs : List (Bool × Value)) × Picks_parts facts ps vs × (qs ≡ signed_values vs)
  signed_picks [] no_step = ([], y.no_part, refl)
  signed_picks (p ∷ ps) (step {v = v} d ds) =
      let r = signed_picks ps ds in ((p.0, v) ∷ r.0, y.part d r.1, ap (λ z. (Part p.0, v) ∷ z) r.2)

  sum_folds : (n : ℤ) (vs : List (Bool × Value)) → fold_on (Whole n) (signed_values vs) ≡ Whole (fold added n vs)
  sum_folds n [] = refl
  sum_folds n (p ∷ vs) = sum_folds (added n p) vs

  -- a sum from a number on
  pub record SumsTo (n : ℤ) (ps : List (Bool × Expr V)) (d : Value) : Type 0 where
    pub values : List (Bool × Value)
    pub picks : Picks_parts facts ps values
    pub is : Whole (fold added n values) ≡ d

  pub summed_built : (n : ℤ) (g : List Gate) {ps : List (Bool × Expr V)} {ess : List (Bool × List Entry)}
      → PartsTell g ps ess → IsBuilt set g (folded g (only (Whole n)) (with_signs ess)) (SumsTo n ps)
  summed_built n g {ps = ps} {ess = ess} t =
      let m = folded_built g (only (Whole n)) (λ d. Whole n ≡ d) (signed ps) (with_signs ess)
      (only_tells set g (Whole n)) (signed_tell t) in
      record { grown = m.grown; entries = entries_as to from m.entries }
    where
      to : (d : Value) → FoldsTo (λ d. Whole n ≡ d) (signed ps) d → SumsTo n ps d
      to d h =
          let r = signed_picks ps h.picks in
          record {
            values = r.0;
            picks = r.1;
            is = sym (sum_folds n r.0) ∙ ap (λ z. fold_on (Whole n) z) (sym r.2)
                ∙ ap (λ z. fold_on z h.values) h.has ∙ h.is;
          }

      from : (d : Value) → SumsTo n ps d → FoldsTo (λ d. Whole n ≡ d) (signed ps) d
      from d h = record {
        start = Whole n;
        has = refl;
        values = signed_values h.values;
        picks = picks_signed h.picks;
        is = sum_folds n h.values ∙ h.is;
      }

  -- operands by the same step
  abbrev stepped : Step → List (Expr V) → List (Step × Expr V)
  stepped s es = map (λ e. (s, e)) es

  abbrev stepped_values : Step → List Value → List (Step × Value)
  stepped_values s vs = map (λ v. (s, v)) vs

  stepped_tell : (s : Step) {g : List Gate} {es : List (Expr V)} {ess : List (List Entry)} → EachTells g es ess
      → StepsTell g (stepped s es) (with_step s ess)
  stepped_tell s none = none
  stepped_tell s (one_and a t) = step_and a (stepped_tell s t)

  picks_stepped : (s : Step) {es : List (Expr V)} {vs : List Value} → Picks facts es vs
      → PicksSteps (stepped s es) (stepped_values s vs)
  picks_stepped s y.no_operand = no_step
  picks_stepped s (y.operand d ds) = step d (picks_stepped s ds)

  stepped_picks : (s : Step) (es : List (Expr V)) {qs : List (Step × Value)} → PicksSteps (stepped s es) qs
      → (vs : List Value) × Picks facts es vs × (qs ≡ stepped_values s vs)
  stepped_picks s [] no_step = ([], y.no_operand, refl)
  stepped_picks s (e ∷ es) (step {v = v} d ds) =
      let r = stepped_picks s es ds in (v ∷ r.0, y.operand d r.1, ap (λ z. (s, v) ∷ z) r.2)

  -- the step makes a number of a number
  abbrev pub IsBy : Step → (ℤ → Value → ℤ) → Type 0
  IsBy s f = (v w : Value) → result_of s v w ≡ Whole (f (whole_of v) w)

  number_folds : (s : Step) (f : ℤ → Value → ℤ) → IsBy s f → (n : ℤ) (vs : List Value)
      → fold_on (Whole n) (stepped_values s vs) ≡ Whole (fold f n vs)
  number_folds s f by n [] = refl
  number_folds s f by n (v ∷ vs) =
      ap (λ z. fold_on z (stepped_values s vs)) (by (Whole n) v) ∙ number_folds s f by (f n v) vs

  -- such a fold from the number of a value with P
  pub record LeadsTo (f : ℤ → Value → ℤ) (P : Value → Type 0) (es : List (Expr V)) (d : Value) : Type 0 where
    pub first : Value
    pub has : P first
    pub values : List Value
    pub picks : Picks facts es values
    pub is : Whole (fold f (whole_of first) values) ≡ d

  pub led_built : (s : Step) (f : ℤ → Value → ℤ) → IsBy s f → (P : Value → Type 0)
      → ((d : Value) → P d → Whole (whole_of d) ≡ d) → (g : List Gate) (xs : List Entry) → AreEntries set g xs P
      → (es : List (Expr V)) (ess : List (List Entry)) → EachTells g es ess
      → IsBuilt set g (folded g xs (with_step s ess)) (LeadsTo f P es)
  led_built s f by P whole g xs a es ess t =
      let m = folded_built g xs P (stepped s es) (with_step s ess) a (stepped_tell s t) in
      record { grown = m.grown; entries = entries_as to from m.entries }
    where
      to : (d : Value) → FoldsTo P (stepped s es) d → LeadsTo f P es d
      to d h =
          let r = stepped_picks s es h.picks in
          record {
            first = h.start;
            has = h.has;
            values = r.0;
            picks = r.1;
            is = sym (number_folds s f by (whole_of h.start) r.0)
                ∙ ap (λ z. fold_on (Whole (whole_of h.start)) z) (sym r.2)
                ∙ ap (λ z. fold_on z h.values) (whole h.start h.has) ∙ h.is;
          }

      from : (d : Value) → LeadsTo f P es d → FoldsTo P (stepped s es) d
      from d h = record {
        start = h.first;
        has = h.has;
        values = stepped_values s h.values;
        picks = picks_stepped s h.picks;
        is = ap (λ z. fold_on z (stepped_values s h.values)) (sym (whole h.first h.has))
            ∙ number_folds s f by (whole_of h.first) h.values ∙ h.is;
      }

  -- a negation's entries, where its operand yields truth values alone
  pub turned_built : (g : List Gate) (es : List Entry) (a : Box (Expr V) Global)
      → ((d : Value) → Yields facts (out-Expr V a.value) d → Truth (truth_of d) ≡ d)
      → AreEntries set g es (Yields facts (out-Expr V a.value))
      → IsBuilt set g (entries_for g (opposite_terms es)) (Yields facts (Not a))
  turned_built g es a truth t = terms_tell set g (opposite_terms es) (Yields facts (Not a))
      (λ u m.
      let r = map_one opposite_term es u m in
      let k = t.tells r.0 r.1 in
      subst (λ (z : Term). AreBelow (length g) z.operands) r.2 (one_below (length g) r.0.operand k.below))
      (λ u m h.
      let r = map_one opposite_term es u m in
      let k = t.tells r.0 r.1 in
      let held = k.true_so (one_holds r.0.operand (subst (λ (z : Term). EachTrue set g z.operands) (sym r.2) h)) in
      subst (λ (z : Term). Yields facts (Not a) z.value) r.2
      (y.opposite (subst (λ z. Yields facts (out-Expr V a.value) z) (sym (truth r.0.value held)) held)))
      from
    where
      from : (d : Value) → Yields facts (Not a) d → SomeTerm set g (opposite_terms es) d
      from d (y.opposite {b = c} h) =
          let r = t.whole (Truth c) h in
          let k = t.tells r.0 r.1 in
          record {
            term = opposite_term r.0;
            is_one = one_map opposite_term es r.0 r.1;
            value = ap (λ z. Truth (not (truth_of z))) r.2;
            each = one_true r.0.operand
                (k.so_true (subst (λ z. Yields facts (out-Expr V a.value) z) (sym r.2) h));
          }

  -- the operands of each operand for the value
  each_below : {g : List Gate} (d : Value) {es : List (Expr V)} {ess : List (List Entry)} → EachTells g es ess
      → (o : Operand) → IsOneOf (each_for d ess) o → IsBelow (length g) o
  each_below d none o m = absurd (one_none o m)
  each_below {g = g} d (one_and {xs = xs} {ess = ess} a t) o m =
      elim (one_cases (operand_for xs d) (each_for d ess) o m) [
        | inl e ↦ subst (λ z. IsBelow (length g) z) e (let k = entry_tells a d in k.below)
        | inr k ↦ each_below d t o k
      ]

  some_true : {g : List Gate} (d : Value) {es : List (Expr V)} {ess : List (List Entry)} → EachTells g es ess
      → (o : Operand) → IsOneOf (each_for d ess) o → value_at g o set ≡ true → Some_yields facts es d
  some_true d none o m h = absurd (one_none o m)
  some_true {g = g} d (one_and {xs = xs} {ess = ess} a t) o m h =
      elim (one_cases (operand_for xs d) (each_for d ess) o m) [
        | inl e ↦ y.here (let k = entry_tells a d in k.true_so (subst (λ z. value_at g z set ≡ true) (sym e) h))
        | inr k ↦ y.later (some_true d t o k h)
      ]

  true_some : {g : List Gate} (d : Value) {es : List (Expr V)} {ess : List (List Entry)} → EachTells g es ess
      → Some_yields facts es d → (o : Operand) × IsOneOf (each_for d ess) o × (value_at g o set ≡ true)
  true_some d none h = elim h [ ]
  true_some d (one_and {xs = xs} {ess = ess} a t) (y.here h) =
      let k = entry_tells a d in (operand_for xs d, one_first (operand_for xs d) (each_for d ess), k.so_true h)
  true_some d (one_and {xs = xs} {ess = ess} a t) (y.later h) =
      let r = true_some d t h in (r.0, one_rest (operand_for xs d) (each_for d ess) r.0 r.1, r.2)

  every_true : {g : List Gate} (d : Value) {es : List (Expr V)} {ess : List (List Entry)} → EachTells g es ess
      → EachTrue set g (each_for d ess) → All_yield facts es d
  every_true d none h = y.none
  every_true d (one_and {xs = xs} {ess = ess} a t) h =
      y.one_and
      (let k = entry_tells a d in k.true_so (h.each (operand_for xs d) (one_first (operand_for xs d) (each_for d ess))))
      (every_true d t (record { each = λ o m. h.each o (one_rest (operand_for xs d) (each_for d ess) o m) }))

  true_every : {g : List Gate} (d : Value) {es : List (Expr V)} {ess : List (List Entry)} → EachTells g es ess
      → All_yield facts es d → (o : Operand) → IsOneOf (each_for d ess) o → value_at g o set ≡ true
  true_every d none y.none o m = absurd (one_none o m)
  true_every {g = g} d (one_and {xs = xs} {ess = ess} a t) (y.one_and h hs) o m =
      elim (one_cases (operand_for xs d) (each_for d ess) o m) [
        | inl e ↦ subst (λ z. value_at g z set ≡ true) e (let k = entry_tells a d in k.so_true h)
        | inr k ↦ true_every d t hs o k
      ]

  -- a conjunction and a disjunction: the terms of one operand are for c, that of all operands is for b
  joint_built : (g : List Gate) (both : Bool) (es : List (Expr V)) (ess : List (List Entry)) (P : Value → Type 0)
      → EachTells g es ess → (Some_yields facts es (Truth (not both)) → P (Truth (not both)))
      → (All_yield facts es (Truth both) → P (Truth both))
      → ((d : Value) → P d → ((d ≡ Truth (not both)) × Some_yields facts es (Truth (not both)))
      ⊎ ((d ≡ Truth both) × All_yield facts es (Truth both)))
      → IsBuilt set g (entries_for g (joint_terms both ess)) P
  joint_built g both es ess P t some all cases = terms_tell set g (joint_terms both ess) P below to from
    where
      of_term : (u : Term) → IsOneOf (joint_terms both ess) u
          → ((o : Operand) × IsOneOf (each_for (Truth (not both)) ess) o
          × (record { value = Truth (not both); operands = o ∷ [] } ≡ u))
          ⊎ (record { value = Truth both; operands = each_for (Truth both) ess } ≡ u)
      of_term u m =
          let f : Operand → Term = λ o. record { value = Truth (not both); operands = o ∷ [] } in
          let whole : Term = record { value = Truth both; operands = each_for (Truth both) ess } in
          elim (one_split (map f (each_for (Truth (not both)) ess)) (whole ∷ []) u m) [
            | inl n ↦ inl (map_one f (each_for (Truth (not both)) ess) u n)
            | inr n ↦ elim (one_cases whole [] u n) [ inl e ↦ inr e | inr k ↦ absurd (one_none u k) ]
          ]

      below : (u : Term) → IsOneOf (joint_terms both ess) u → AreBelow (length g) u.operands
      below u m = elim (of_term u m) [
        | inl r ↦ subst (λ (z : Term). AreBelow (length g) z.operands) r.2
            (one_below (length g) r.0 (each_below (Truth (not both)) t r.0 r.1))
        | inr e ↦ subst (λ (z : Term). AreBelow (length g) z.operands) e
            (record { each = λ o n. each_below (Truth both) t o n })
      ]

      to : (u : Term) → IsOneOf (joint_terms both ess) u → EachTrue set g u.operands → P u.value
      to u m h = elim (of_term u m) [
        | inl r ↦ subst (λ (z : Term). P z.value) r.2
            (some (some_true (Truth (not both)) t r.0 r.1
            (one_holds r.0 (subst (λ (z : Term). EachTrue set g z.operands) (sym r.2) h))))
        | inr e ↦ subst (λ (z : Term). P z.value) e
            (all (every_true (Truth both) t (subst (λ (z : Term). EachTrue set g z.operands) (sym e) h)))
      ]

      from : (d : Value) → P d → SomeTerm set g (joint_terms both ess) d
      from d p =
          let f : Operand → Term = λ o. record { value = Truth (not both); operands = o ∷ [] } in
          let whole : Term = record { value = Truth both; operands = each_for (Truth both) ess } in
          let front = map f (each_for (Truth (not both)) ess) in
          elim (cases d p) [
            | inl h ↦ let r = true_some (Truth (not both)) t h.1 in record {
              term = f r.0;
              is_one = one_left front (whole ∷ []) (f r.0) (one_map f (each_for (Truth (not both)) ess) r.0 r.1);
              value = sym h.0;
              each = one_true r.0 r.2;
            }
            | inr h ↦ record {
              term = whole;
              is_one = one_right front (whole ∷ []) whole (one_first whole []);
              value = sym h.0;
              each = record { each = true_every (Truth both) t h.1 };
            }
          ]

  pub all_built : (g : List Gate) (es : Vec (Expr V) Global) (ess : List (List Entry)) → EachTells g es.items ess
      → IsBuilt set g (entries_for g (joint_terms true ess)) (Yields facts (All es))
  all_built g es ess t =
      joint_built g true es.items ess (Yields facts (All es)) t (λ h. y.one_false h) (λ h. y.all_true h) cases
    where
      cases : (d : Value) → Yields facts (All es) d → ((d ≡ Truth false) × Some_yields facts es.items (Truth false))
          ⊎ ((d ≡ Truth true) × All_yield facts es.items (Truth true))
      cases d (y.one_false h) = inl (refl, h)
      cases d (y.all_true h) = inr (refl, h)

  pub any_built : (g : List Gate) (es : Vec (Expr V) Global) (ess : List (List Entry)) → EachTells g es.items ess
      → IsBuilt set g (entries_for g (joint_terms false ess)) (Yields facts (Any es))
  any_built g es ess t =
      joint_built g false es.items ess (Yields facts (Any es)) t (λ h. y.one_true h) (λ h. y.all_false h) cases
    where
      cases : (d : Value) → Yields facts (Any es) d → ((d ≡ Truth true) × Some_yields facts es.items (Truth true))
          ⊎ ((d ≡ Truth false) × All_yield facts es.items (Truth false))
      cases d (y.one_true h) = inl (refl, h)
      cases d (y.all_false h) = inr (refl, h)

  -- a case's test and value, or its test and the rest
  pub data ByCase (T P Q : Value → Type 0) (d : Value) : Type 0 where
    taken : T (Truth true) → P d → ByCase T P Q d
    passed : T (Truth false) → Q d → ByCase T P Q d

  case_built : (g : List Gate) (xs ys zs : List Entry) (T P Q : Value → Type 0) → AreEntries set g xs T
      → AreEntries set g ys P → AreEntries set g zs Q
      → IsBuilt set g (entries_for g (case_terms xs ys zs)) (ByCase T P Q)
  case_built g xs ys zs T P Q a p q = terms_tell set g (case_terms xs ys zs) (ByCase T P Q) below to from
    where
      of_term : (u : Term) → IsOneOf (case_terms xs ys zs) u
          → ((e : Entry) × IsOneOf ys e
          × (record { value = e.value; operands = operand_for xs (Truth true) ∷ e.operand ∷ [] } ≡ u))
          ⊎ ((e : Entry) × IsOneOf zs e
          × (record { value = e.value; operands = operand_for xs (Truth false) ∷ e.operand ∷ [] } ≡ u))
      of_term u m =
          let f : Bool → Entry → Term = λ c e. record {
            value = e.value;
            operands = operand_for xs (Truth c) ∷ e.operand ∷ [];
          } in
          elim (one_split (map (f true) ys) (map (f false) zs) u m) [
            | inl n ↦ inl (map_one (f true) ys u n)
            | inr n ↦ inr (map_one (f false) zs u n)
          ]

      below : (u : Term) → IsOneOf (case_terms xs ys zs) u → AreBelow (length g) u.operands
      below u m = elim (of_term u m) [
        | inl r ↦ let k = entry_tells a (Truth true) in let l = p.tells r.0 r.1 in
            subst (λ (z : Term). AreBelow (length g) z.operands) r.2
            (two_below (length g) (operand_for xs (Truth true)) r.0.operand k.below l.below)
        | inr r ↦ let k = entry_tells a (Truth false) in let l = q.tells r.0 r.1 in
            subst (λ (z : Term). AreBelow (length g) z.operands) r.2
            (two_below (length g) (operand_for xs (Truth false)) r.0.operand k.below l.below)
      ]

      to : (u : Term) → IsOneOf (case_terms xs ys zs) u → EachTrue set g u.operands → ByCase T P Q u.value
      to u m h = elim (of_term u m) [
        | inl r ↦
            let k = two_hold (entry_tells a (Truth true)) (p.tells r.0 r.1)
            (subst (λ (z : Term). EachTrue set g z.operands) (sym r.2) h) in
            subst (λ (z : Term). ByCase T P Q z.value) r.2 (taken k.0 k.1)
        | inr r ↦
            let k = two_hold (entry_tells a (Truth false)) (q.tells r.0 r.1)
            (subst (λ (z : Term). EachTrue set g z.operands) (sym r.2) h) in
            subst (λ (z : Term). ByCase T P Q z.value) r.2 (passed k.0 k.1)
      ]

      from : (d : Value) → ByCase T P Q d → SomeTerm set g (case_terms xs ys zs) d
      from d (taken h k) =
          let f : Bool → Entry → Term = λ c e. record {
            value = e.value;
            operands = operand_for xs (Truth c) ∷ e.operand ∷ [];
          } in
          let r = p.whole d k in
          record {
            term = f true r.0;
            is_one = one_left (map (f true) ys) (map (f false) zs) (f true r.0) (one_map (f true) ys r.0 r.1);
            value = r.2;
            each = two_true (entry_tells a (Truth true)) (p.tells r.0 r.1) h (subst P (sym r.2) k);
          }
      from d (passed h k) =
          let f : Bool → Entry → Term = λ c e. record {
            value = e.value;
            operands = operand_for xs (Truth c) ∷ e.operand ∷ [];
          } in
          let r = q.whole d k in
          record {
            term = f false r.0;
            is_one = one_right (map (f true) ys) (map (f false) zs) (f false r.0) (one_map (f false) zs r.0 r.1);
            value = r.2;
            each = two_true (entry_tells a (Truth false)) (q.tells r.0 r.1) h (subst Q (sym r.2) k);
          }

  pub chosen_built : (g : List Gate) {cs : List (Expr V × Expr V)} {ess : List (List Entry × List Entry)}
      {other : Level V} {zs : List Entry} → CasesTell g cs ess → AreEntries set g zs (Yields facts other)
      → IsBuilt set g (chosen g ess zs) (Takes facts cs other)
  chosen_built g {other = other} none c =
      record { grown = grows_self g; entries = entries_as (λ d h. y.otherwise h) (λ d h. back d h) c }
    where
      back : (d : Value) → Takes facts [] other d → Yields facts other d
      back d (y.otherwise h) = h
  chosen_built g {other = other} {zs = zs} (case_and {test = test} {value = value} {cs = cs} {xs = xs} {ys = ys}
      {ess = ess} a p t) c =
      let r = chosen_built g t c in
      let rest = chosen g ess zs in
      let T = Yields facts (out-Expr V test) in
      let P = Yields facts (out-Expr V value) in
      let m = case_built rest.gates xs ys rest.entries T P (Takes facts cs other) (entries_kept r.grown a)
      (entries_kept r.grown p) r.entries in
      record { grown = grows_on r.grown m.grown; entries = entries_as to from m.entries }
    where
      to : (d : Value) → ByCase (Yields facts (out-Expr V test)) (Yields facts (out-Expr V value))
          (Takes facts cs other) d
          → Takes facts ((test, value) ∷ cs) other d
      to d (taken h k) = y.taken h k
      to d (passed h k) = y.passed h k

      from : (d : Value) → Takes facts ((test, value) ∷ cs) other d
          → ByCase (Yields facts (out-Expr V test)) (Yields facts (out-Expr V value)) (Takes facts cs other) d
      from d (y.taken h k) = taken h k
      from d (y.passed h k) = passed h k
