-- The operands of a form one after the other: what some of them yield, and what one more adds.
use Rattle.std.proofs.Common.{◌≡◌, ℕ, ◌+◌, ◌<◌, ◌≤◌, ◌↔◌, ℤ, pos, Bool, true, false, not, IsTrue, List, [], ◌∷◌, ◌++◌, length, take, drop, Contains, get_or, Option, Some, None, Ok, zero, suc, refl, sym, ap, ◌∙◌, subst, ◌⊎◌, inl, inr, arith}
use Rattle.std.proofs.lemmas.List.{take_all, take-append-drop}
use Rattle.std.proofs.lemmas.List.Sums.{fold_push}
use Rattle.std.proofs.lemmas.Bool.{cases_lt}
use Rattle.ar_base.proofs.Items.{take_item}
use Rattle.domains.specs.declared.Value.{Value}
use Rattle.domains.specs.declared.Value.TheVariants.{Truth, Whole}
use Rattle.domains.proofs.Members.{contains-head, contains-cons, nothing-in, contains-one}
use Rattle.domains.specs.Values.{whole_of}
use Rattle.typed_expr.specs.Values.{added, sum_of}
use Rattle.typed_expr.specs.Folds.{fold_of, next_of}
use Rattle.typed_expr.specs.Sets.{HasExactly, AtLimit, KeepsLimit, Stopped}
use Rattle.typed_expr.specs.Sizes.{HasMoreThan}
use Rattle.typed_expr.specs.Yields.{Yields, Some_yields, All_yield, Picks, Picks_parts}
use Rattle.typed_expr.specs.Yields as y
use Rattle.typed_expr.specs.Possible.{IsWide}
use Rattle.typed_expr.specs.Evaluating.{ToldTruth, IsNextOperand, SomeWide, Tallied, FoldYields, SomeStep, Folds, SumYields, PartWide, Sums, CaseWide, Took, PassesAll, Chosen}
use Rattle.typed_expr.specs.declared.expr.Expr.{Expr, out-Expr}
use Rattle.typed_expr.specs.declared.fold.Step.{Step}
use Rattle.typed_expr.specs.declared.fold.Step.TheVariants.{Part}
use Rattle.typed_expr.specs.declared.value_set.Stop.{Stop}
use Rattle.typed_expr.proofs.Folding.{is_nil, fold_of-push}
use Rattle.typed_expr.proofs.Gathering.{more-than, stopped-up, take-cases}
use Rattle.typed_expr.proofs.Forms.{not-more}

pub item-in : {X : Type 0} (xs : List X) (i : ℕ) (d : X) → i < length xs → Contains xs (get_or xs i d)
item-in [] i d h = absurd (omega (arith, h))
item-in (x ∷ xs) zero d h = contains-head x xs
item-in (x ∷ xs) (suc i) d h = contains-cons x (get_or xs i d) xs (item-in xs i d (omega (arith, h)))

pub item-is-in : {X : Type 0} (xs : List X) (i : ℕ) (x : X) → i < length xs → x ≡ get_or xs i x → Contains xs x
item-is-in {X} xs i x h is = subst (λ (z : X). Contains xs z) (sym is) (item-in xs i x h)

pub none-at : (most : Option ℕ) (C D : ℕ → Type 0) → ((n : ℕ) → D n → C n) → (AtLimit most C → ⊥) → AtLimit most D → ⊥
none-at None C D f h d = d
none-at (Some n) C D f h d = h (f n d)

pub none-nowhere : (most : Option ℕ) (C : ℕ → Type 0) → ((n : ℕ) → C n → ⊥) → AtLimit most C → ⊥
none-nowhere None C f h = h
none-nowhere (Some n) C f h = f n h

pub not-more-at : (most : Option ℕ) (set : List Value) (P : Value → Type 0) → HasExactly set P → KeepsLimit most set
    → AtLimit most (λ n. HasMoreThan n P) → ⊥
not-more-at None set P h k m = m
not-more-at (Some n) set P h k m = not-more n set P h k m

module _ {V : Type 0} (facts : V → Value → Type 0) where
  -- operands one after the other
  pub some-append : (xs ys : List (Expr V)) (v : Value) → Some_yields facts (xs ++ ys) v
      → Some_yields facts xs v ⊎ Some_yields facts ys v
  some-append [] ys v d = inr d
  some-append (x ∷ xs) ys v (y.here d) = inl (y.here d)
  some-append (x ∷ xs) ys v (y.later d) = elim (some-append xs ys v d) [ inl h ↦ inl (y.later h) | inr h ↦ inr h ]

  pub some-left : (xs ys : List (Expr V)) (v : Value) → Some_yields facts xs v → Some_yields facts (xs ++ ys) v
  some-left [] ys v d = elim d [ ]
  some-left (x ∷ xs) ys v (y.here d) = y.here d
  some-left (x ∷ xs) ys v (y.later d) = y.later (some-left xs ys v d)

  pub some-right : (xs ys : List (Expr V)) (v : Value) → Some_yields facts ys v → Some_yields facts (xs ++ ys) v
  some-right [] ys v d = d
  some-right (x ∷ xs) ys v d = y.later (some-right xs ys v d)

  some_one : (e : Expr V) (v : Value) → Some_yields facts (e ∷ []) v → Yields facts (out-Expr V e) v
  some_one e v (y.here d) = d
  some_one e v (y.later d) = elim d [ ]

  pub all-append : (xs ys : List (Expr V)) (v : Value) → All_yield facts xs v → All_yield facts ys v
      → All_yield facts (xs ++ ys) v
  all-append [] ys v y.none e = e
  all-append (x ∷ xs) ys v (y.one_and d ds) e = y.one_and d (all-append xs ys v ds e)

  pub all-left : (xs ys : List (Expr V)) (v : Value) → All_yield facts (xs ++ ys) v → All_yield facts xs v
  all-left [] ys v d = y.none
  all-left (x ∷ xs) ys v (y.one_and d ds) = y.one_and d (all-left xs ys v ds)

  pub all-right : (xs ys : List (Expr V)) (v : Value) → All_yield facts (xs ++ ys) v → All_yield facts ys v
  all-right [] ys v d = d
  all-right (x ∷ xs) ys v (y.one_and d ds) = all-right xs ys v ds

  all_one : (e : Expr V) (v : Value) → All_yield facts (e ∷ []) v → Yields facts (out-Expr V e) v
  all_one e v (y.one_and d ds) = d

  -- one more operand that is not too wide
  pub narrow-more : (most : Option ℕ) (es : List (Expr V)) (i : ℕ) (e : Expr V) → i < length es → e ≡ get_or es i e
      → (AtLimit most (SomeWide facts (take i es)) → ⊥)
      → (AtLimit most (λ n. IsWide facts n (out-Expr V e)) → ⊥) → AtLimit most (SomeWide facts (take (i + 1) es)) → ⊥
  narrow-more None es i e h is p q w = w
  narrow-more (Some n) es i e h is p q w =
      elim (take-cases es i e w.expr h w.in_list) [
        | inl m ↦ p (record { expr = w.expr; in_list = m; wide = w.wide })
        | inr k ↦ q (subst (λ (z : Expr V). IsWide facts n (out-Expr V z)) (k ∙ sym is) w.wide)
      ]

  pub narrow-start : (most : Option ℕ) → AtLimit most (SomeWide facts []) → ⊥
  narrow-start most = none-nowhere most (SomeWide facts []) (λ n w. nothing-in w.expr w.in_list)

  pub narrow-end : (most : Option ℕ) (es : List (Expr V)) (i : ℕ) → length es ≤ i
      → (AtLimit most (SomeWide facts (take i es)) → ⊥) → AtLimit most (SomeWide facts es) → ⊥
  narrow-end most es i h p =
      let P : List (Expr V) → Type 0 = λ l. AtLimit most (SomeWide facts l) → ⊥ in
      subst P (take_all i es h) p

  pub wide-here : (most : Option ℕ) (es : List (Expr V)) (i : ℕ) (e : Expr V) (stop : Stop) → i < length es
      → e ≡ get_or es i e
      → Stopped most (λ n. IsWide facts n (out-Expr V e)) stop → Stopped most (SomeWide facts es) stop
  wide-here most es i e stop h is s =
      stopped-up most (λ n. IsWide facts n (out-Expr V e)) (SomeWide facts es)
      (λ n w. record { expr = e; in_list = item-is-in es i e h is; wide = w }) stop s

  -- tallies
  pub tallied-start : (b : Bool) → Tallied facts b false true []
  tallied-start b = record { one = ((λ h. cc), (λ d. elim d [ ])); all = ((λ h. y.none), (λ d. refl)) }

  pub tallied-more : (b one each one_more each_more other same : Bool) (es : List (Expr V)) (i : ℕ) (e : Expr V)
      → i < length es → e ≡ get_or es i e → ToldTruth facts b other same (out-Expr V e)
      → IsTrue one_more ↔ (IsTrue one ⊎ IsTrue other) → IsTrue each_more ↔ (IsTrue each × IsTrue same)
      → Tallied facts b one each (take i es) → Tallied facts b one_more each_more (take (i + 1) es)
  tallied-more b one each one_more each_more other same es i e h is told o a t =
      let T : List (Expr V) → Type 0 = λ l. Tallied facts b one_more each_more l in
      subst T (sym (take_item es i e h is)) (record {
        one = (
          (λ g. elim (o.0 g) [
            | inl m ↦ some-left (take i es) (e ∷ []) (Truth (not b)) (t.one.0 m)
            | inr m ↦ some-right (take i es) (e ∷ []) (Truth (not b)) (y.here (told.opposite.0 m))
          ]),
          (λ d. elim (some-append (take i es) (e ∷ []) (Truth (not b)) d) [
            | inl m ↦ o.1 (inl (t.one.1 m))
            | inr m ↦ o.1 (inr (told.opposite.1 (some_one e (Truth (not b)) m)))
          ]),
        );
        all = (
          (λ g. let m = a.0 g in all-append (take i es) (e ∷ []) (Truth b) (t.all.0 m.0) (y.one_and (told.same.0 m.1) y.none)),
          (λ d. a.1 (t.all.1 (all-left (take i es) (e ∷ []) (Truth b) d), told.same.1 (all_one e (Truth b) (all-right (take i es) (e ∷ []) (Truth b) d)))),
        );
      })

  pub tallied-end : (b one each : Bool) (es : List (Expr V)) (i : ℕ) → length es ≤ i
      → Tallied facts b one each (take i es) → Tallied facts b one each es
  tallied-end b one each es i h t =
      let T : List (Expr V) → Type 0 = λ l. Tallied facts b one each l in
      subst T (take_all i es h) t

  -- where one operand decides, the others do not count
  pub tallied-stops : (b one each : Bool) (es : List (Expr V)) (i : ℕ) → one ≡ true → each ≡ false
      → Tallied facts b one each (take i es) → Tallied facts b true false es
  tallied-stops b one each es i o a t =
      let T : List (Expr V) → Type 0 = λ l. Tallied facts b true false l in
      subst T (take-append-drop i es) (record {
        one = ((λ g. some-left (take i es) (drop i es) (Truth (not b)) (t.one.0 o)), (λ d. refl));
        all = ((λ g. cc), (λ d. let k = t.all.1 (all-left (take i es) (drop i es) (Truth b) d) in cc));
      })

  -- picks
  pub picks-append : (xs ys : List (Expr V)) (vs ws : List Value) → Picks facts xs vs → Picks facts ys ws
      → Picks facts (xs ++ ys) (vs ++ ws)
  picks-append [] ys [] ws y.no_operand e = e
  picks-append [] ys (v ∷ vs) ws d e = elim d [ ]
  picks-append (x ∷ xs) ys [] ws d e = elim d [ ]
  picks-append (x ∷ xs) ys (v ∷ vs) ws (y.operand d ds) e = y.operand d (picks-append xs ys vs ws ds e)

  picks_none : (vs : List Value) → Picks facts [] vs → vs ≡ []
  picks_none [] y.no_operand = refl
  picks_none (v ∷ vs) d = elim d [ ]

  -- one value more
  pub record LastPick (xs : List (Expr V)) (e : Expr V) (vs : List Value) : Type 0 where
    pub before : List Value
    pub last : Value
    pub picks : Picks facts xs before
    pub yields : Yields facts (out-Expr V e) last
    pub is : vs ≡ before ++ last ∷ []

  pub last-pick : (xs : List (Expr V)) (e : Expr V) (vs : List Value) → Picks facts (xs ++ e ∷ []) vs → LastPick xs e vs
  last-pick [] e [] d = elim d [ ]
  last-pick [] e (v ∷ vs) (y.operand d ds) = record {
    before = [];
    last = v;
    picks = y.no_operand;
    yields = d;
    is = ap (λ (z : List Value). v ∷ z) (picks_none vs ds);
  }
  last-pick (x ∷ xs) e [] d = elim d [ ]
  last-pick (x ∷ xs) e (v ∷ vs) (y.operand d ds) =
      let l = last-pick xs e vs ds in
      record
      { before = v ∷ l.before; last = l.last; picks = y.operand d l.picks; yields = l.yields; is = ap (λ (z : List Value). v ∷ z) l.is }

  pub picks-nil : (xs : List (Expr V)) (vs : List Value) → Picks facts xs vs → is_nil xs ≡ is_nil vs
  picks-nil [] [] y.no_operand = refl
  picks-nil [] (v ∷ vs) d = elim d [ ]
  picks-nil (x ∷ xs) [] d = elim d [ ]
  picks-nil (x ∷ xs) (v ∷ vs) (y.operand d ds) = refl

  -- the fold of no operand
  pub fold-start : (s : Step) (es : List (Expr V)) (n : ℤ) (set : List Value) → n ≡ fold_of s []
      → HasExactly set (Contains (Whole n ∷ [])) → HasExactly set (FoldYields facts s es 0)
  fold-start s es n set e h = record {
    sound = λ v m. ([], y.no_operand, sym (contains-one (Whole n) v (h.sound v m)) ∙ ap Whole e);
    complete = λ v p. let (vs, d, k) = p in
        h.complete v
        (subst (λ (z : Value). Contains (Whole n ∷ []) z) (ap Whole (e ∙ ap (fold_of s) (sym (picks_none vs d))) ∙ sym k) (contains-head (Whole n) []));
  }

  -- one more operand of the fold
  pub fold-up : (s : Step) (first : Bool) (es : List (Expr V)) (i : ℕ) (e : Expr V) (so_far values : List Value)
      → i < length es → e ≡ get_or es i e → first ≡ is_nil (take i es)
      → HasExactly so_far (FoldYields facts s es i) → HasExactly values (Yields facts (out-Expr V e)) → (v : Value)
      → IsNextOperand s first so_far values v → FoldYields facts s es (i + 1) v
  fold-up s first es i e so_far values h is f p q v m =
      let (vs, d, k) = p.sound m.number m.in_numbers in
      let all : Picks facts (take (i + 1) es) (vs ++ m.value ∷ []) =
      subst (λ (l : List (Expr V)). Picks facts l (vs ++ m.value ∷ [])) (sym (take_item es i e h is))
      (picks-append (take i es) (e ∷ []) vs (m.value ∷ []) d (y.operand (q.sound m.value m.in_values) y.no_operand)) in (
        vs ++ m.value ∷ [],
        all,
        m.is ∙ ap (λ (z : Value). Whole (next_of s first (whole_of z) m.value)) k ∙ ap
            (λ b. Whole (next_of s b (fold_of s vs) m.value)) (f ∙ picks-nil (take i es) vs d) ∙ ap Whole
            (sym (fold_of-push s vs m.value)),
      )

  pub fold-down : (s : Step) (first : Bool) (es : List (Expr V)) (i : ℕ) (e : Expr V) (so_far values : List Value)
      → i < length es → e ≡ get_or es i e → first ≡ is_nil (take i es)
      → HasExactly so_far (FoldYields facts s es i) → HasExactly values (Yields facts (out-Expr V e)) → (v : Value)
      → FoldYields facts s es (i + 1) v → IsNextOperand s first so_far values v
  fold-down s first es i e so_far values h is f p q v (vs, d, k) =
      let l = last-pick (take i es) e vs (subst (λ (l : List (Expr V)). Picks facts l vs) (take_item es i e h is) d) in
      record {
        number = Whole (fold_of s l.before);
        value = l.last;
        in_numbers = p.complete (Whole (fold_of s l.before)) (l.before, l.picks, refl);
        in_values = q.complete l.last l.yields;
        is = k ∙ ap (λ (z : List Value). Whole (fold_of s z)) l.is ∙ ap Whole (fold_of-push s l.before l.last)
            ∙ ap (λ b. Whole (next_of s b (fold_of s l.before) l.last))
            (sym (f ∙ picks-nil (take i es) l.before l.picks));
      }

  pub fold-more : (s : Step) (first : Bool) (es : List (Expr V)) (i : ℕ) (e : Expr V) (so_far values new : List Value)
      → i < length es → e ≡ get_or es i e → first ≡ is_nil (take i es)
      → HasExactly so_far (FoldYields facts s es i) → HasExactly values (Yields facts (out-Expr V e))
      → HasExactly new (IsNextOperand s first so_far values) → HasExactly new (FoldYields facts s es (i + 1))
  fold-more s first es i e so_far values new h is f p q g = record {
    sound = λ v m. fold-up s first es i e so_far values h is f p q v (g.sound v m);
    complete = λ v m. g.complete v (fold-down s first es i e so_far values h is f p q v m);
  }

  pub first-more : (es : List (Expr V)) (i : ℕ) (e : Expr V) → i < length es → e ≡ get_or es i e
      → false ≡ is_nil (take (i + 1) es)
  first-more es i e h is = sym (ap is_nil (take_item es i e h is) ∙ not_nil (take i es) e) where
    not_nil : (xs : List (Expr V)) (e : Expr V) → is_nil (xs ++ e ∷ []) ≡ false
    not_nil [] e = refl
    not_nil (x ∷ xs) e = refl

  -- no step so far has too many values
  pub steps-more : (most : Option ℕ) (P : ℕ → Value → Type 0) (i : ℕ) (new : List Value)
      → ((k : ℕ) → k ≤ i → AtLimit most (λ n. HasMoreThan n (P k)) → ⊥)
      → HasExactly new (P (i + 1)) → KeepsLimit most new → (k : ℕ) → k ≤ i + 1 → AtLimit most (λ n. HasMoreThan n (P k))
      → ⊥
  steps-more most P i new f h l k j m =
      elim (cases_lt i k) [
        | inl a ↦
            let e : k ≡ i + 1 =
            omega arith in let Q : ℕ → Type 0 = λ z. AtLimit most (λ n. HasMoreThan n (P z)) in not-more-at most new
            (P (i + 1)) h l (subst Q e m)
        | inr a ↦ f k a m
      ]

  pub steps-start : (most : Option ℕ) (P : ℕ → Value → Type 0) (new : List Value) → HasExactly new (P 0)
      → KeepsLimit most new → (k : ℕ) → k ≤ 0 → AtLimit most (λ n. HasMoreThan n (P k)) → ⊥
  steps-start most P new h l k j m =
      let e : k ≡ 0 = omega arith in
      let Q : ℕ → Type 0 = λ z. AtLimit most (λ n. HasMoreThan n (P z)) in
      not-more-at most new (P 0) h l (subst Q e m)

  steps_end : (most : Option ℕ) (P : ℕ → Value → Type 0) (i : ℕ) → ((k : ℕ) (v : Value) → i ≤ k → P k v → P i v)
      → ((k : ℕ) → k ≤ i → AtLimit most (λ n. HasMoreThan n (P k)) → ⊥) → AtLimit most (SomeStep P) → ⊥
  steps_end None P i same f s = s
  steps_end (Some n) P i same f s =
      elim (cases_lt i s.place) [
        | inl a ↦ f i (omega arith) (more-than (λ v m. same s.place v (omega arith) m) s.wide)
        | inr a ↦ f s.place a s.wide
      ]

  fold_same : (s : Step) (es : List (Expr V)) (i k : ℕ) (v : Value) → length es ≤ i → i ≤ k → FoldYields facts s es k v
      → FoldYields facts s es i v
  fold_same s es i k v h j m =
      let P : List (Expr V) → Type 0 = λ l. (vs : List Value) × Picks facts l vs × (v ≡ Whole (fold_of s vs)) in
      subst P (take_all k es (omega arith) ∙ sym (take_all i es h)) m

  pub folds-end : (most : Option ℕ) (s : Step) (es : List (Expr V)) (i : ℕ) (set : List Value) → length es ≤ i
      → HasExactly set (FoldYields facts s es i) → KeepsLimit most set
      → (AtLimit most (SomeWide facts (take i es)) → ⊥)
      → ((k : ℕ) → k ≤ i → AtLimit most (λ n. HasMoreThan n (FoldYields facts s es k)) → ⊥)
      → Folds facts most s (Ok set) es
  folds-end most s es i set h g l w f =
      let P : List (Expr V) → Type 0 =
      λ z. HasExactly set (λ v. (vs : List Value) × Picks facts z vs × (v ≡ Whole (fold_of s vs))) in
      (subst P (take_all i es h) g, l, narrow-end most es i h w, steps_end most (FoldYields facts s es) i (λ k v j m. fold_same s es i k v h j m) f)

  -- the sum of no part
  parts_none : (vs : List (Bool × Value)) → Picks_parts facts [] vs → vs ≡ []
  parts_none [] y.no_part = refl
  parts_none (v ∷ vs) d = elim d [ ]

  pub sum-start : (ps : List (Bool × Expr V)) (n : ℤ) (set : List Value) → n ≡ sum_of []
      → HasExactly set (Contains (Whole n ∷ [])) → HasExactly set (SumYields facts ps 0)
  sum-start ps n set e h = record {
    sound = λ v m. ([], y.no_part, sym (contains-one (Whole n) v (h.sound v m)) ∙ ap Whole e);
    complete = λ v p. let (vs, d, k) = p in
        h.complete v
        (subst (λ (z : Value). Contains (Whole n ∷ []) z) (ap Whole (e ∙ ap sum_of (sym (parts_none vs d))) ∙ sym k) (contains-head (Whole n) []));
  }

  parts-append : (xs ys : List (Bool × Expr V)) (vs ws : List (Bool × Value)) → Picks_parts facts xs vs
      → Picks_parts facts ys ws → Picks_parts facts (xs ++ ys) (vs ++ ws)
  parts-append [] ys [] ws y.no_part e = e
  parts-append [] ys (v ∷ vs) ws d e = elim d [ ]
  parts-append (x ∷ xs) ys [] ws d e = elim d [ ]
  parts-append (x ∷ xs) ys (v ∷ vs) ws (y.part d ds) e = y.part d (parts-append xs ys vs ws ds e)

  pub record LastPart (xs : List (Bool × Expr V)) (p : Bool × Expr V) (vs : List (Bool × Value)) : Type 0 where
    pub before : List (Bool × Value)
    pub last : Value
    pub picks : Picks_parts facts xs before
    pub yields : Yields facts (out-Expr V p.1) last
    pub is : vs ≡ before ++ (p.0, last) ∷ []

  pub last-part : (xs : List (Bool × Expr V)) (p : Bool × Expr V) (vs : List (Bool × Value))
      → Picks_parts facts (xs ++ p ∷ []) vs → LastPart xs p vs
  last-part [] p [] d = elim d [ ]
  last-part [] p (v ∷ vs) (y.part {v = w} d ds) = record {
    before = [];
    last = w;
    picks = y.no_part;
    yields = d;
    is = ap (λ (z : List (Bool × Value)). (p.0, w) ∷ z) (parts_none vs ds);
  }
  last-part (x ∷ xs) p [] d = elim d [ ]
  last-part (x ∷ xs) p (v ∷ vs) (y.part d ds) =
      let l = last-part xs p vs ds in
      record
      { before = v ∷ l.before; last = l.last; picks = y.part d l.picks; yields = l.yields; is = ap (λ (z : List (Bool × Value)). v ∷ z) l.is }

  pub sum-up : (ps : List (Bool × Expr V)) (i : ℕ) (p : Bool × Expr V) (so_far values : List Value) → i < length ps
      → p ≡ get_or ps i p
      → HasExactly so_far (SumYields facts ps i) → HasExactly values (Yields facts (out-Expr V p.1)) → (v : Value)
      → IsNextOperand (Part p.0) false so_far values v → SumYields facts ps (i + 1) v
  sum-up ps i p so_far values h is g q v m =
      let (vs, d, k) = g.sound m.number m.in_numbers in
      let all : Picks_parts facts (take (i + 1) ps) (vs ++ (p.0, m.value) ∷ []) =
      subst (λ (l : List (Bool × Expr V)). Picks_parts facts l (vs ++ (p.0, m.value) ∷ []))
      (sym (take_item ps i p h is))
      (parts-append (take i ps) (p ∷ []) vs ((p.0, m.value) ∷ []) d (y.part (q.sound m.value m.in_values) y.no_part)) in (
        vs ++ (p.0, m.value) ∷ [],
        all,
        m.is ∙ ap (λ (z : Value). Whole (added (whole_of z) (p.0, m.value))) k ∙ ap Whole
            (sym (fold_push added (pos 0) vs (p.0, m.value))),
      )

  pub sum-down : (ps : List (Bool × Expr V)) (i : ℕ) (p : Bool × Expr V) (so_far values : List Value) → i < length ps
      → p ≡ get_or ps i p
      → HasExactly so_far (SumYields facts ps i) → HasExactly values (Yields facts (out-Expr V p.1)) → (v : Value)
      → SumYields facts ps (i + 1) v → IsNextOperand (Part p.0) false so_far values v
  sum-down ps i p so_far values h is g q v (vs, d, k) =
      let l =
      last-part (take i ps) p vs
      (subst (λ (l : List (Bool × Expr V)). Picks_parts facts l vs) (take_item ps i p h is) d) in
      record {
        number = Whole (sum_of l.before);
        value = l.last;
        in_numbers = g.complete (Whole (sum_of l.before)) (l.before, l.picks, refl);
        in_values = q.complete l.last l.yields;
        is =
            k ∙ ap (λ (z : List (Bool × Value)). Whole (sum_of z)) l.is ∙ ap Whole
            (fold_push added (pos 0) l.before (p.0, l.last));
      }

  pub sum-more : (ps : List (Bool × Expr V)) (i : ℕ) (p : Bool × Expr V) (so_far values new : List Value)
      → i < length ps → p ≡ get_or ps i p
      → HasExactly so_far (SumYields facts ps i) → HasExactly values (Yields facts (out-Expr V p.1))
      → HasExactly new (IsNextOperand (Part p.0) false so_far values) → HasExactly new (SumYields facts ps (i + 1))
  sum-more ps i p so_far values new h is g q n = record {
    sound = λ v m. sum-up ps i p so_far values h is g q v (n.sound v m);
    complete = λ v m. n.complete v (sum-down ps i p so_far values h is g q v m);
  }

  pub part-narrow-more : (most : Option ℕ) (ps : List (Bool × Expr V)) (i : ℕ) (p : Bool × Expr V) → i < length ps
      → p ≡ get_or ps i p → (AtLimit most (PartWide facts (take i ps)) → ⊥)
      → (AtLimit most (λ n. IsWide facts n (out-Expr V p.1)) → ⊥) → AtLimit most (PartWide facts (take (i + 1) ps)) → ⊥
  part-narrow-more None ps i p h is f g w = w
  part-narrow-more (Some n) ps i p h is f g w =
      elim (take-cases ps i p w.part h w.in_list) [
        | inl m ↦ f (record { part = w.part; in_list = m; wide = w.wide })
        | inr k ↦ g (subst (λ (z : Bool × Expr V). IsWide facts n (out-Expr V z.1)) (k ∙ sym is) w.wide)
      ]

  pub part-narrow-start : (most : Option ℕ) → AtLimit most (PartWide facts []) → ⊥
  part-narrow-start most = none-nowhere most (PartWide facts []) (λ n w. nothing-in w.part w.in_list)

  sum_same : (ps : List (Bool × Expr V)) (i k : ℕ) (v : Value) → length ps ≤ i → i ≤ k → SumYields facts ps k v
      → SumYields facts ps i v
  sum_same ps i k v h j m =
      let P : List (Bool × Expr V) → Type 0 =
      λ l. (vs : List (Bool × Value)) × Picks_parts facts l vs × (v ≡ Whole (sum_of vs)) in
      subst P (take_all k ps (omega arith) ∙ sym (take_all i ps h)) m

  pub sums-end : (most : Option ℕ) (ps : List (Bool × Expr V)) (i : ℕ) (set : List Value) → length ps ≤ i
      → HasExactly set (SumYields facts ps i) → KeepsLimit most set
      → (AtLimit most (PartWide facts (take i ps)) → ⊥)
      → ((k : ℕ) → k ≤ i → AtLimit most (λ n. HasMoreThan n (SumYields facts ps k)) → ⊥) → Sums facts most (Ok set) ps
  sums-end most ps i set h g l w f =
      let P : List (Bool × Expr V) → Type 0 =
      λ z. HasExactly set (λ v. (vs : List (Bool × Value)) × Picks_parts facts z vs × (v ≡ Whole (sum_of vs))) in
      let W : List (Bool × Expr V) → Type 0 = λ z. AtLimit most (PartWide facts z) → ⊥ in
      (subst P (take_all i ps h) g, l, subst W (take_all i ps h) w, steps_end most (SumYields facts ps) i (λ k v j m. sum_same ps i k v h j m) f)

  -- cases one after the other
  pub took-append : (xs ys : List (Expr V × Expr V)) (v : Value) → Took facts (xs ++ ys) v
      → Took facts xs v ⊎ (PassesAll facts xs × Took facts ys v)
  took-append [] ys v h = inr (tt, h)
  took-append (c ∷ xs) ys v (inl h) = inl (inl h)
  took-append (c ∷ xs) ys v (inr h) =
      elim (took-append xs ys v h.1) [ inl k ↦ inl (inr (h.0, k)) | inr k ↦ inr ((h.0, k.0), k.1) ]

  pub took-left : (xs ys : List (Expr V × Expr V)) (v : Value) → Took facts xs v → Took facts (xs ++ ys) v
  took-left [] ys v h = absurd h
  took-left (c ∷ xs) ys v (inl h) = inl h
  took-left (c ∷ xs) ys v (inr h) = inr (h.0, took-left xs ys v h.1)

  pub took-right : (xs ys : List (Expr V × Expr V)) (v : Value) → PassesAll facts xs → Took facts ys v
      → Took facts (xs ++ ys) v
  took-right [] ys v p h = h
  took-right (c ∷ xs) ys v p h = inr (p.0, took-right xs ys v p.1 h)

  pub passes-append : (xs ys : List (Expr V × Expr V)) → PassesAll facts xs → PassesAll facts ys
      → PassesAll facts (xs ++ ys)
  passes-append [] ys p q = q
  passes-append (c ∷ xs) ys p q = (p.0, passes-append xs ys p.1 q)

  pub passes-left : (xs ys : List (Expr V × Expr V)) → PassesAll facts (xs ++ ys) → PassesAll facts xs
  passes-left [] ys p = tt
  passes-left (c ∷ xs) ys p = (p.0, passes-left xs ys p.1)

  pub passes-right : (xs ys : List (Expr V × Expr V)) → PassesAll facts (xs ++ ys) → PassesAll facts ys
  passes-right [] ys p = p
  passes-right (c ∷ xs) ys p = passes-right xs ys p.1

  pub chosen-start : (set : List Value) → set ≡ [] → Chosen facts set true []
  chosen-start set e = record {
    exact =
        record { sound = λ v m. absurd (nothing-in v (subst (λ (l : List Value). Contains l v) e m)); complete = λ v h. absurd h };
    all = ((λ h. tt), (λ h. refl));
  }

  -- one more case, whose test takes it or not
  pub chosen-more : (cs : List (Expr V × Expr V)) (i : ℕ) (c : Expr V × Expr V) (set new : List Value)
      (passes passes_more can_pass can_take : Bool)
      → i < length cs → c ≡ get_or cs i c
      → ToldTruth facts true can_pass can_take (out-Expr V c.0)
      → IsTrue passes_more ↔ (IsTrue passes × IsTrue can_pass)
      → ((v : Value) → Contains new v → Contains set v ⊎ (PassesAll facts (take i cs) × Took facts (c ∷ []) v))
      → ((v : Value) → Contains set v ⊎ (PassesAll facts (take i cs) × Took facts (c ∷ []) v) → Contains new v)
      → Chosen facts set passes (take i cs) → Chosen facts new passes_more (take (i + 1) cs)
  chosen-more cs i c set new passes passes_more can_pass can_take h is t q down up k =
      let P : List (Expr V × Expr V) → Type 0 = λ l. Chosen facts new passes_more l in
      subst P (sym (take_item cs i c h is)) (record {
        exact = record {
          sound = λ v m. elim (down v m) [
            | inl n ↦ took-left (take i cs) (c ∷ []) v (k.exact.sound v n)
            | inr n ↦ took-right (take i cs) (c ∷ []) v n.0 n.1
          ];
          complete = λ v d.
              elim
              (took-append (take i cs) (c ∷ []) v d) [ inl n ↦ up v (inl (k.exact.complete v n)) | inr n ↦ up v (inr n) ];
        };
        all = (
          (λ g. let m = q.0 g in passes-append (take i cs) (c ∷ []) (k.all.0 m.0) (t.opposite.0 m.1, tt)),
          (λ d. q.1 (
            k.all.1 (passes-left (take i cs) (c ∷ []) d),
            t.opposite.1 (passes-right (take i cs) (c ∷ []) d).0,
          )),
        );
      })

  pub chosen-end : (cs : List (Expr V × Expr V)) (i : ℕ) (set : List Value) (passes : Bool) → length cs ≤ i
      → Chosen facts set passes (take i cs) → Chosen facts set passes cs
  chosen-end cs i set passes h k =
      let P : List (Expr V × Expr V) → Type 0 = λ l. Chosen facts set passes l in
      subst P (take_all i cs h) k

  -- where a test does not pass, the cases after it do not count
  pub chosen-stops : (cs : List (Expr V × Expr V)) (i : ℕ) (set : List Value) (passes : Bool) → passes ≡ false
      → Chosen facts set passes (take i cs) → Chosen facts set false cs
  chosen-stops cs i set passes e k =
      let P : List (Expr V × Expr V) → Type 0 = λ l. Chosen facts set false l in
      subst P (take-append-drop i cs) (record {
        exact = record {
          sound = λ v m. took-left (take i cs) (drop i cs) v (k.exact.sound v m);
          complete = λ v d.
              elim
              (took-append (take i cs) (drop i cs) v d) [ inl n ↦ k.exact.complete v n | inr n ↦ absurd (let z = k.all.1 n.0 in cc) ];
        };
        all = ((λ g. cc), (λ d. absurd (let z = k.all.1 (passes-left (take i cs) (drop i cs) d) in cc)));
      })

  pub case-narrow-more : (most : Option ℕ) (cs : List (Expr V × Expr V)) (i : ℕ) (c : Expr V × Expr V) → i < length cs
      → c ≡ get_or cs i c → (AtLimit most (CaseWide facts (take i cs)) → ⊥)
      → (AtLimit most (λ n. IsWide facts n (out-Expr V c.0)) → ⊥)
      → (AtLimit most (λ n. IsWide facts n (out-Expr V c.1)) → ⊥) → AtLimit most (CaseWide facts (take (i + 1) cs)) → ⊥
  case-narrow-more None cs i c h is f g k w = w
  case-narrow-more (Some n) cs i c h is f g k w =
      elim (take-cases cs i c w.case h w.in_list) [
        | inl m ↦ f (record { case = w.case; in_list = m; wide = w.wide })
        | inr e ↦ elim w.wide [
          | inl a ↦ g (subst (λ (z : Expr V × Expr V). IsWide facts n (out-Expr V z.0)) (e ∙ sym is) a)
          | inr a ↦ k (subst (λ (z : Expr V × Expr V). IsWide facts n (out-Expr V z.1)) (e ∙ sym is) a)
        ]
      ]

  pub case-narrow-start : (most : Option ℕ) → AtLimit most (CaseWide facts []) → ⊥
  case-narrow-start most = none-nowhere most (CaseWide facts []) (λ n w. nothing-in w.case w.in_list)

  pub case-narrow-end : (most : Option ℕ) (cs : List (Expr V × Expr V)) (i : ℕ) → length cs ≤ i
      → (AtLimit most (CaseWide facts (take i cs)) → ⊥) → AtLimit most (CaseWide facts cs) → ⊥
  case-narrow-end most cs i h p =
      let P : List (Expr V × Expr V) → Type 0 = λ l. AtLimit most (CaseWide facts l) → ⊥ in
      subst P (take_all i cs h) p
