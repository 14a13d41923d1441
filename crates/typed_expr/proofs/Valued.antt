-- What an expression yields from one fact for each variable.
use Rattle.std.proofs.Common.{◌≡◌, ℕ, ◌+◌, ◌<◌, ◌≤◌, ◌^◌, ◌↔◌, pos, ◌+ℤ◌, Bool, true, false, not, cond, List, [], ◌∷◌, map, length, count_by, fold, Contains, Vec, Global, refl, sym, ap, ◌∙◌, subst, inl, inr, arith}
use Rattle.std.specs.Int.{saturate_signed, w64}
use Rattle.std.proofs.lemmas.Int.{ints}
use Rattle.std.proofs.lemmas.List.Sums.{sum_by-cons}
use Rattle.std.proofs.lemmas.Bool.{cond-true, cond-false}
use Rattle.domains.specs.declared.Value.{Value}
use Rattle.domains.specs.declared.Value.TheVariants as val
use Rattle.domains.proofs.Members.{contains-head, contains-cases, nothing-in}
use Rattle.domains.specs.Values.{truth_of}
use Rattle.typed_expr.specs.Values.{is_related, sum_of, product_of, least_of, greatest_of, count_of, counted}
use Rattle.typed_expr.specs.Yields.{Level, Yields, Some_yields, All_yield, Picks, Picks_parts, Takes}
use Rattle.typed_expr.specs.YieldsInside.{facts_of}
use Rattle.typed_expr.specs.Yields as y
use Rattle.typed_expr.specs.Kinds.{kind_of, HasKind, Each, Each_part, Each_case}
use Rattle.typed_expr.specs.Kinds as k
use Rattle.typed_expr.specs.Total.{value_of, value_step, all_true, one_true, first_true}
use Rattle.typed_expr.specs.Renames.{Renames}
use Rattle.typed_expr.specs.declared.expr.ValueKind.{ValueKind}
use Rattle.typed_expr.specs.declared.expr.ValueKind.TheVariants.{Truth, Whole}
use Rattle.typed_expr.specs.declared.expr.Expr.{Expr, out-Expr}
use Rattle.typed_expr.specs.declared.expr.Expr.TheOpen.{All, Any}
use Rattle.typed_expr.specs.declared.expr.Expr.TheFolds.{fold_out-Expr, map-Expr}
use Rattle.typed_expr.proofs.Renaming.{carries, renames_turned}

-- the value of one level of an expression
abbrev pub level_value : {V : Type 0} → (V → Value) → Level V → Value
level_value {V} t x = value_step t (map-Expr V (Expr V) Value (value_of t) x)

pub value_of-level : {V : Type 0} (t : V → Value) (e : Expr V) → value_of t e ≡ level_value t (out-Expr V e)
value_of-level {V} t e = fold_out-Expr V Value (value_step t) e

-- a truth value is its truth
pub truth-form : (v : Value) → kind_of v ≡ Truth → v ≡ val.Truth (truth_of v)
truth-form (val.Truth b) h = refl
truth-form (val.Whole n) h = cc
truth-form (val.Symbol s) h = cc

cond_both : {A : Type 0} (b : Bool) (x : A) → cond b x x ≡ x
cond_both true x = refl
cond_both false x = refl

module _ {V : Type 0} (facts : V → Value → Type 0) (t : V → Value)
    (only : (x : V) (w : Value) → facts x w → w ≡ t x) where
  mutual
    -- what is yielded is the value
    pub yielded-value : {e : Level V} {w : Value} → Yields facts e w → w ≡ level_value t e
    yielded-value y.constant = refl
    yielded-value (y.variable {x = x} {v = w} h) = only x w h
    yielded-value (y.opposite {a = a} {b = b} d) =
        let e : val.Truth b ≡ value_of t a.value =
        yielded-value d ∙ sym (value_of-level t a.value) in ap (λ z. val.Truth (not (truth_of z))) e
    yielded-value (y.one_false d) = ap val.Truth (sym (some-false d refl))
    yielded-value (y.all_true d) = ap val.Truth (sym (all-true d refl))
    yielded-value (y.one_true d) = ap val.Truth (sym (some-true d refl))
    yielded-value (y.all_false d) = ap val.Truth (sym (all-false d refl))
    yielded-value (y.compared {r = r} {a = a} {b = b} {v = x} {w = z} c d) =
        let left : x ≡ value_of t a.value = yielded-value c ∙ sym (value_of-level t a.value) in
        let right : z ≡ value_of t b.value = yielded-value d ∙ sym (value_of-level t b.value) in
        ap (λ u. val.Truth (is_related r u z)) left ∙ ap (λ u. val.Truth (is_related r (value_of t a.value) u)) right
    yielded-value (y.sum d) = ap (λ z. val.Whole (sum_of z)) (picked-parts d)
    yielded-value (y.product d) = ap (λ z. val.Whole (product_of z)) (picked d)
    yielded-value (y.least d) = ap (λ z. val.Whole (least_of z)) (picked d)
    yielded-value (y.greatest d) = ap (λ z. val.Whole (greatest_of z)) (picked d)
    yielded-value (y.count d) = ap (λ z. val.Whole (count_of z)) (picked d)
    yielded-value (y.choice {cases = cases} {other = other} d) =
        taken-value d ∙ ap (first_true (map (λ c. (value_of t c.0, value_of t c.1)) cases.items))
        (sym (value_of-level t other.value))

    pub some-false : {es : List (Expr V)} {w : Value} → Some_yields facts es w → w ≡ val.Truth false
        → all_true (map (value_of t) es) ≡ false
    some-false (y.here {e = e} d) i = cond-false _ _ _ (ap truth_of (value_of-level t e ∙ sym (yielded-value d) ∙ i))
    some-false (y.later {e = e} d) i =
        ap (λ z. cond (truth_of (value_of t e)) z false) (some-false d i) ∙ cond_both (truth_of (value_of t e)) false

    pub some-true : {es : List (Expr V)} {w : Value} → Some_yields facts es w → w ≡ val.Truth true
        → one_true (map (value_of t) es) ≡ true
    some-true (y.here {e = e} d) i = cond-true _ _ _ (ap truth_of (value_of-level t e ∙ sym (yielded-value d) ∙ i))
    some-true (y.later {e = e} d) i =
        ap (λ z. cond (truth_of (value_of t e)) true z) (some-true d i) ∙ cond_both (truth_of (value_of t e)) true

    pub all-true : {es : List (Expr V)} {w : Value} → All_yield facts es w → w ≡ val.Truth true
        → all_true (map (value_of t) es) ≡ true
    all-true y.none i = refl
    all-true (y.one_and {e = e} d ds) i =
        cond-true _ _ _ (ap truth_of (value_of-level t e ∙ sym (yielded-value d) ∙ i)) ∙ all-true ds i

    pub all-false : {es : List (Expr V)} {w : Value} → All_yield facts es w → w ≡ val.Truth false
        → one_true (map (value_of t) es) ≡ false
    all-false y.none i = refl
    all-false (y.one_and {e = e} d ds) i =
        cond-false _ _ _ (ap truth_of (value_of-level t e ∙ sym (yielded-value d) ∙ i)) ∙ all-false ds i

    pub picked : {es : List (Expr V)} {vs : List Value} → Picks facts es vs → vs ≡ map (value_of t) es
    picked y.no_operand = refl
    picked (y.operand {e = e} {v = w} {vs = vs} d ds) =
        ap (λ z. z ∷ vs) (yielded-value d ∙ sym (value_of-level t e)) ∙ ap (λ z. value_of t e ∷ z) (picked ds)

    pub picked-parts : {ps : List (Bool × Expr V)} {vs : List (Bool × Value)} → Picks_parts facts ps vs
        → vs ≡ map (λ p. (p.0, value_of t p.1)) ps
    picked-parts y.no_part = refl
    picked-parts (y.part {plus = plus} {e = e} {v = w} {vs = vs} d ds) =
        ap (λ z. (plus, z) ∷ vs) (yielded-value d ∙ sym (value_of-level t e)) ∙ ap (λ z. (plus, value_of t e) ∷ z)
        (picked-parts ds)

    pub taken-value : {cs : List (Expr V × Expr V)} {other : Level V} {w : Value} → Takes facts cs other w
        → w ≡ first_true (map (λ c. (value_of t c.0, value_of t c.1)) cs) (level_value t other)
    taken-value (y.otherwise d) = yielded-value d
    taken-value (y.taken {test = e} {value = f} c d) =
        yielded-value d ∙ sym (value_of-level t f) ∙ sym
        (cond-true (truth_of (value_of t e)) _ _ (ap truth_of (value_of-level t e ∙ sym (yielded-value c))))
    taken-value (y.passed {test = e} c d) =
        taken-value d ∙ sym
        (cond-false (truth_of (value_of t e)) _ _ (ap truth_of (value_of-level t e ∙ sym (yielded-value c))))

-- the value is yielded, and is of the kind
pub record Valued {V : Type 0} (facts : V → Value → Type 0) (t : V → Value) (e : Level V)
    (kind : ValueKind) : Type 0 where
  pub yields : Yields facts e (level_value t e)
  pub is_kind : kind_of (level_value t e) ≡ kind

-- all are true, or one is false
pub data Conjoined {V : Type 0} (facts : V → Value → Type 0) (t : V → Value) (es : List (Expr V)) : Type 0 where
  each_true : all_true (map (value_of t) es) ≡ true → All_yield facts es (val.Truth true) → Conjoined facts t es
  some_false : all_true (map (value_of t) es) ≡ false → Some_yields facts es (val.Truth false) → Conjoined facts t es

-- all are false, or one is true
pub data Disjoined {V : Type 0} (facts : V → Value → Type 0) (t : V → Value) (es : List (Expr V)) : Type 0 where
  each_false : one_true (map (value_of t) es) ≡ false → All_yield facts es (val.Truth false) → Disjoined facts t es
  some_true : one_true (map (value_of t) es) ≡ true → Some_yields facts es (val.Truth true) → Disjoined facts t es

module _ {V : Type 0} (facts : V → Value → Type 0) (t : V → Value) (kinds : V → ValueKind)
    (there : (x : V) → facts x (t x)) (agree : (x : V) → kind_of (t x) ≡ kinds x) where
  -- an operand of truth yields its truth
  truth_yields : (e : Expr V) → Valued facts t (out-Expr V e) Truth
      → Yields facts (out-Expr V e) (val.Truth (truth_of (value_of t e)))
  truth_yields e h =
      let P : Value → Type 0 = λ z. Yields facts (out-Expr V e) z in
      subst P
      (truth-form (level_value t (out-Expr V e)) h.is_kind
      ∙ ap (λ z. val.Truth (truth_of z)) (sym (value_of-level t e))) h.yields

  value_yields : (e : Expr V) (kind : ValueKind) → Valued facts t (out-Expr V e) kind
      → Yields facts (out-Expr V e) (value_of t e)
  value_yields e kind h =
      let P : Value → Type 0 = λ z. Yields facts (out-Expr V e) z in
      subst P (sym (value_of-level t e)) h.yields

  conjoin : (e : Expr V) (es : List (Expr V)) (b : Bool) → truth_of (value_of t e) ≡ b
      → Yields facts (out-Expr V e) (val.Truth b) → Conjoined facts t es → Conjoined facts t (e ∷ es)
  conjoin e es true i d (each_true j c) = each_true (cond-true _ _ _ i ∙ j) (y.one_and d c)
  conjoin e es true i d (some_false j c) = some_false (cond-true _ _ _ i ∙ j) (y.later c)
  conjoin e es false i d c = some_false (cond-false _ _ _ i) (y.here d)

  disjoin : (e : Expr V) (es : List (Expr V)) (b : Bool) → truth_of (value_of t e) ≡ b
      → Yields facts (out-Expr V e) (val.Truth b) → Disjoined facts t es → Disjoined facts t (e ∷ es)
  disjoin e es true i d c = some_true (cond-true _ _ _ i) (y.here d)
  disjoin e es false i d (each_false j c) = each_false (cond-false _ _ _ i ∙ j) (y.one_and d c)
  disjoin e es false i d (some_true j c) = some_true (cond-false _ _ _ i ∙ j) (y.later c)

  from_conjoined : (es : Vec (Expr V) Global) → Conjoined facts t es.items → Valued facts t (All es) Truth
  from_conjoined es (each_true j c) = record {
    yields = let P : Bool → Type 0 = λ z. Yields facts (All es) (val.Truth z) in subst P (sym j) (y.all_true c);
    is_kind = refl;
  }
  from_conjoined es (some_false j c) = record {
    yields = let P : Bool → Type 0 = λ z. Yields facts (All es) (val.Truth z) in subst P (sym j) (y.one_false c);
    is_kind = refl;
  }

  from_disjoined : (es : Vec (Expr V) Global) → Disjoined facts t es.items → Valued facts t (Any es) Truth
  from_disjoined es (each_false j c) = record {
    yields = let P : Bool → Type 0 = λ z. Yields facts (Any es) (val.Truth z) in subst P (sym j) (y.all_false c);
    is_kind = refl;
  }
  from_disjoined es (some_true j c) = record {
    yields = let P : Bool → Type 0 = λ z. Yields facts (Any es) (val.Truth z) in subst P (sym j) (y.one_true c);
    is_kind = refl;
  }

  -- what a choice takes
  pub record Chosen_value (cs : List (Expr V × Expr V)) (other : Level V) (kind : ValueKind) : Type 0 where
    pub takes : Takes facts cs other (first_true (map (λ c. (value_of t c.0, value_of t c.1)) cs) (level_value t other))
    pub is_kind : kind_of (first_true (map (λ c. (value_of t c.0, value_of t c.1)) cs) (level_value t other)) ≡ kind

  choose : (e f : Expr V) (cs : List (Expr V × Expr V)) (other : Level V) (kind : ValueKind) (b : Bool)
      → truth_of (value_of t e) ≡ b → Yields facts (out-Expr V e) (val.Truth b)
      → Valued facts t (out-Expr V f) kind → Chosen_value cs other kind → Chosen_value ((e, f) ∷ cs) other kind
  choose e f cs other kind true i d h c =
      let w =
      cond-true (truth_of (value_of t e)) (value_of t f)
      (first_true (map (λ c. (value_of t c.0, value_of t c.1)) cs) (level_value t other)) i in
      let P : Value → Type 0 = λ z. Takes facts ((e, f) ∷ cs) other z in
      record {
        takes = subst P (sym w) (y.taken d (value_yields f kind h));
        is_kind = ap kind_of w
            ∙ ap kind_of (value_of-level t f) ∙ h.is_kind;
      }
  choose e f cs other kind false i d h c =
      let w =
      cond-false (truth_of (value_of t e)) (value_of t f)
      (first_true (map (λ c. (value_of t c.0, value_of t c.1)) cs) (level_value t other)) i in
      let P : Value → Type 0 = λ z. Takes facts ((e, f) ∷ cs) other z in
      record { takes = subst P (sym w) (y.passed d c.takes); is_kind = ap kind_of w ∙ c.is_kind }

  mutual
    -- a well-typed expression yields its value
    pub valued : {e : Level V} {kind : ValueKind} → HasKind kinds e kind → Valued facts t e kind
    valued k.constant = record { yields = y.constant; is_kind = refl }
    valued (k.variable {x = x}) = record { yields = y.variable (there x); is_kind = agree x }
    valued (k.opposite {a = a} d) = record { yields = y.opposite (truth_yields a.value (valued d)); is_kind = refl }
    valued (k.all {es = es} l d) = from_conjoined es (conjoined d refl)
    valued (k.any {es = es} l d) = from_disjoined es (disjoined d refl)
    valued (k.compared {a = a} {b = b} {k = kind} c d e) = record {
      yields = y.compared (value_yields a.value kind (valued d)) (value_yields b.value kind (valued e));
      is_kind = refl;
    }
    valued (k.sum l d) = record { yields = y.sum (picks-parts d); is_kind = refl }
    valued (k.product l d) = record { yields = y.product (picks d); is_kind = refl }
    valued (k.least l d) = record { yields = y.least (picks d); is_kind = refl }
    valued (k.greatest l d) = record { yields = y.greatest (picks d); is_kind = refl }
    valued (k.count l d) = record { yields = y.count (picks d); is_kind = refl }
    valued (k.choice {cs = cs} {other = other} {k = kind} l c d) =
        let h = chosen c (valued d) in
        let i = value_of-level t other.value in
        let P : Value → Type 0 =
        λ z. Takes facts cs.items (out-Expr V other.value)
        (first_true (map (λ c. (value_of t c.0, value_of t c.1)) cs.items) z) in
        let Q : Value → Type 0 =
        λ z. kind_of (first_true (map (λ c. (value_of t c.0, value_of t c.1)) cs.items) z) ≡ kind in
        record { yields = y.choice (subst P (sym i) h.takes); is_kind = subst Q (sym i) h.is_kind }

    conjoined : {es : List (Expr V)} {kind : ValueKind} → Each kinds es kind → kind ≡ Truth → Conjoined facts t es
    conjoined k.none i = each_true refl y.none
    conjoined (k.one_and {e = e} {es = es} d ds) i =
        let P : ValueKind → Type 0 = λ z. Valued facts t (out-Expr V e) z in
        conjoin e es (truth_of (value_of t e)) refl (truth_yields e (subst P i (valued d))) (conjoined ds i)

    disjoined : {es : List (Expr V)} {kind : ValueKind} → Each kinds es kind → kind ≡ Truth → Disjoined facts t es
    disjoined k.none i = each_false refl y.none
    disjoined (k.one_and {e = e} {es = es} d ds) i =
        let P : ValueKind → Type 0 = λ z. Valued facts t (out-Expr V e) z in
        disjoin e es (truth_of (value_of t e)) refl (truth_yields e (subst P i (valued d))) (disjoined ds i)

    picks : {es : List (Expr V)} {kind : ValueKind} → Each kinds es kind → Picks facts es (map (value_of t) es)
    picks k.none = y.no_operand
    picks (k.one_and {e = e} {k = kind} d ds) = y.operand (value_yields e kind (valued d)) (picks ds)

    picks-parts : {ps : List (Bool × Expr V)} → Each_part kinds ps
        → Picks_parts facts ps (map (λ p. (p.0, value_of t p.1)) ps)
    picks-parts k.no_part = y.no_part
    picks-parts (k.part_and {e = e} d ds) = y.part (value_yields e Whole (valued d)) (picks-parts ds)

    chosen : {cs : List (Expr V × Expr V)} {kind : ValueKind} {other : Level V} → Each_case kinds cs kind
        → Valued facts t other kind → Chosen_value cs other kind
    chosen k.no_case h = record { takes = y.otherwise h.yields; is_kind = h.is_kind }
    chosen {other = other} (k.case_and {test = e} {value = f} {cs = cs} {k = kind} c d ds) h =
        choose e f cs other kind (truth_of (value_of t e)) refl (truth_yields e (valued c)) (valued d) (chosen ds h)

only_one : (w z : Value) → Contains (w ∷ []) z → z ≡ w
only_one w z m = elim (contains-cases w z [] m) [ inl e ↦ sym e | inr n ↦ absurd (nothing-in z n) ]

-- over one fact for each variable
pub one-fact : {V : Type 0} (t : V → Value) (kinds : V → ValueKind) → ((x : V) → kind_of (t x) ≡ kinds x)
    → (e : Expr V) (kind : ValueKind) → HasKind kinds (out-Expr V e) kind
    → (w : Value) → Yields (facts_of (λ x. t x ∷ [])) (out-Expr V e) w ↔ (w ≡ value_of t e)
one-fact {V} t kinds agree e kind h w =
    let facts : V → Value → Type 0 = facts_of (λ x. t x ∷ []) in
    let found = valued facts t kinds (λ x. contains-head (t x) []) agree h in
    let P : Value → Type 0 = λ z. Yields facts (out-Expr V e) z in (
      (λ d. yielded-value facts t (λ x z m. only_one (t x) z m) d ∙ sym (value_of-level t e)),
      (λ i. subst P (sym (i ∙ value_of-level t e)) found.yields),
    )

pub total-kind : {V : Type 0} (t : V → Value) (kinds : V → ValueKind) → ((x : V) → kind_of (t x) ≡ kinds x)
    → (e : Expr V) (kind : ValueKind) → HasKind kinds (out-Expr V e) kind → kind_of (value_of t e) ≡ kind
total-kind {V} t kinds agree e kind h =
    ap kind_of (value_of-level t e) ∙
    (valued (facts_of (λ x. t x ∷ [])) t kinds (λ x. contains-head (t x) []) agree h).is_kind

-- related variables with the same facts
pub renamed : {V W : Type 0} (same : V → W → Type 0) (facts : V → List Value) (others : W → List Value)
    → ((x : V) (z : W) → same x z → facts x ≡ others z)
    → (e : Level V) (f : Level W) → Renames same e f → (w : Value)
    → Yields (facts_of facts) e w ↔ Yields (facts_of others) f w
renamed {V} {W} same facts others agree e f r w = (
  (λ d. carries V W (facts_of facts) (facts_of others) same (λ x z u q m. let P : List Value → Type 0 = λ l. Contains l u in subst P (agree x z q) m) d r),
  (λ d. carries W V (facts_of others) (facts_of facts) (λ z x. same x z) (λ z x u q m. let P : List Value → Type 0 = λ l. Contains l u in subst P (sym (agree x z q)) m) d (renames_turned same r)),
)

counted_here : (n : ℕ) (b : Bool) → n + 1 < 2 ^ 63
    → saturate_signed w64 (cond b (pos n +ℤ pos 1) (pos n)) ≡ pos (n + cond b 1 0)
counted_here n true h = grind (arith, ints)
counted_here n false h = grind (arith, ints)

bit_small : (b : Bool) → cond b 1 0 ≤ 1
bit_small true = omega arith
bit_small false = omega arith

-- a count so far, and the values after it
counts : (n : ℕ) (vs : List Value) → n + length vs < 2 ^ 63 → fold counted (pos n) vs ≡ pos (n + count_by truth_of vs)
counts n [] h = ap pos (omega arith)
counts n (w ∷ vs) h =
    let b = bit_small (truth_of w) in
    let c = sum_by-cons (λ x. cond (truth_of x) 1 0) w vs in
    ap (λ z. fold counted z vs) (counted_here n (truth_of w) (omega (arith, h)))
    ∙ counts (n + cond (truth_of w) 1 0) vs (omega (arith, h, b)) ∙ ap pos (omega (arith, c))

-- a count is the number of the true values
pub count-true : (vs : List Value) → length vs < 2 ^ 63 → count_of vs ≡ pos (count_by truth_of vs)
count-true vs h = counts 0 vs (omega (arith, h)) ∙ ap pos (omega arith)
