use Rattle.std.proofs.Common.{◌≡◌, ◌≢◌, ℕ, suc, ◌<◌, ◌≤◌, Bool, true, false, cond, ◌||◌, eqb, List, [], ◌∷◌, ◌++◌, length, map, drop, refl, sym, ap, ap₂, ◌∙◌, subst, arith, ⊎_elim, ◌⊎◌, inl, inr, filter, nat_lt, lt-ltb, zero-le, true≢false, eqb-true, eq-eqb}
use Rattle.std.proofs.lemmas.Bool.{and_parts, lt-ltb}
use Rattle.std.specs.List.{AllByRecursion}
use Rattle.std.proofs.lemmas.Bool.Decides.{nat_tests}
use Rattle.ar_base.specs.Sets.{Ascends}
use Rattle.std.proofs.lemmas.List.Elements.{All-weaker}
use Rattle.zdd_nodes.specs.Families.{Family, same, holds, without}
use Rattle.zdd_nodes.specs.FamiliesInside.{node, IsAbove}
use Rattle.zdd_nodes.specs.Sections.{below, section, IsSetBelow, IsCounted, IsPartOfBoth, IsMoreThan}
use Rattle.zdd_nodes.proofs.Ascending.{ascends_nil, ascends_cons}
use Rattle.zdd_nodes.proofs.Laws.{IsAbove_set, filter-node, filter_alike, filter-none, filter-all, every, each_of, same-with, same-above, same-under}

abbrev pub AtLeast : ℕ → List ℕ → Type 0
AtLeast i s = AllByRecursion (λ x. i ≤ x) s

not_below : (i x : ℕ) → i ≤ x → nat_lt x i ≡ false
not_below i x h = grind (arith, nat_tests)

pub below-low : (i : ℕ) (s : List ℕ) → AtLeast i s → below i s ≡ []
below-low i [] a = refl
below-low i (x ∷ s) a = ap (λ b. cond b (x ∷ below i s) (below i s)) (not_below i x a.0) ∙ below-low i s a.1

below-above : (v i : ℕ) (s : List ℕ) → IsAbove_set v s → IsAbove_set v (below i s)
below-above v i [] a = tt
below-above v i (x ∷ s) a = elim (nat_lt x i) as (λ b. IsAbove_set v (cond b (x ∷ below i s) (below i s)))
    [ true ↦ (a.0, below-above v i s a.1) | false ↦ below-above v i s a.1 ]

at_least_zero : (s : List ℕ) → AtLeast 0 s
at_least_zero [] = tt
at_least_zero (x ∷ s) = (zero-le, at_least_zero s)

pub at_least_above : (i v : ℕ) (s : List ℕ) → i ≤ suc v → IsAbove_set v s → AtLeast i s
at_least_above i v [] h a = tt
at_least_above i v (x ∷ s) h a = (omega (arith, a.0), at_least_above i v s h a.1)

map_drop-zero : (f : Family) → map (drop 0) f ≡ f
map_drop-zero [] = refl
map_drop-zero (s ∷ f) = ap (λ x. s ∷ x) (map_drop-zero f)

pub section-low : (i : ℕ) (f : Family) → AllByRecursion (AtLeast i) f → section i [] f ≡ f
unfolding section
section-low i f a = ap (map (drop 0))
    (filter-all (λ s. same (below i s) []) f
    (each_of (AtLeast i) (λ s. same (below i s) [] ≡ true) (λ s k. ap (λ x. same x []) (below-low i s k)) f a))
    ∙ map_drop-zero f

pub section-whole : (f : Family) → section 0 [] f ≡ f
section-whole f = section-low 0 f (every (AtLeast 0) at_least_zero f)

pub section-low_none : (i x : ℕ) (p : List ℕ) (f : Family) → AllByRecursion (AtLeast i) f → section i (x ∷ p) f ≡ []
unfolding section
section-low_none i x p f a = ap (map (drop (length (x ∷ p))))
    (filter-none (λ s. same (below i s) (x ∷ p)) f
    (each_of (AtLeast i) (λ s. same (below i s) (x ∷ p) ≡ false) (λ s k. ap (λ y. same y (x ∷ p)) (below-low i s k)) f
    a))

map_drop-with : (v n : ℕ) (f : Family) → map (drop (suc n)) (map (λ s. v ∷ s) f ++ []) ≡ map (drop n) f
map_drop-with v n [] = refl
map_drop-with v n (s ∷ f) = ap (λ x. drop n s ∷ x) (map_drop-with v n f)

pub section-with : (v i : ℕ) (p : List ℕ) (lo hi : Family) → v < i → IsAbove v lo
    → section i (v ∷ p) (node v lo hi) ≡ section i p hi
unfolding section
section-with v i p lo hi h a =
    let q = λ (s : List ℕ). same (below i s) (v ∷ p) in
    ap (map (drop (suc (length p)))) (filter-node v q lo hi ∙ ap₂ (node v)
    (filter-none q lo (each_of (IsAbove_set v) (λ s. q s ≡ false)
    (λ s k. same-under v (below i s) p (below-above v i s k)) lo a))
    (filter_alike (λ s. q (v ∷ s)) (λ s. same (below i s) p) hi (every (λ s. q (v ∷ s) ≡ same (below i s) p)
    (λ s. ap (λ b. same (cond b (v ∷ below i s) (below i s)) (v ∷ p)) (lt-ltb v i h) ∙ same-with v (below i s) p) hi)))
    ∙ map_drop-with v (length p) (filter (λ s. same (below i s) p) hi)

pub section-without : (v i : ℕ) (p : List ℕ) (lo hi : Family) → v < i → IsAbove_set v p
    → section i p (node v lo hi) ≡ section i p lo
unfolding section
section-without v i p lo hi h a =
    let q = λ (s : List ℕ). same (below i s) p in
    ap (map (drop (length p))) (filter-node v q lo hi ∙ ap (node v (filter q lo))
    (filter-none (λ s. q (v ∷ s)) hi (every (λ s. q (v ∷ s) ≡ false)
    (λ s. ap (λ b. same (cond b (v ∷ below i s) (below i s)) p) (lt-ltb v i h) ∙ same-above v (below i s) p a) hi)))

same-above_all : (v : ℕ) (s p : List ℕ) → IsAbove_set v s → same s p ≡ true → IsAbove_set v p
same-above_all v [] [] a h = tt
same-above_all v [] (y ∷ p) a h = let no : ⊥ = cc in absurd no
same-above_all v (x ∷ s) [] a h = tt
same-above_all v (x ∷ s) (y ∷ p) a h = let t = and_parts (eqb x y) (same s p) h in (subst (λ z. v < z) (eqb-true x y t.0) a.0, same-above_all v s p a.1 t.1)

section_or_above : (v i : ℕ) (p : List ℕ) (f : Family) → IsAbove v f
    → (filter (λ s. same (below i s) p) f ≡ []) ⊎ IsAbove_set v p
section_or_above v i p [] a = inl refl
section_or_above v i p (s ∷ f) a = step (section_or_above v i p f a.1) (same (below i s) p) refl
  where
    step : (filter (λ s. same (below i s) p) f ≡ []) ⊎ IsAbove_set v p → (b : Bool) → same (below i s) p ≡ b
        → (filter (λ s. same (below i s) p) (s ∷ f) ≡ []) ⊎ IsAbove_set v p
    step ih true e = inr (same-above_all v (below i s) p (below-above v i s a.0) e)
    step ih false e = ⊎_elim (λ n. inl
        (ap (λ b. cond b (s ∷ filter (λ s. same (below i s) p) f) (filter (λ s. same (below i s) p) f)) e ∙ n))
        (λ r. inr r) ih

pub section-above : (v i : ℕ) (p : List ℕ) (f : Family) → IsAbove v f → (section i p f ≡ []) ⊎ IsAbove_set v p
unfolding section
section-above v i p f a = ⊎_elim (λ n. inl (ap (map (drop (length p))) n)) (λ r. inr r) (section_or_above v i p f a)

-- a section of a family above v, by a place above v
pub record Deep (v : ℕ) (f h : Family) : Type 0 where
  pub at : ℕ
  pub taken : List ℕ
  pub after : v < at
  pub above : IsAbove_set v taken
  pub under : IsSetBelow at taken
  pub is : h ≡ section at taken f

pub low_all : (i v : ℕ) (f : Family) → i ≤ suc v → IsAbove v f → AllByRecursion (AtLeast i) f
low_all i v f h a = each_of (IsAbove_set v) (AtLeast i) (λ s k. at_least_above i v s h k) f a

pub deep : (v i : ℕ) (p : List ℕ) (f h : Family) → IsAbove v f → IsSetBelow i p → h ≡ section i p f → h ≢ []
    → Deep v f h
deep v i p f h a u e n = ⊎_elim (low p e) high split
  where
    split : (i ≤ v) ⊎ (v < i)
    split = grind arith

    low : (p : List ℕ) → h ≡ section i p f → i ≤ v → Deep v f h
    low [] e l = record {
      at = suc v;
      taken = [];
      after = omega arith;
      above = tt;
      under = (ascends_nil, tt);
      is = e
          ∙ section-low i f (low_all i v f (omega arith) a)
          ∙ sym (section-low (suc v) f (low_all (suc v) v f (omega arith) a));
    }
    low (x ∷ p) e l = absurd (n (e ∙ section-low_none i x p f (low_all i v f (omega arith) a)))

    high : v < i → Deep v f h
    high l = ⊎_elim (λ z. absurd (n (e ∙ z)))
        (λ k. record { at = i; taken = p; after = l; above = k; under = u; is = e }) (section-above v i p f a)

pub IsCounted-self : (f : Family) → f ≢ [] → f ≢ [] ∷ [] → IsCounted f f
IsCounted-self f n u = record {
  at = 0;
  taken = [];
  taken_below = (ascends_nil, tt);
  is = sym (section-whole f);
  not_empty = n;
  not_unit = u;
}

pub IsCounted-lower : (v : ℕ) (lo hi h : Family) → IsAbove v lo → IsCounted lo h → IsCounted (node v lo hi) h
IsCounted-lower v lo hi h a c =
    let d = deep v c.at c.taken lo h a c.taken_below c.is c.not_empty in
    record {
      at = d.at;
      taken = d.taken;
      taken_below = d.under;
      is = d.is
          ∙ sym (section-without v d.at d.taken lo hi d.after d.above);
      not_empty = c.not_empty;
      not_unit = c.not_unit;
    }

pub IsCounted-upper : (v : ℕ) (lo hi h : Family) → IsAbove v lo → IsAbove v hi → IsCounted hi h
    → IsCounted (node v lo hi) h
IsCounted-upper v lo hi h a b c =
    let d = deep v c.at c.taken hi h b c.taken_below c.is c.not_empty in
    record {
      at = d.at;
      taken = v ∷ d.taken;
      taken_below = (ascends_cons v d.taken d.above d.under.0, (d.after, d.under.1));
      is =
          d.is ∙ sym (section-with v d.at d.taken lo hi d.after a);
      not_empty = c.not_empty;
      not_unit = c.not_unit;
    }

-- ---- Parts
pub section-nil : (i : ℕ) (p : List ℕ) → section i p [] ≡ []
unfolding section
section-nil i p = refl

without-nil : (g : Family) → without [] g ≡ []
unfolding without
without-nil g = refl

pub counted_nil : (f h : Family) → f ≡ [] → IsCounted f h → ⊥
counted_nil f h e c = c.not_empty (c.is ∙ ap (section c.at c.taken) e ∙ section-nil c.at c.taken)

none_among : (x : ℕ) (q : List ℕ) → AllByRecursion (λ x. holds x [] ≡ true) (x ∷ q) → ⊥
none_among x q a = true≢false (sym a.0)

fewer_above : (v : ℕ) (p : List ℕ) → IsAbove_set v p → (x : ℕ) → holds x p ≡ true → v < x
fewer_above v [] a x h = let no : ⊥ = cc in absurd no
fewer_above v (y ∷ p) a x h = step (fewer_above v p a.1 x) (eqb x y) refl
  where
    step : (holds x p ≡ true → v < x) → (b : Bool) → eqb x y ≡ b → v < x
    step ih true e = subst (λ z. v < z) (sym (eqb-true x y e)) a.0
    step ih false e = ih (ap (λ b. b || holds x p) (sym e) ∙ h)

all_fewer_above : (v : ℕ) (p q : List ℕ) → IsAbove_set v p → AllByRecursion (λ x. holds x p ≡ true) q → IsAbove_set v q
all_fewer_above v p [] a b = tt
all_fewer_above v p (x ∷ q) a b = (fewer_above v p a x b.0, all_fewer_above v p q a b.1)

-- a part of two families above v, by a place above v
pub record DeepPart (v : ℕ) (f g h : Family) : Type 0 where
  pub at : ℕ
  pub taken : List ℕ
  pub fewer : List ℕ
  pub after : v < at
  pub above : IsAbove_set v taken
  pub fewer_above : IsAbove_set v fewer
  pub under : IsSetBelow at taken
  pub fewer_ascends : Ascends fewer
  pub among : AllByRecursion (λ x. holds x taken ≡ true) fewer
  pub counted : IsCounted (without (section at taken f) (section at fewer g)) h

pub deep_part : (v : ℕ) (f g h : Family) → IsAbove v f → IsAbove v g → IsPartOfBoth f g h → DeepPart v f g h
deep_part v f g h a b c = ⊎_elim (λ l. low c.taken c.fewer c.among c.counted l) high split
  where
    split : (c.at ≤ v) ⊎ (v < c.at)
    split = grind arith

    low : (p q : List ℕ) → AllByRecursion (λ x. holds x p ≡ true) q
        → IsCounted (without (section c.at p f) (section c.at q g)) h → c.at ≤ v → DeepPart v f g h
    low [] [] m k l =
        let ef = section-low c.at f (low_all c.at v f (omega arith) a)
        ∙ sym (section-low (suc v) f (low_all (suc v) v f (omega arith) a)) in
        let eg = section-low c.at g (low_all c.at v g (omega arith) b)
        ∙ sym (section-low (suc v) g (low_all (suc v) v g (omega arith) b)) in
        record {
          at = suc v;
          taken = [];
          fewer = [];
          after = omega arith;
          above = tt;
          fewer_above = tt;
          fewer_ascends = ascends_nil;
          under = (ascends_nil, tt);
          among = tt;
          counted =
              subst (λ x. IsCounted x h) (ap₂ without ef eg) k;
        }
    low [] (x ∷ q) m k l = absurd (none_among x q m)
    low (x ∷ p) q m k l = absurd (counted_nil _ h
        (ap (λ y. without y (section c.at q g)) (section-low_none c.at x p f (low_all c.at v f (omega arith) a))
        ∙ without-nil (section c.at q g)) k)

    high : v < c.at → DeepPart v f g h
    high l = ⊎_elim
        (λ z. absurd (counted_nil _ h (ap (λ y. without y (section c.at c.fewer g)) z
        ∙ without-nil (section c.at c.fewer g)) c.counted))
        (λ k. record {
          at = c.at;
          taken = c.taken;
          fewer = c.fewer;
          after = l;
          above = k;
          fewer_above = all_fewer_above v c.taken c.fewer k c.among;
          fewer_ascends = c.fewer_ascends;
          under =
              c.taken_below;
          among = c.among;
          counted = c.counted;
        })
        (section-above v c.at c.taken f a)

still_among : (v : ℕ) (p q : List ℕ) → AllByRecursion (λ x. holds x p ≡ true) q
    → AllByRecursion (λ x. holds x (v ∷ p) ≡ true) q
still_among v p [] a = tt
still_among v p (x ∷ q) a = (
  elim (eqb x v) as (λ b. (b || holds x p) ≡ true) [ true ↦ refl | false ↦ a.0 ],
  still_among
      v p q a.1,
)

module _ (v : ℕ) (f0 f1 g0 g1 h : Family) (af0 : IsAbove v f0) (af1 : IsAbove v f1) (ag0 : IsAbove v g0)
    (ag1 : IsAbove v g1) where
  pub IsPart-00 : IsPartOfBoth f0 g0 h → IsPartOfBoth (node v f0 f1) (node v g0 g1) h
  IsPart-00 c =
      let d = deep_part v f0 g0 h af0 ag0 c in
      record {
        at = d.at;
        taken = d.taken;
        fewer = d.fewer;
        fewer_ascends = d.fewer_ascends;
        taken_below = d.under;
        among = d.among;
        counted = subst (λ x. IsCounted x h)
            (ap₂ without (sym (section-without v d.at d.taken f0 f1 d.after d.above))
            (sym (section-without v d.at d.fewer g0 g1 d.after d.fewer_above))) d.counted;
      }

  pub IsPart-10 : IsPartOfBoth f1 g0 h → IsPartOfBoth (node v f0 f1) (node v g0 g1) h
  IsPart-10 c =
      let d = deep_part v f1 g0 h af1 ag0 c in
      record {
        at = d.at;
        taken = v ∷ d.taken;
        fewer = d.fewer;
        fewer_ascends = d.fewer_ascends;
        taken_below = (ascends_cons v d.taken d.above d.under.0, (d.after, d.under.1));
        among = still_among v d.taken d.fewer d.among;
        counted = subst (λ x. IsCounted x h)
            (ap₂ without (sym (section-with v d.at d.taken f0 f1 d.after af0))
            (sym (section-without v d.at d.fewer g0 g1 d.after d.fewer_above))) d.counted;
      }

  pub IsPart-11 : IsPartOfBoth f1 g1 h → IsPartOfBoth (node v f0 f1) (node v g0 g1) h
  IsPart-11 c =
      let d = deep_part v f1 g1 h af1 ag1 c in
      record {
        at = d.at;
        taken = v ∷ d.taken;
        fewer = v ∷ d.fewer;
        fewer_ascends = ascends_cons v d.fewer d.fewer_above d.fewer_ascends;
        taken_below = (ascends_cons v d.taken d.above d.under.0, (d.after, d.under.1));
        among = (ap (λ b. b || holds v d.taken) (eq-eqb v v refl), still_among v d.taken d.fewer d.among);
        counted = subst (λ x. IsCounted x h)
            (ap₂ without (sym (section-with v d.at d.taken f0 f1 d.after af0))
            (sym (section-with v d.at d.fewer g0 g1 d.after ag0))) d.counted;
      }

-- what the whole result counts is a part
pub IsPart-whole : (f g h : Family) → IsCounted (without f g) h → IsPartOfBoth f g h
IsPart-whole f g h c = record {
  at = 0;
  taken = [];
  fewer = [];
  fewer_ascends = ascends_nil;
  taken_below = (ascends_nil, tt);
  among = tt;
  counted = subst (λ x. IsCounted x h) (ap₂ without (sym (section-whole f)) (sym (section-whole g))) c;
}

-- ---- counts of families
pub IsMoreThan-weaker : (n : ℕ) (P Q : Family → Type 0) → ((h : Family) → P h → Q h) → IsMoreThan n P → IsMoreThan n Q
IsMoreThan-weaker n P Q weaker m = record
    { members = m.members; different = m.different; all = All-weaker P Q weaker m.members m.all; count = m.count }
