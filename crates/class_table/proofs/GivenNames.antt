-- The names that members give, in a set, and who gives each.
use Rattle.std.proofs.Common.{◌≡◌, ℕ, zero, suc, ◌+◌, ◌-◌, ◌<◌, ◌≤◌, ◌⊎◌, inl, inr, Bool, true, false, cond, nat_eq, ◌==◌, ◌&&◌, List, [], ◌∷◌, ◌++◌, map, length, drop, Option, Some, None, refl, sym, ◌∙◌, ap, subst, arith}
use Rattle.std.proofs.Common.{eq-eqb, ne_eqb}
use Rattle.std.proofs.lemmas.Bool.{cases_eq}
use Rattle.std.proofs.Math.Seq.{drop-append_seam}
use Rattle.std.proofs.lemmas.List.{append-nil, drop-map, length-append}
use Rattle.std.proofs.lemmas.Option.{same_Some}
use Rattle.std.specs.HashSet as bag
use Rattle.ar_base.specs.Lists.{Stands, IsOneOf, Along}
use Rattle.ar_base.specs.Numbers.{BodyId}
use Rattle.ar_base.specs.declared.places.Place.{Place}
use Rattle.ar_base.proofs.Standing.{one_none, one_first, one_rest, one_split, one_here, stands_within, stands_left, stands_right, stands_split, stands_next, stands_none, only_item}
use Rattle.ar_base.proofs.Comparing.{lt_or_same, not_before}
use Rattle.class_table.specs.Declaring.{Declared}
use Rattle.class_table.specs.Members.{Site, Members, own_at, sites_from, names_of, owned_at}
use Rattle.class_table.specs.TablesInside.{site_of, IsBodyOf}
use Rattle.class_table.specs.Earliest.{IsEarliest, nowhere, there, IsEarlierOf}
use Rattle.class_table.specs.Repeating.{IsNamed}
use Rattle.class_table.specs.Retested.{names_of_site, member_names_at, IsNameTaken, same_given, GivesAt, MayGive, giver_of, IsKnownAt, AddsGivenName, AddsGiven, KnowsGiven}
use Rattle.class_table.specs.Shown.{member_place}
use Rattle.class_table.specs.declared.given.Given.{Given}
use Rattle.class_table.specs.declared.given.Giver.{Giver}
use Rattle.class_table.specs.declared.tables.Body.{Body}
use Rattle.class_table.specs.declared.tables.Owned.{Owned}
use Rattle.class_table.proofs.FirstPlaces.{earliest_both, earliest_same}
use Rattle.class_table.proofs.Repeated.{named_none, named_split, named_before, named_last}
use Rattle.class_table.proofs.Retested.{InParts, in_parts, names_join, length_sites}
use Rattle.class_table.proofs.MemberNames.{named_next}
use Rattle.class_table.proofs.OwnAt.{shown_back}
use Rattle.class_table.proofs.Taken.{length_map}

-- Keys

-- a key for each site and name
abbrev pub key : Site → ℕ → (ℕ × ℕ) × ℕ
key s x = ((s.body, s.place), x)

both_true : (a b : Bool) → (a && b) ≡ true → (a ≡ true) × (b ≡ true)
both_true true b e = (refl, e)
both_true false b e = cc

same_number : (m n : ℕ) → (m == n) ≡ true → m ≡ n
same_number m n e = elim (cases_eq m n) [ inl i ↦ i | inr h ↦ (let f = ne_eqb m n h in absurd (cc)) ]

pub key_same : (s : Site) (x : ℕ) → same_given (key s x) (key s x) ≡ true
key_same s x = by (s.body == s.body) (s.place == s.place) (x == x) (eq-eqb _ _ refl) (eq-eqb _ _ refl) (eq-eqb _ _ refl)
  where
    by : (a b c : Bool) → a ≡ true → b ≡ true → c ≡ true → ((a && b) && c) ≡ true
    by true true true e f g = refl
    by true true false e f g = cc
    by true false c e f g = cc
    by false b c e f g = cc

pub key_one : (s t : Site) (x y : ℕ) → same_given (key s x) (key t y) ≡ true → (s ≡ t) × (x ≡ y)
key_one s t x y e =
    let a = both_true ((s.body == t.body) && (s.place == t.place)) (x == y) e in
    let b = both_true (s.body == t.body) (s.place == t.place) a.0 in
    (sites (same_number s.body t.body b.0) (same_number s.place t.place b.1), same_number x y a.1)
  where
    sites : s.body ≡ t.body → s.place ≡ t.place → s ≡ t
    sites f g = ap (λ (n : ℕ). record { body = n; place = s.place }) f
        ∙ ap (λ (n : ℕ). record { body = t.body; place = n }) g

-- Adding

-- one name more of one site
pub adds_name : (s : Site) (x : ℕ) (r : Giver) (old new : Given) → ((q : (ℕ × ℕ) × ℕ) → bag.contains same_given new.names q
    ≡ cond (same_given (key s x) q) true (bag.contains same_given old.names q))
    → ((y : ℕ) → giver_of new y ≡ cond (nat_eq x y) (Some r) (giver_of old y)) → MayGive (Some r) s
    → ((t : Site) → MayGive (giver_of old x) t → MayGive (Some r) t) → AddsGivenName s x old new
adds_name s x r old new u v one others = record { kept = kept; added = (here, last); only = only }
  where
    may_as : (t : Site) (o p : Option Giver) → o ≡ p → MayGive p t → MayGive o t
    may_as t o p e m = subst (λ (g : Option Giver). MayGive g t) (sym e) m

    kept : (t : Site) (y : ℕ) → IsKnownAt old t y → IsKnownAt new t y
    kept t y g = (u (key t y) ∙ by (same_given (key s x) (key t y)) g.0, may (cases_eq x y))
      where
        by : (b : Bool) → GivesAt old t y → cond b true (bag.contains same_given old.names (key t y)) ≡ true
        by true g = refl
        by false g = g

        may : (x ≡ y) ⊎ (x ≡ y → ⊥) → MayGive (giver_of new y) t
        may (inl i) = may_as t (giver_of new y) (Some r)
            (v y ∙ ap (λ (b : Bool). cond b (Some r) (giver_of old y)) (eq-eqb x y i))
            (others t (subst (λ (z : ℕ). MayGive (giver_of old z) t) (sym i) g.1))
        may (inr n) = may_as t (giver_of new y) (giver_of old y)
            (v y ∙ ap (λ (b : Bool). cond b (Some r) (giver_of old y)) (ne_eqb x y n)) g.1

    here : GivesAt new s x
    here = u (key s x) ∙ ap (λ (b : Bool). cond b true (bag.contains same_given old.names (key s x))) (key_same s x)

    last : MayGive (giver_of new x) s
    last = may_as s (giver_of new x) (Some r)
        (v x ∙ ap (λ (b : Bool). cond b (Some r) (giver_of old x)) (eq-eqb x x refl)) one

    only : (t : Site) (y : ℕ) → GivesAt new t y → GivesAt old t y ⊎ ((s ≡ t) × (x ≡ y))
    only t y g = by (same_given (key s x) (key t y)) refl (sym (u (key t y)) ∙ g)
      where
        by : (b : Bool) → same_given (key s x) (key t y) ≡ b
            → cond b true (bag.contains same_given old.names (key t y)) ≡ true → GivesAt old t y ⊎ ((s ≡ t) × (x ≡ y))
        by true e i = inr (key_one s t x y e)
        by false e i = inl i

-- names of the member at a site were added
pub record AddsAt (s : Site) (names : List (ℕ × Place)) (old new : Given) : Type 0 where
  pub kept : (t : Site) (x : ℕ) → IsKnownAt old t x → IsKnownAt new t x
  pub added : (x : ℕ) → IsNamed names x → IsKnownAt new s x
  pub only : (t : Site) (x : ℕ) → GivesAt new t x → GivesAt old t x ⊎ ((s ≡ t) × IsNamed names x)

pub at_none : (s : Site) (g : Given) → AddsAt s [] g g
at_none s g = record { kept = λ t x h. h; added = λ x n. absurd (named_none x n); only = λ t x h. inl h }

pub at_next : (s : Site) (names : List (ℕ × Place)) (x : ℕ) (p : Place) (first old new : Given)
    → AddsAt s names first old → AddsGivenName s x old new → AddsAt s (names ++ (x, p) ∷ []) first new
at_next s names x p first old new h a = record {
  kept = λ t y g. a.kept t y (h.kept t y g);
  added = λ y n. elim (named_split names x p y n) [
    | inl m ↦ a.kept s y (h.added y m)
    | inr e ↦ subst (IsKnownAt new s) e a.added
  ];
  only = λ t y g. elim (a.only t y g) [
    | inl j ↦ elim (h.only t y j) [ inl k ↦ inl k | inr k ↦ inr (k.0, named_before names x p y k.1) ]
    | inr j ↦ inr (j.0, subst (IsNamed (names ++ (x, p) ∷ [])) j.1 (named_last names x p))
  ];
}

pub at_site : (d : Declared) (s : Site) (names : List (ℕ × Place)) (old new : Given) → names_of_site d s ≡ names
    → AddsAt s names old new → AddsGiven d (s ∷ []) old new
at_site d s names old new e h = record {
  kept = h.kept;
  added = λ t x i n.
      let j = only_item s t i in
      subst (λ (z : Site). IsKnownAt new z x) j (h.added x (subst (λ (ns : List (ℕ × Place)). IsNamed ns x)
      (ap (names_of_site d) (sym j) ∙ e) n));
  only = λ t x g. elim (h.only t x g) [
    | inl a ↦ inl a
    | inr a ↦ inr (subst (λ (ns : List (ℕ × Place)). IsNamed ns x) (sym e ∙ ap (names_of_site d) a.0) a.1)
  ];
}

pub gives_none : (d : Declared) (g : Given) → AddsGiven d [] g g
gives_none d g = record { kept = λ s x h. h; added = λ s x i n. absurd (one_none s i); only = λ s x h. inl h }

pub gives_more : (d : Declared) (xs ys : List Site) (a b c : Given) → AddsGiven d xs a b → AddsGiven d ys b c
    → AddsGiven d (xs ++ ys) a c
gives_more d xs ys a b c h k = record {
  kept = λ s x g. k.kept s x (h.kept s x g);
  added = λ s x i n. elim (one_split xs ys s i) [
    | inl j ↦ k.kept s x (h.added s x j n)
    | inr j ↦ k.added s x j n
  ];
  only = λ s x g. elim (k.only s x g) [ inl j ↦ h.only s x j | inr j ↦ inr j ];
}

-- Bodies one after the other

-- the set has the names of the members of the first i bodies
pub record KnowsFirst (d : Declared) (i : ℕ) (g : Given) : Type 0 where
  pub sound : (s : Site) (x : ℕ) → GivesAt g s x → IsNamed (names_of_site d s) x
  pub there : (s : Site) (x : ℕ) → s.body < i → IsNamed (names_of_site d s) x → IsKnownAt g s x

pub first_none : (d : Declared) (g : Given) → ((q : (ℕ × ℕ) × ℕ) → bag.contains same_given g.names q ≡ true → ⊥)
    → KnowsFirst d 0 g
first_none d g e = record {
  sound = λ s x h. absurd (e (key s x) h);
  there = λ s x l n. absurd (omega (arith, l));
}

module _ (d : Declared) where
  -- a site that gives a name is that of a member
  there_is : (s : Site) (x : ℕ) → IsNamed (names_of_site d s) x → (o : Owned) × Stands (own_at d s.body) s.place o
  there_is s x n = by (owned_at d s) refl n
    where
      by : (o : Option Owned) → owned_at d s ≡ o → IsNamed (map member_place (names_of d s o)) x
          → (o : Owned) × Stands (own_at d s.body) s.place o
      by None e n = absurd (named_none x n)
      by (Some o) e n = (o, e)

  -- and one of those of its body
  in_sites : (b k : ℕ) (os : List Owned) (i : ℕ) (o : Owned) → Stands os i o
      → IsOneOf (sites_from b k os) (record { body = b; place = k + i })
  in_sites b k [] i o s = absurd (stands_none i o s)
  in_sites b k (p ∷ os) zero o s = subst (λ (n : ℕ). IsOneOf (sites_from b k (p ∷ os)) (record { body = b; place = n }))
      (let e : k ≡ k + 0 = omega arith in e) (one_first _ _)
  in_sites b k (p ∷ os) (suc i) o s = one_rest _ _ _
      (subst (λ (n : ℕ). IsOneOf (sites_from b (k + 1) os) (record { body = b; place = n }))
      (let e : (k + 1) + i ≡ k + suc i = omega arith in e) (in_sites b (k + 1) os i o s))

  pub first_next : (i : ℕ) (all : List (BodyId × ℕ)) (own : List Owned) (n : ℕ) (old new : Given)
      → Members d i (map site_of all) → own_at d i ≡ own → n ≡ length all - length own → KnowsFirst d i old
      → AddsGiven d (map site_of (drop n all)) old new → KnowsFirst d (i + 1) new
  first_next i all own n old new m e l h a = record {
    sound = λ s x g. elim (a.only s x g) [ inl j ↦ h.sound s x j | inr j ↦ j ];
    there = λ s x lt named. elim (lt_or_same s.body i (omega (arith, lt))) [
      | inl j ↦ a.kept s x (h.there s x j named)
      | inr j ↦ a.added s x (here s x j named) named
    ];
  }
    where
      t : InParts d i own (map site_of all)
      t = in_parts d i _ own m e

      long : length (map site_of all) ≡ length t.inherited + length own
      long = ap length t.joined ∙ (length-append t.inherited (sites_from i 0 own)
          ∙ ap (λ (k : ℕ). length t.inherited + k) (length_sites d i 0 own))

      rest : map site_of (drop n all) ≡ sites_from i 0 own
      rest =
          let v = length_map site_of all in
          let w = long in
          let k : n ≡ length t.inherited = omega (arith, l, v, w) in
          sym (drop-map site_of n all) ∙ (ap (drop n) t.joined
          ∙ (ap (λ (q : ℕ). drop q (t.inherited ++ sites_from i 0 own)) k
          ∙ drop-append_seam t.inherited (sites_from i 0 own)))

      here : (s : Site) (x : ℕ) → s.body ≡ i → IsNamed (names_of_site d s) x → IsOneOf (map site_of (drop n all)) s
      here s x j named =
          let o = there_is s x named in
          let v = subst (λ (os : List Owned). Stands os s.place o.0) (ap (own_at d) j ∙ e) o.1 in
          let u = subst (λ (n : ℕ). IsOneOf (sites_from i 0 own) (record { body = i; place = n }))
          (let z : 0 + s.place ≡ s.place = omega arith in z) (in_sites i 0 own s.place o.0 v) in
          subst (λ (ss : List Site). IsOneOf ss s) (sym rest)
          (subst (IsOneOf (sites_from i 0 own)) (ap (λ (b : ℕ). record { body = b; place = s.place }) (sym j)) u)

  pub first_all : (bodies : List Body) (i : ℕ) (g : Given) → Along IsBodyOf bodies d.bodies → length bodies ≤ i
      → KnowsFirst d i g → KnowsGiven d g
  first_all bodies i g shown l h =
      record { each = λ s x. (h.sound s x, λ n. (back s x n).0); admitted = λ s x n. (back s x n).1 }
    where
      back : (s : Site) (x : ℕ) → IsNamed (names_of_site d s) x → IsKnownAt g s x
      back s x n =
          let o = there_is s x n in
          let b = shown_back d bodies shown s.body o.0 (one_here _ _ _ o.1) in
          let w = stands_within bodies s.body b.0 b.1 in
          h.there s x (omega (arith, w, l)) n

-- Looking names up

pub named_left : (xs ys : List (ℕ × Place)) (x : ℕ) → IsNamed xs x → IsNamed (xs ++ ys) x
named_left xs ys x n = record { k = n.k; one = n.one; stands = stands_left xs ys n.k n.one n.stands; name = n.name }

pub named_right : (xs ys : List (ℕ × Place)) (x : ℕ) → IsNamed ys x → IsNamed (xs ++ ys) x
named_right xs ys x n = record {
  k = length xs + n.k;
  one = n.one;
  stands = stands_right xs ys n.k (length xs + n.k) n.one refl n.stands;
  name = n.name;
}

pub named_two : (xs ys : List (ℕ × Place)) (x : ℕ) → IsNamed (xs ++ ys) x → IsNamed xs x ⊎ IsNamed ys x
named_two xs ys x n = elim (stands_split xs ys n.k n.one n.stands) [
  | inl a ↦ inl (record { k = n.k; one = n.one; stands = a; name = n.name })
  | inr a ↦ inr (record { k = a.0; one = n.one; stands = a.2; name = n.name })
]

module _ (d : Declared) where
  -- one more site
  pub named_more : (xs : List Site) (s : Site) (x : ℕ) → IsNamed (member_names_at d (xs ++ s ∷ [])) x
      → IsNamed (member_names_at d xs) x ⊎ IsNamed (names_of_site d s) x
  named_more xs s x n =
      named_two (member_names_at d xs) (names_of_site d s) x
      (subst (λ (ns : List (ℕ × Place)). IsNamed ns x) (named_next d xs s) n)

  -- a name that the member at one of the sites gives
  pub named_within : (xs : List Site) (i : ℕ) (s : Site) (x : ℕ) → Stands xs i s → IsNamed (names_of_site d s) x
      → IsNamed (member_names_at d xs) x
  named_within [] i s x h n = absurd (stands_none i s h)
  named_within (y ∷ ys) zero s x h n =
      let e : y ≡ s = same_Some _ _ h in
      subst (λ (ns : List (ℕ × Place)). IsNamed ns x) (sym (names_join d (y ∷ []) ys))
      (named_left _ _ x (subst (λ (ns : List (ℕ × Place)). IsNamed ns x) (sym (names_single y) ∙ refl)
      (subst (λ (z : Site). IsNamed (names_of_site d z) x) (sym e) n)))
    where
      names_single : (z : Site) → member_names_at d (z ∷ []) ≡ names_of_site d z
      names_single z = ap (map member_place) (append-nil (names_of d z (owned_at d z)))
  named_within (y ∷ ys) (suc i) s x h n =
      subst (λ (ns : List (ℕ × Place)). IsNamed ns x) (sym (names_join d (y ∷ []) ys))
      (named_right _ _ x (named_within ys i s x h n))

-- The earliest name that is taken

pub taken_none : (earlier : List (ℕ × Place)) → IsEarliest (IsNameTaken earlier []) None
taken_none earlier = nowhere (λ p t. stands_none t.k t.one t.stands)

module _ (earlier names : List (ℕ × Place)) (x : ℕ) (at : Place) where
  taken_split : (p : Place) → IsNameTaken earlier (names ++ (x, at) ∷ []) p
      → IsNameTaken earlier names p ⊎ (IsNamed earlier x × (p ≡ at))
  taken_split p t = elim (stands_split names ((x, at) ∷ []) t.k t.one t.stands) [
    | inl a ↦ inl (record { k = t.k; one = t.one; stands = a; named = t.named; place = t.place })
    | inr a ↦
        let e : (x, at) ≡ t.one = only_item (x, at) t.one (one_here _ _ _ a.2) in
        inr (
          subst (IsNamed earlier) (sym (ap (λ (n : ℕ × Place). n.0) e)) t.named,
          t.place ∙ sym (ap (λ (n : ℕ × Place). n.1) e),
        )
  ]

  taken_before : (p : Place) → IsNameTaken earlier names p → IsNameTaken earlier (names ++ (x, at) ∷ []) p
  taken_before p t = record {
    k = t.k;
    one = t.one;
    stands = stands_left names ((x, at) ∷ []) t.k t.one t.stands;
    named = t.named;
    place = t.place;
  }

  pub taken_same : (f : Option Place) → (IsNamed earlier x → ⊥) → IsEarliest (IsNameTaken earlier names) f
      → IsEarliest (IsNameTaken earlier (names ++ (x, at) ∷ [])) f
  taken_same f n h = earliest_same f taken_before back h
    where
      back : (p : Place) → IsNameTaken earlier (names ++ (x, at) ∷ []) p → IsNameTaken earlier names p
      back p t = elim (taken_split p t) [ inl a ↦ a | inr a ↦ absurd (n a.0) ]

  pub taken_more : (f r : Option Place) → IsNamed earlier x → IsEarlierOf f (Some at) r
      → IsEarliest (IsNameTaken earlier names) f → IsEarliest (IsNameTaken earlier (names ++ (x, at) ∷ [])) r
  taken_more f r n e h = earliest_same r to taken_split (earliest_both f (Some at) r h last e)
    where
      last : IsEarliest (λ (p : Place). IsNamed earlier x × (p ≡ at)) (Some at)
      last = there (n, refl) (λ q b i. not_before q at b i.1)

      to : (p : Place) → IsNameTaken earlier names p ⊎ (IsNamed earlier x × (p ≡ at))
          → IsNameTaken earlier (names ++ (x, at) ∷ []) p
      to p (inl t) = taken_before p t
      to p (inr t) = record {
        k = length names;
        one = (x, at);
        stands = stands_next names (x, at) [];
        named = t.0;
        place = t.1;
      }
