-- Names of members, of which those that a body inherits from one class are not tested again.
use Rattle.std.proofs.Common.{◌≡◌, ℕ, zero, suc, ◌+◌, ◌-◌, ◌<◌, ◌≤◌, ◌⊎◌, inl, inr, List, [], ◌∷◌, ◌++◌, map, length, take, drop, Option, Some, None, option_map, is_some, true, false, refl, sym, ◌∙◌, ap, subst, arith, append_assoc}
use Rattle.std.proofs.lemmas.List.{take-append-drop, length-take-le, length-append, length-drop, take-map, take_all}
use Rattle.std.proofs.lemmas.Option.{same_Some}
use Rattle.std.proofs.Math.Seq.{take-append_seam}
use Rattle.ar_base.specs.Breach.{IsEarlier}
use Rattle.ar_base.specs.Lists.{Stands, Along}
use Rattle.ar_base.specs.Numbers.{NameId, BodyId}
use Rattle.ar_base.specs.declared.places.Place.{Place}
use Rattle.ar_base.proofs.Standing.{stands_none, stands_split, stands_left, stands_right, stands_within, along_back}
use Rattle.ar_base.proofs.Comparing.{earlier_then, earlier_not}
use Rattle.class_table.specs.Declaring.{Declared}
use Rattle.class_table.specs.Members.{Site, class_named, Members, members, Inherits, nothing, from, passes, extended, own_of, own_at, sites_from, names_of, owned_at, named_at}
use Rattle.class_table.specs.TablesInside.{site_of, IsBodyOf}
use Rattle.class_table.specs.Earliest.{IsEarliest, nowhere, there, IsEarlierOf, no_first, no_second, first, second}
use Rattle.class_table.specs.Repeating.{IsRepeated}
use Rattle.class_table.specs.Retested.{names_of_site, member_names_at, IsNameTaken, IsMetAgain, among, taken, IsApart, IsMetBehind, AreNamesTested}
use Rattle.class_table.specs.Rules.{BreaksNames}
use Rattle.class_table.specs.Shown.{AreMembersListed, member_place}
use Rattle.class_table.specs.declared.tables.Body.{Body}
use Rattle.class_table.specs.declared.tables.Owned.{Owned}
use Rattle.class_table.proofs.FirstPlaces.{earliest_both, earliest_same}
use Rattle.class_table.proofs.Inheriting.{named_to, named_back, members_one, body_of}
use Rattle.class_table.proofs.Repeated.{repeated_none}
use Rattle.class_table.proofs.Taken.{map_join, below_next, length_map}

-- Names in two parts

pub repeated_parts : (xs ys : List (ℕ × Place)) (p : Place) → IsRepeated (xs ++ ys) p
    → IsRepeated xs p ⊎ IsMetAgain xs ys p
repeated_parts xs ys p r = by (stands_split xs ys r.k r.later r.is_later) (stands_split xs ys r.j r.first r.is_first)
  where
    by : Stands xs r.k r.later ⊎ ((k : ℕ) × (r.k ≡ length xs + k) × Stands ys k r.later)
        → Stands xs r.j r.first ⊎ ((k : ℕ) × (r.j ≡ length xs + k) × Stands ys k r.first)
        → IsRepeated xs p ⊎ IsMetAgain xs ys p
    by (inl a) (inl b) = inl (record {
      j = r.j;
      k = r.k;
      first = r.first;
      later = r.later;
      before = r.before;
      is_first = b;
      is_later = a;
      one_name = r.one_name;
      place = r.place;
    })
    by (inl a) (inr b) = let h = stands_within xs r.k r.later a in absurd (omega (arith, b.1, r.before, h))
    by (inr a) (inl b) = inr (taken (record {
      k = a.0;
      one = r.later;
      stands = a.2;
      named = record { k = r.j; one = r.first; stands = b; name = r.one_name };
      place = r.place;
    }))
    by (inr a) (inr b) = inr (among (record {
      j = b.0;
      k = a.0;
      first = r.first;
      later = r.later;
      before = omega (arith, a.1, b.1, r.before);
      is_first = b.2;
      is_later = a.2;
      one_name = r.one_name;
      place = r.place;
    }))

pub met_repeated : (xs ys : List (ℕ × Place)) (p : Place) → IsMetAgain xs ys p → IsRepeated (xs ++ ys) p
met_repeated xs ys p (among r) = record {
  j = length xs + r.j;
  k = length xs + r.k;
  first = r.first;
  later = r.later;
  before = omega (arith, r.before);
  is_first = stands_right xs ys r.j (length xs + r.j) r.first refl r.is_first;
  is_later = stands_right xs ys r.k (length xs + r.k) r.later refl r.is_later;
  one_name = r.one_name;
  place = r.place;
}
met_repeated xs ys p (taken t) = record {
  j = t.named.k;
  k = length xs + t.k;
  first = t.named.one;
  later = t.one;
  before = (let h = stands_within xs t.named.k t.named.one t.named.stands in omega (arith, h));
  is_first = stands_left xs ys t.named.k t.named.one t.named.stands;
  is_later = stands_right xs ys t.k (length xs + t.k) t.one refl t.stands;
  one_name = t.named.name;
  place = t.place;
}

-- the names at sites in two parts
pub names_join : (d : Declared) (xs ys : List Site) → member_names_at d (xs ++ ys) ≡ member_names_at d xs ++ member_names_at d ys
names_join d [] ys = refl
names_join d (x ∷ xs) ys =
    map_join member_place (names_of d x (owned_at d x)) (named_at d (xs ++ ys))
    ∙ (ap (λ (ns : List (ℕ × Place)). names_of_site d x ++ ns) (names_join d xs ys)
    ∙ (sym (append_assoc (names_of_site d x) (member_names_at d xs) (member_names_at d ys))
    ∙ ap (λ (ns : List (ℕ × Place)). ns ++ member_names_at d ys)
    (sym (map_join member_place (names_of d x (owned_at d x)) (named_at d xs)))))

pub names_parts : (d : Declared) (all : List (BodyId × ℕ)) (n : ℕ) → member_names_at d (map site_of all)
    ≡ member_names_at d (map site_of (take n all)) ++ member_names_at d (map site_of (drop n all))
names_parts d all n =
    ap (λ (xs : List (BodyId × ℕ)). member_names_at d (map site_of xs)) (sym (take-append-drop n all))
    ∙ (ap (member_names_at d) (map_join site_of (take n all) (drop n all)) ∙ names_join d _ _)

-- what is found of both kinds
pub met_earliest : (xs ys : List (ℕ × Place)) (f g r : Option Place) → IsEarliest (IsRepeated ys) f
    → IsEarliest (IsNameTaken xs ys) g → IsEarlierOf f g r → IsEarliest (IsMetAgain xs ys) r
met_earliest xs ys f g r h k e = earliest_same r to back (earliest_both f g r h k e)
  where
    to : (p : Place) → IsRepeated ys p ⊎ IsNameTaken xs ys p → IsMetAgain xs ys p
    to p (inl a) = among a
    to p (inr a) = taken a

    back : (p : Place) → IsMetAgain xs ys p → IsRepeated ys p ⊎ IsNameTaken xs ys p
    back p (among a) = inl a
    back p (taken a) = inr a

-- Places that are found, or one before them

-- a place is found that is not after this one
pub record Reaches (found : Option Place) (p : Place) : Type 0 where
  pub one : Place
  pub found_is : found ≡ Some one
  pub not_before : IsEarlier p one → ⊥

reaches_first : (f g r : Option Place) (p : Place) → IsEarlierOf f g r → Reaches f p → Reaches r p
reaches_first f g r p no_first h = let e = h.found_is in cc
reaches_first f g r p no_second h = h
reaches_first f g r p (first n) h = h
reaches_first f g r p (second {p = a} {q = b} n) h =
    let e : a ≡ h.one = same_Some _ _ h.found_is in
    record {
      one = b;
      found_is = refl;
      not_before = λ x. h.not_before (subst (IsEarlier p) e (earlier_then p b a x n));
    }

reaches_second : (f g r : Option Place) (p : Place) → IsEarlierOf f g r → Reaches g p → Reaches r p
reaches_second f g r p no_first h = h
reaches_second f g r p no_second h = let e = h.found_is in cc
reaches_second f g r p (first {p = a} {q = b} n) h =
    let e : b ≡ h.one = same_Some _ _ h.found_is in
    record {
      one = a;
      found_is = refl;
      not_before = λ x. h.not_before (subst (IsEarlier p) e (earlier_not p a b x n));
    }
reaches_second f g r p (second n) h = h

one_of_both : (f g r : Option Place) (p : Place) → IsEarlierOf f g r → r ≡ Some p → (f ≡ Some p) ⊎ (g ≡ Some p)
one_of_both f g r p no_first e = inr e
one_of_both f g r p no_second e = inl e
one_of_both f g r p (first n) e = inl e
one_of_both f g r p (second n) e = inr e

earliest_reaches : (P : Place → Type 0) (f : Option Place) (p : Place) → IsEarliest P f → P p → Reaches f p
earliest_reaches P f p (nowhere h) q = absurd (h p q)
earliest_reaches P f p (there {p = a} b h) q = record { one = a; found_is = refl; not_before = λ e. h p e q }

earliest_has : (P : Place → Type 0) (f : Option Place) (p : Place) → IsEarliest P f → f ≡ Some p → P p
earliest_has P f p (nowhere h) e = cc
earliest_has P f p (there {p = a} b h) e = let i : a ≡ p = same_Some _ _ e in subst P i b

-- Bodies one after the other

-- each place of this body that is not inherited is reached
pub record IsReached (d : Declared) (found : Option Place) (b : Body) : Type 0 where
  pub n : ℕ
  pub apart : IsApart d b.all.items n
  pub reached : (p : Place) → IsMetBehind d b.all.items n p → Reaches found p

-- what is found breaks the rule, and each of the first i bodies is reached
pub record HasTested (d : Declared) (bodies : List Body) (i : ℕ) (found : Option Place) : Type 0 where
  pub breaks : (p : Place) → found ≡ Some p → BreaksNames d p
  pub tested : (k : ℕ) (b : Body) → k < i → Stands bodies k b → IsReached d found b

module _ (d : Declared) (bodies : List Body) (listed : AreMembersListed d bodies) where
  pub tested_start : HasTested d bodies 0 None
  tested_start = record { breaks = λ p e. absurd (cc); tested = λ k b l s. absurd (omega (arith, l)) }

  pub tested_next : (i : ℕ) (b : Body) (f g r : Option Place) → Stands bodies i b → HasTested d bodies i f
      → AreNamesTested d b g → IsEarlierOf f g r → HasTested d bodies (i + 1) r
  tested_next i b f g r s h t e = record {
    breaks = λ p x. breaks p (one_of_both f g r p e x);
    tested = below_next bodies (IsReached d r) i b s (λ k a l v. before (h.tested k a l v)) here;
  }
    where
      breaks : (p : Place) → (f ≡ Some p) ⊎ (g ≡ Some p) → BreaksNames d p
      breaks p (inl x) = h.breaks p x
      breaks p (inr x) =
          let m = earliest_has (IsMetBehind d b.all.items t.n) g p t.earliest x in
          let l = met_repeated _ _ p m in
          named_to d bodies listed i b p s
          (subst (λ (ns : List (ℕ × Place)). IsRepeated ns p) (sym (names_parts d b.all.items t.n)) l)

      before : {a : Body} → IsReached d f a → IsReached d r a
      before u = record { n = u.n; apart = u.apart; reached = λ p m. reaches_first f g r p e (u.reached p m) }

      here : IsReached d r b
      here = record {
        n = t.n;
        apart = t.apart;
        reached = λ p m. reaches_second f g r p e (earliest_reaches _ g p t.earliest m);
      }

  -- a name that is met again is so where it was not inherited so
  deep : (i : ℕ) (f : Option Place) → length bodies ≤ i → HasTested d bodies i f → (fuel k : ℕ) (b : Body)
      → Stands bodies k b → length b.all.items < fuel → (p : Place)
      → IsRepeated (member_names_at d (map site_of b.all.items)) p → Reaches f p
  deep i f w h zero k b s l p r = absurd (omega (arith, l))
  deep i f w h (suc fuel) k b s l p r =
      by (deep i f w h fuel) t.apart (repeated_parts _ _ p
      (subst (λ (ns : List (ℕ × Place)). IsRepeated ns p) (names_parts d b.all.items t.n) r))
    where
      t : IsReached d f b
      t = let v = stands_within bodies k b s in h.tested k b (omega (arith, v, w)) s

      by : ((j : ℕ) (a : Body) → Stands bodies j a → length a.all.items < fuel → (q : Place)
          → IsRepeated (member_names_at d (map site_of a.all.items)) q → Reaches f q) → IsApart d b.all.items t.n
          → IsRepeated (member_names_at d (map site_of (take t.n b.all.items))) p
          ⊎ IsMetBehind d b.all.items t.n p → Reaches f p
      by before a (inr m) = t.reached p m
      by before (inl e) (inl m) = absurd (repeated_none p
          (subst (λ (n : ℕ). IsRepeated (member_names_at d (map site_of (take n b.all.items))) p) e m))
      by before (inr o) (inl m) =
          let u = body_of d o.class _ o.are_members in
          let v = along_back bodies d.bodies listed.as_text o.class u.0 u.1 in
          let e = members_one d o.class _ _ (listed.members o.class v.0 v.1) o.are_members in
          let x = ap length e in
          let y = length_map site_of v.0.all.items in
          let z = length_map site_of (take t.n b.all.items) in
          let q = length-take-le t.n b.all.items (omega (arith, o.fewer)) in
          before o.class v.0 v.1 (omega (arith, x, y, z, q, o.fewer, l)) p
          (subst (λ (ss : List Site). IsRepeated (member_names_at d ss) p) (sym e) m)

  pub tested_end : (i : ℕ) (f : Option Place) → length bodies ≤ i → HasTested d bodies i f
      → IsEarliest (BreaksNames d) f
  tested_end i f w h = by f refl
    where
      reach : (p : Place) → BreaksNames d p → Reaches f p
      reach p b =
          let x = named_back d bodies listed p b in
          deep i f w h (suc (length x.1.item.all.items)) x.0 x.1.item x.1.stands (omega arith) p x.1.has

      by : (g : Option Place) → f ≡ g → IsEarliest (BreaksNames d) g
      by None e = nowhere (λ p b. let r = (reach p b).found_is in absurd (cc))
      by (Some q) e = there (h.breaks q e) (λ p x b.
          let r = reach p b in
          let i : r.one ≡ q = same_Some _ _ (sym r.found_is ∙ e) in
          r.not_before (subst (IsEarlier p) (sym i) x))

-- Members that one class brings

module _ (d : Declared) where
  -- what the first member that extends a class brings comes first
  pub record BringsFirst (x : ℕ) (sites : List Site) : Type 0 where
    pub class : ℕ
    pub named : class_named d x ≡ Some class
    pub first : List Site
    pub rest : List Site
    pub joined : sites ≡ first ++ rest
    pub are_members : Members d class first

  brings_first : (os : List Owned) (xs : List Site) → Inherits d os xs → (i : ℕ) (o : Owned) (x : ℕ)
      → ((k : ℕ) (p : Owned) → k < i → Stands os k p → extended p ≡ None) → Stands os i o → extended o ≡ Some x
      → BringsFirst x xs
  brings_first os xs nothing i o x before s e = absurd (stands_none i o s)
  brings_first os xs (from {o = q} {os = ps} {xs = us} {ys = vs} y b f g m r) zero o x before s e =
      let same : q ≡ o = same_Some _ _ s in
      let number : y ≡ x = same_Some _ _ (sym f ∙ (ap extended same ∙ e)) in
      record {
        class = b;
        named = ap (class_named d) (sym number) ∙ g;
        first = us;
        rest = vs;
        joined = refl;
        are_members = m;
      }
  brings_first os xs (from {o = q} y b f g m r) (suc i) o x before s e =
      let n = before 0 q (omega arith) refl in
      let h : None ≡ Some y = sym n ∙ f in absurd cc
  brings_first os xs (passes {o = q} f r) zero o x before s e =
      let same : q ≡ o = same_Some _ _ s in
      let h : None ≡ Some x = sym f ∙ (ap extended same ∙ e) in absurd cc
  brings_first os xs (passes {o = q} {os = ps} f r) (suc i) o x before s e =
      brings_first ps xs r i o x (λ k p l t. before (suc k) p (omega (arith, l)) t) s e

  pub length_sites : (b k : ℕ) (os : List Owned) → length (sites_from b k os) ≡ length os
  length_sites b k [] = refl
  length_sites b k (o ∷ os) = ap suc (length_sites b (k + 1) os)

  -- the two parts of all members of a body
  pub record InParts (b : ℕ) (own : List Owned) (sites : List Site) : Type 0 where
    pub inherited : List Site
    pub joined : sites ≡ inherited ++ sites_from b 0 own
    pub brings : Inherits d own inherited

  pub in_parts : (b : ℕ) (sites : List Site) (own : List Owned) → Members d b sites → own_at d b ≡ own
      → InParts b own sites
  in_parts b sites own (members {inherited = us} body s i) e =
      let f : body.own ≡ own = sym (ap own_of s) ∙ e in
      record {
        inherited = us;
        joined = ap (λ (os : List Owned). us ++ sites_from b 0 os) f;
        brings = subst (λ (os : List Owned). Inherits d os us) f i;
      }

  pub members_there : (bodies : List Body) → Along IsBodyOf bodies d.bodies → (c : ℕ) (sites : List Site) → Members d c sites
      → c < length bodies
  members_there bodies shown c sites (members body s i) =
      let w = along_back bodies d.bodies shown c body s in stands_within bodies c w.0 w.1

  pub apart_first : (b : ℕ) (all : List (BodyId × ℕ)) (own : List Owned) (n i : ℕ) (o : Owned) (x : ℕ)
      → Members d b (map site_of all) → own_at d b ≡ own
      → ((k : ℕ) (p : Owned) → k < i → Stands own k p → extended p ≡ None) → Stands own i o → extended o ≡ Some x
      → ((c : ℕ) (sites : List Site) → class_named d x ≡ Some c → Members d c sites → n ≡ length sites)
      → IsApart d all n
  apart_first b all own n i o x m e before s f count =
      let t = in_parts b _ own m e in
      let u = brings_first own t.inherited t.brings i o x before s f in
      let behind = u.rest ++ sites_from b 0 own in
      let joined : map site_of all ≡ u.first ++ behind =
      t.joined ∙ (ap (λ (zs : List Site). zs ++ sites_from b 0 own) u.joined ∙ append_assoc u.first u.rest (sites_from b 0 own)) in
      let j : n ≡ length u.first = count u.class u.first u.named u.are_members in
      let k = sym (length_map site_of all) ∙ (ap length joined ∙ length-append u.first behind) in
      let l = length-append u.rest (sites_from b 0 own) in
      let q = length_sites b 0 own in
      let w = stands_within own i o s in
      let g : map site_of (take n all) ≡ u.first =
      sym (take-map site_of n all) ∙ (ap (take n) joined
      ∙ (ap (λ (z : ℕ). take z (u.first ++ behind)) j ∙ take-append_seam u.first behind)) in
      inr (record {
        class = u.class;
        fewer = omega (arith, k, j, l, q, w);
        are_members = subst (Members d u.class) (sym g) u.are_members;
      })

-- what a member extends, as it was found
pub some_extended : (o : Option NameId) (y : Option ℕ) → option_map (λ (n : NameId). n.n) o ≡ y → is_some o ≡ true
    → (x : ℕ) × (y ≡ Some x)
some_extended (Some n) y e f = (n.n, sym e)
some_extended None y e f = cc

pub none_extended : (o : Option NameId) (y : Option ℕ) → option_map (λ (n : NameId). n.n) o ≡ y → is_some o ≡ false
    → y ≡ None
none_extended (Some n) y e f = cc
none_extended None y e f = sym e

-- the rest of a list as a slice has it
pub rest_whole : {A : Type 0} (n : ℕ) (xs : List A) → take (length xs - n) (drop n xs) ≡ drop n xs
rest_whole n xs = take_all (length xs - n) (drop n xs) (let e = length-drop n xs in omega (arith, e))
