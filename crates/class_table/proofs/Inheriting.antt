-- Members with those of the classes that are extended.
use Rattle.std.proofs.Common.{◌≡◌, ℕ, ◌+◌, List, [], ◌∷◌, ◌++◌, map, length, suc, arith, Some, None, refl, sym, ◌∙◌, ap, subst, append_assoc}
use Rattle.std.proofs.lemmas.List.{append-nil}
use Rattle.ar_base.specs.Lists.{Stands, Along}
use Rattle.ar_base.specs.declared.places.Place.{Place}
use Rattle.ar_base.proofs.Standing.{stands_one, stands_map, stands_map_back, along_on, along_back}
use Rattle.class_table.specs.Declaring.{TextBody, Declared}
use Rattle.class_table.specs.Members.{Site, extended, class_named, sites_from, Members, members, Inherits, nothing, from, passes, named_at}
use Rattle.class_table.specs.TablesInside.{IsBodyOf, site_of}
use Rattle.class_table.specs.Rules.{BreaksNames}
use Rattle.class_table.specs.Repeating.{IsRepeated}
use Rattle.class_table.specs.Shown.{AreMembersListed, member_place}
use Rattle.class_table.specs.Listing.{AddsClass, InheritsMore}
use Rattle.class_table.specs.declared.tables.Body.{Body}
use Rattle.class_table.specs.declared.tables.Owned.{Owned}
use Rattle.class_table.proofs.Looping.{AtItem}

module _ (d : Declared) where
  -- what members bring, one after the other
  pub inherits_append : (os ps : List Owned) (xs ys : List Site) → Inherits d os xs → Inherits d ps ys
      → Inherits d (os ++ ps) (xs ++ ys)
  inherits_append os ps xs ys nothing k = k
  inherits_append os ps xs ys (from {o = o} {os = qs} {xs = us} {ys = vs} x b e f m r) k =
      subst (Inherits d (o ∷ qs ++ ps)) (sym (append_assoc us vs ys)) (from x b e f m (inherits_append qs ps vs ys r k))
  inherits_append os ps xs ys (passes {os = qs} {xs = us} e r) k = passes e (inherits_append qs ps us ys r k)

  pub inherit_none : (o : Owned) (old : List Site) → extended o ≡ None → InheritsMore d o old old
  inherit_none o old e = record { sites = []; brings = passes e nothing; joined = sym (append-nil old) }

  pub inherit_some : (o : Owned) (x : ℕ) (old new : List Site) → extended o ≡ Some x → AddsClass d x old new
      → InheritsMore d o old new
  inherit_some o x old new e a = record {
    sites = a.sites;
    brings = subst (Inherits d (o ∷ [])) (append-nil a.sites)
        (from x a.of_class.class e a.of_class.is_named a.of_class.are_members nothing);
    joined = a.joined;
  }

  pub inherit_next : (os : List Owned) (o : Owned) (old new : List Site) → Inherits d os old → InheritsMore d o old new
      → Inherits d (os ++ o ∷ []) new
  inherit_next os o old new h k = subst (Inherits d (os ++ o ∷ [])) (sym k.joined)
      (inherits_append os (o ∷ []) old k.sites h k.brings)

  mutual
    -- one list of members for a body
    pub members_one : (b : ℕ) (xs ys : List Site) → Members d b xs → Members d b ys → xs ≡ ys
    members_one b xs ys (members {inherited = us} body s i) (members {inherited = vs} other t j) =
        let e = stands_one d.bodies b body other s t in
        let k = subst (λ (z : TextBody). Inherits d z.own vs) (sym e) j in
        ap (λ (zs : List Site). zs ++ sites_from b 0 body.own) (inherits_one body.own us vs i k)
        ∙ ap (λ (z : TextBody). vs ++ sites_from b 0 z.own) e

    pub inherits_one : (os : List Owned) (xs ys : List Site) → Inherits d os xs → Inherits d os ys → xs ≡ ys
    inherits_one os xs ys nothing nothing = refl
    inherits_one os xs ys (from {xs = us} {ys = vs} x b e f m r) (from {xs = us'} {ys = vs'} y c e' f' m' r') =
        let i : x ≡ y = cc in
        let g = subst (λ (z : ℕ). class_named d z ≡ Some c) (sym i) f' in
        let j : b ≡ c = cc in
        let n = subst (λ (z : ℕ). Members d z us') (sym j) m' in
        ap (λ (zs : List Site). zs ++ vs) (members_one b us us' m n)
        ∙ ap (λ (zs : List Site). us' ++ zs) (inherits_one _ vs vs' r r')
    inherits_one os xs ys (from x b e f m r) (passes g s) = cc
    inherits_one os xs ys (passes g s) (from x b e f m r) = cc
    inherits_one os xs ys (passes g s) (passes h t) = inherits_one _ xs ys s t

  -- what a loop over bodies finds
  pub named_to : (bodies : List Body) → AreMembersListed d bodies → (k : ℕ) (b : Body) (p : Place) → Stands bodies k b
      → IsRepeated (map member_place (named_at d (map site_of b.all.items))) p → BreaksNames d p
  named_to bodies l k b p s r =
      let ms = named_at d (map site_of b.all.items) in
      let x = stands_map_back member_place ms r.j r.first r.is_first in
      let y = stands_map_back member_place ms r.k r.later r.is_later in
      record {
        body = k;
        sites = map site_of b.all.items;
        are_members = l.members k b s;
        j = r.j;
        k = r.k;
        first = x.0;
        later = y.0;
        before = r.before;
        is_first = x.1;
        is_later = y.1;
        one_name = ap (λ (n : ℕ × Place). n.0) x.2 ∙ (r.one_name ∙ sym (ap (λ (n : ℕ × Place). n.0) y.2));
        place = r.place ∙ sym (ap (λ (n : ℕ × Place). n.1) y.2);
      }

  pub body_of : (b : ℕ) (xs : List Site) → Members d b xs → (t : TextBody) × Stands d.bodies b t
  body_of b xs (members body s i) = (body, s)

  pub named_back : (bodies : List Body) → AreMembersListed d bodies → (p : Place) → BreaksNames d p
      → (k : ℕ) × AtItem bodies (λ (k : ℕ) (b : Body). IsRepeated
      (map member_place (named_at d (map site_of b.all.items)))) k p
  named_back bodies l p h =
      let t = body_of h.body h.sites h.are_members in
      let w = along_back bodies d.bodies l.as_text h.body t.0 t.1 in
      let e = members_one h.body h.sites (map site_of w.0.all.items) h.are_members (l.members h.body w.0 w.1) in
      let r : IsRepeated (map member_place (named_at d h.sites)) p = record {
        j = h.j;
        k = h.k;
        first = member_place h.first;
        later = member_place h.later;
        before = h.before;
        is_first = stands_map member_place (named_at d h.sites) h.j h.first h.is_first;
        is_later = stands_map member_place (named_at d h.sites) h.k h.later h.is_later;
        one_name = h.one_name;
        place = h.place;
      } in (
        h.body,
        record {
          item = w.0;
          stands = w.1;
          has = subst (λ (s : List Site). IsRepeated (map member_place (named_at d s)) p) e r;
        },
      )

-- the members that stand in a body, with one more
pub sites_next : (b k : ℕ) (os : List Owned) (o : Owned)
    → sites_from b k (os ++ o ∷ []) ≡ sites_from b k os ++ record { body = b; place = k + length os } ∷ []
sites_next b k [] o = ap (λ (n : ℕ). record { body = b; place = n } ∷ []) (let e : k ≡ k + 0 = omega arith in e)
sites_next b k (x ∷ os) o = ap (λ (ss : List Site). record { body = b; place = k } ∷ ss) (sites_next b (k + 1) os o ∙ ap (λ (n : ℕ). sites_from b (k + 1) os ++ record { body = b; place = n } ∷ []) (let e : (k + 1) + length os ≡ k + suc (length os) = omega arith in e))

-- the members of a body, put together
pub members_made : (d : Declared) (bodies : List Body) → Along IsBodyOf bodies d.bodies → (b : ℕ) (body : Body)
    → Stands bodies b body → (xs ys : List Site) → Inherits d body.own.items xs
    → ys ≡ xs ++ sites_from b 0 body.own.items → Members d b ys
members_made d bodies shown b body s xs ys h e =
    let w = along_on bodies d.bodies shown b body s in
    subst (Members d b) (sym (e ∙ ap (λ (os : List Owned). xs ++ sites_from b 0 os) w.2.own))
    (members w.0 w.1 (subst (λ (os : List Owned). Inherits d os xs) w.2.own h))
