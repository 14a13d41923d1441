-- What the rules over the whole text give for the units of a tree: no two members of a unit have one name, and no unit
-- is listed twice.
use Rattle.std.proofs.Common.{◌≡◌, ℕ, zero, suc, ◌<◌, ◌≤◌, ◌⊎◌, inl, inr, true, false, ◌==◌, List, [], ◌∷◌, Option, Some, None, slice_get, unwrap_or, refl, sym, ◌∙◌, ap, subst, arith}
use Rattle.ar_base.specs.Lists.{Stands, IsOneOf, AreDifferent}
use Rattle.ar_base.proofs.Standing.{stands_none, stands_one}
use Rattle.ar_base.proofs.Comparing.{side}
use Rattle.class_table.specs.Members.{Site, NamedMember, named_at, member_named}
use Rattle.class_table.specs.Rules.{l4}
use Rattle.hierarchy.specs.Models.{RootedModel}
use Rattle.hierarchy.specs.ModelsInside.{KeepsTextRules}
use Rattle.hierarchy.specs.Units.{UnitPath, body_of, names_at}
use Rattle.hierarchy.specs.Listing.{AreUnits}
use Rattle.hierarchy.proofs.Finding.{same_or_not}
use Rattle.hierarchy.proofs.Places.{AreApart, lists_different}

apart_at : {m : RootedModel} → KeepsTextRules m → (b : ℕ) (sites : List Site) → Stands m.members b sites
    → (i j : ℕ) (g h : NamedMember) → i < j → Stands (named_at m.declared sites) i g
    → Stands (named_at m.declared sites) j h → g.name ≡ h.name → ⊥
apart_at k b sites s i j g h l p q e =
    k.kept.kept 4 h.at (record { place = 3; stands = refl })
    (l4 (record {
      body = b;
      sites = sites;
      are_members = k.rooted.members b sites s;
      j = i;
      k = j;
      first = g;
      later = h;
      before = l;
      is_first = p;
      is_later = q;
      one_name = e;
      place = refl;
    }))

apart_in : {m : RootedModel} → KeepsTextRules m → (b : ℕ) (o : Option (List Site)) → slice_get m.members b ≡ o
    → AreApart (named_at m.declared (unwrap_or o []))
apart_in k b None e = record { apart = λ i j g h p q n. absurd (stands_none i g p) }
apart_in {m = m} k b (Some sites) e = record { apart = λ i j g h p q n. go i j g h p q n (side i j) (side j i) }
  where
    go : (i j : ℕ) (g h : NamedMember) → Stands (named_at m.declared sites) i g → Stands (named_at m.declared sites) j h
        → g.name ≡ h.name → (i ≤ j) ⊎ (j < i) → (j ≤ i) ⊎ (i < j) → i ≡ j
    go i j g h p q n (inl a) (inl b) = omega (arith, a, b)
    go i j g h p q n (inl a) (inr l) = absurd (apart_at k b sites e i j g h l p q n)
    go i j g h p q n (inr l) x = absurd (apart_at k b sites e j i h g l q p (sym n))

-- no two members of a unit have one name
pub members_apart : {m : RootedModel} → KeepsTextRules m → (w : UnitPath) → AreApart (names_at m w)
members_apart {m = m} k w = apart_in k (body_of m w) (slice_get m.members (body_of m w)) refl

-- no unit is listed twice
pub units_different : {m : RootedModel} {units : List UnitPath} → KeepsTextRules m → AreUnits m units
    → AreDifferent units
units_different k d = lists_different d (members_apart k)

named_rest : (h g : NamedMember) (i : ℕ) (hs : List NamedMember)
    → ((j : ℕ) (h' : NamedMember) → Stands (h ∷ hs) j h' → h'.name ≡ g.name → j ≡ i) → Stands (h ∷ hs) i g
    → (h.name ≡ g.name → ⊥) → (k : ℕ) × Stands hs k g
    × ((j : ℕ) (h' : NamedMember) → Stands hs j h' → h'.name ≡ g.name → j ≡ k)
named_rest h g zero hs n p e = absurd (e (ap (λ (z : NamedMember). z.name) (stands_one (h ∷ hs) 0 h g refl p)))
named_rest h g (suc i) hs n p e = (i, p, λ j h' q r. let s = n (suc j) h' q r in omega (arith, s))

named_only : (gs : List NamedMember) (i : ℕ) (g : NamedMember)
    → ((j : ℕ) (h : NamedMember) → Stands gs j h → h.name ≡ g.name → j ≡ i) → Stands gs i g
    → member_named gs g.name ≡ Some g
named_only [] i g n p = absurd (stands_none i g p)
named_only (h ∷ hs) i g n p = elim (same_or_not h.name g.name) [
  | inl e ↦ (let w : (h.name == g.name) ≡ true = e.0 in rw w (ap (λ (z : NamedMember). Some z) (stands_one (h ∷ hs) 0 h g refl (subst (λ (k : ℕ). Stands (h ∷ hs) k g) (sym (n 0 h refl e.1)) p))))
  | inr e ↦ (let w : (h.name == g.name) ≡ false = e.0 in let r = named_rest h g i hs n p e.1 in rw w (named_only hs r.0 g r.2 r.1))
]

-- where names are apart, each member is what its name gives
pub named_here : (gs : List NamedMember) (i : ℕ) (g : NamedMember) → AreApart gs → Stands gs i g
    → member_named gs g.name ≡ Some g
named_here gs i g a p = named_only gs i g (λ j h q e. a.apart j i h g q p e) p

-- what a name gives is a member of that name
pub named_back : (gs : List NamedMember) (x : ℕ) (g : NamedMember) → member_named gs x ≡ Some g
    → IsOneOf gs g × (g.name ≡ x)
named_back [] x g e = cc
named_back (h ∷ hs) x g e = elim (same_or_not h.name x) [
  | inl q ↦ (let w : (h.name == x) ≡ true = q.0 in let r = rw w at e in here r q.1)
  | inr q ↦ (let w : (h.name == x) ≡ false = q.0 in let r = rw w at e in let s = named_back hs x g r in (record { place = suc s.0.place; stands = s.0.stands }, s.1))
]
  where
    here : Some h ≡ Some g → h.name ≡ x → IsOneOf (h ∷ hs) g × (g.name ≡ x)
    here r q = let s : h ≡ g = cc in (record { place = 0; stands = r }, ap (λ (z : NamedMember). z.name) (sym s) ∙ q)
