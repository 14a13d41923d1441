-- What is found when names are looked up one after the other.
use Rattle.std.proofs.Common.{◌≡◌, ℕ, inl, inr, List, [], ◌∷◌, ◌++◌, sym, ◌∙◌, ap, subst, append_assoc, append-nil}
use Rattle.ar_base.specs.Lists.{Stands, IsOneOf}
use Rattle.ar_base.proofs.Standing.{one_split, one_left, one_right, one_none, one_first, one_cases}
use Rattle.hierarchy.specs.Models.{RootedModel}
use Rattle.hierarchy.specs.Units.{UnitPath}
use Rattle.class_table.specs.Declaring.{Declared}
use Rattle.class_table.specs.Members.{Site, owned_at}
use Rattle.class_table.specs.declared.tables.Owned.{Owned}
use Rattle.hierarchy.specs.Walks.{Reaches, Nothing, Loops}
use Rattle.hierarchy.specs.WalksInside.{LeadsFrom}
use Rattle.hierarchy.proofs.Outcomes.{leads_same}
use Rattle.unit_rules.specs.Naming.{NameEntry, added, nothing, AddsNames, none, one_more, names_if, names_at_sites}

module _ {m : RootedModel} {units : List UnitPath} {u : UnitPath} where
  -- names are looked up, and then some more
  pub adds_more : {old between new : List NameEntry} {xs : List ℕ} (ys : List ℕ) → AddsNames m units u old xs between
      → AddsNames m units u between ys new → AddsNames m units u old (xs ++ ys) new
  adds_more {old = old} {new = new} {xs = xs} ys a none =
      subst (λ (zs : List ℕ). AddsNames m units u old zs new) (sym (append-nil xs)) a
  adds_more {old = old} {new = new} {xs = xs} ys a (one_more {xs = zs} {x = z} b c) =
      subst (λ (ws : List ℕ). AddsNames m units u old ws new) (append_assoc xs zs (z ∷ []))
      (one_more (adds_more zs a b) c)

-- an entry that was added is of one of the names, and is the unit that it leads to
pub record IsAdded (m : RootedModel) (units : List UnitPath) (u : UnitPath) (xs : List ℕ) (e : NameEntry) : Type 0 where
  pub name : IsOneOf xs e.0.n
  pub unit : UnitPath
  pub stands : Stands units e.1.n unit
  pub leads : LeadsFrom m u e.0.n (Reaches unit)

module _ {m : RootedModel} {units : List UnitPath} {u : UnitPath} where
  is_added_more : {xs : List ℕ} {e : NameEntry} (ys : List ℕ) → IsAdded m units u xs e → IsAdded m units u (xs ++ ys) e
  is_added_more {xs = xs} {e = e} ys a =
      record { name = one_left xs ys e.0.n a.name; unit = a.unit; stands = a.stands; leads = a.leads }

  is_added_last : (xs : List ℕ) (x : ℕ) (e : NameEntry) (v : UnitPath) → e.0.n ≡ x → Stands units e.1.n v
      → LeadsFrom m u x (Reaches v) → IsAdded m units u (xs ++ x ∷ []) e
  is_added_last xs x e v q s l = record {
    name = one_right xs (x ∷ []) e.0.n (subst (λ (n : ℕ). IsOneOf (x ∷ []) n) (sym q) (one_first x []));
    unit = v;
    stands = s;
    leads = subst (λ (n : ℕ). LeadsFrom m u n (Reaches v)) (sym q) l;
  }

  pub adds_right : {xs : List ℕ} {new : List NameEntry} → AddsNames m units u [] xs new → (e : NameEntry) → IsOneOf new e
      → IsAdded m units u xs e
  adds_right none e o = absurd (one_none e o)
  adds_right (one_more {x = x} a (nothing n)) e o = is_added_more (x ∷ []) (adds_right a e o)
  adds_right {xs = all} (one_more {xs = xs} {x = x} {between = between} a (added f v q s l)) e o =
      elim (one_split between (f ∷ []) e o) [
        | inl p ↦ is_added_more (x ∷ []) (adds_right a e p)
        | inr p ↦ elim (one_cases f [] e p) [
          | inl r ↦ subst (λ (z : NameEntry). IsAdded m units u all z) r (is_added_last xs x f v q s l)
          | inr r ↦ absurd (one_none e r)
        ]
      ]

  -- a name that leads to a unit has an entry
  pub adds_all : {xs : List ℕ} {new : List NameEntry} → AddsNames m units u [] xs new → (x : ℕ) (v : UnitPath)
      → IsOneOf xs x → LeadsFrom m u x (Reaches v) → (e : NameEntry) × IsOneOf new e × (e.0.n ≡ x)
  adds_all none x v o l = absurd (one_none x o)
  adds_all (one_more {xs = xs} {x = y} a (nothing n)) x v o l = elim (one_split xs (y ∷ []) x o) [
    | inl p ↦ adds_all a x v p l
    | inr p ↦ elim (one_cases y [] x p) [
      | inl r ↦ absurd (n v (subst (λ (z : ℕ). LeadsFrom m u z (Reaches v)) (sym r) l))
      | inr r ↦ absurd (one_none x r)
    ]
  ]
  adds_all (one_more {xs = xs} {x = y} {between = between} a (added f w q s k)) x v o l =
      elim (one_split xs (y ∷ []) x o) [
        | inl p ↦ (let r = adds_all a x v p l in (r.0, one_left between (f ∷ []) r.0 r.1, r.2))
        | inr p ↦ elim (one_cases y [] x p)
            [ inl r ↦ (f, one_right between (f ∷ []) f (one_first f []), q ∙ r) | inr r ↦ absurd (one_none x r) ]
      ]

-- What is led to is one

pub not_nothing : {m : RootedModel} {u : UnitPath} {x : ℕ} → LeadsFrom m u x Nothing → (v : UnitPath)
    → LeadsFrom m u x (Reaches v) → ⊥
not_nothing h v k = cc (leads_same h k)

pub not_loops : {m : RootedModel} {u : UnitPath} {x : ℕ} → LeadsFrom m u x Loops → (v : UnitPath)
    → LeadsFrom m u x (Reaches v) → ⊥
not_loops h v k = cc (leads_same h k)

-- the names of members, one after the other
pub sites_next : (names : Owned → List ℕ) (d : Declared) (xs : List Site) (x : Site)
    → names_at_sites names d (xs ++ x ∷ []) ≡ names_at_sites names d xs ++ names_if names (owned_at d x)
sites_next names d [] x = append-nil (names_if names (owned_at d x))
sites_next names d (y ∷ ys) x = ap (λ (zs : List ℕ). names_if names (owned_at d y) ++ zs) (sites_next names d ys x)
    ∙ sym (append_assoc (names_if names (owned_at d y)) (names_at_sites names d ys) (names_if names (owned_at d x)))
