-- Declarations at sites, in bodies and in units.
use Rattle.std.proofs.Common.{ℕ, ◌≤◌, List, [], ◌∷◌, map, length, unwrap_or, slice_get, Option, None, sym, ap, subst}
use Rattle.std.proofs.Common.{arith, refl, zero, suc, inl, inr}
use Rattle.std.specs.List.{flat_map}
use Rattle.std.proofs.lemmas.List.{length-map}
use Rattle.std.proofs.lemmas.Option.{slice_get_past}
use Rattle.ar_base.specs.Lists.{Stands, IsOneOf, Along}
use Rattle.ar_base.specs.Numbers.{BodyId}
use Rattle.ar_base.specs.declared.places.Place.{Place}
use Rattle.ar_base.proofs.Standing.{along_on, along_back, along_length, stands_map, stands_map_back, stands_none, stands_one, one_here, one_none, one_split, one_left, one_right}
use Rattle.class_table.specs.Declaring.{Declared}
use Rattle.class_table.specs.Earliest.{IsEarliest}
use Rattle.class_table.specs.Members.{Site, owned_at}
use Rattle.class_table.specs.TablesInside.{site_of}
use Rattle.class_table.specs.declared.tables.Classes.{Classes}
use Rattle.class_table.proofs.Looping.{AtItem}
use Rattle.hierarchy.specs.Models.{RootedModel}
use Rattle.hierarchy.specs.ModelsInside.{IsRootedTable, sites_kept}
use Rattle.hierarchy.specs.Units.{UnitPath}
use Rattle.hierarchy.specs.Listing.{form_of}
use Rattle.hierarchy.specs.Tie.{IsOutline}
use Rattle.hierarchy.specs.declared.outline.Outline.{Outline}
use Rattle.unit_rules.specs.Rules.{BreaksDeclaration}
use Rattle.unit_rules.specs.Searched.{BreaksOne, forms_of, IsFirstIn}
use Rattle.unit_rules.proofs.WrongSettings.{none_wrong}

-- one of what items of a list give stands at one item
pub flat_one : {A B : Type 0} (f : A → List B) (xs : List A) (b : B) → IsOneOf (flat_map f xs) b
    → (k : ℕ) × (a : A) × Stands xs k a × IsOneOf (f a) b
flat_one f [] b h = absurd (one_none b h)
flat_one f (x ∷ xs) b h = elim (one_split (f x) (flat_map f xs) b h) [ inl i ↦ (0, x, refl, i) | inr i ↦ let w = flat_one f xs b i in (suc w.0, w.1, w.2, w.3) ]

pub one_flat : {A B : Type 0} (f : A → List B) (xs : List A) (k : ℕ) (a : A) (b : B) → Stands xs k a → IsOneOf (f a) b
    → IsOneOf (flat_map f xs) b
one_flat f [] k a b s h = absurd (stands_none k a s)
one_flat {B = B} f (x ∷ xs) zero a b s h =
    one_left (f x) (flat_map f xs) b (subst (λ y. IsOneOf (f y) b) (sym (stands_one (x ∷ xs) 0 x a refl s)) h)
one_flat f (x ∷ xs) (suc k) a b s h = one_right (f x) (flat_map f xs) b (one_flat f xs k a b s h)

module _ (d : Declared) (all : List (BodyId × ℕ)) where
  -- what is wrong at a site is wrong among all, and the other way round
  pub site_to : (k : ℕ) (site : BodyId × ℕ) (p : Place) → Stands all k site
      → BreaksOne d (form_of (owned_at d (site_of site))) p → BreaksOne d (forms_of d (map site_of all)) p
  site_to k site p s b = record {
    form = b.form;
    is_one = one_flat (λ (t : Site). form_of (owned_at d t)) (map site_of all) k (site_of site) b.form
        (stands_map site_of all k site s) b.is_one;
    breaks = b.breaks;
  }

  pub site_back : (p : Place) → BreaksOne d (forms_of d (map site_of all)) p
      → (k : ℕ) × AtItem all (λ (j : ℕ) (site : BodyId × ℕ) (q : Place). BreaksOne d
      (form_of (owned_at d (site_of site))) q) k p
  site_back p b =
      let w = flat_one (λ (t : Site). form_of (owned_at d t)) (map site_of all) b.form b.is_one in
      let v = stands_map_back site_of all w.0 w.1 w.2 in (
        w.0,
        record {
          item = v.0;
          stands = v.1;
          has = record {
            form = b.form;
            is_one = subst (λ (t : Site). IsOneOf (form_of (owned_at d t)) b.form) (sym v.2)
                w.3;
            breaks = b.breaks;
          };
        },
      )

module _ (m : RootedModel) (classes : Classes) (firsts : List (Option Place)) (table : IsRootedTable m classes)
    (bodies : Along (IsFirstIn m.declared) classes.bodies.items firsts) where
  -- there is no such body, or it is there
  pub no_body : (b : ℕ) → length firsts ≤ b
      → IsEarliest (BreaksOne m.declared (forms_of m.declared (unwrap_or (slice_get m.members b) []))) None
  no_body b l =
      let n = along_length classes.bodies.items firsts bodies in
      let k = ap length table.members in
      let j = length-map classes.bodies.items sites_kept in
      subst (λ (o : Option (List Site)). IsEarliest (BreaksOne m.declared (forms_of m.declared (unwrap_or o []))) None)
      (sym (slice_get_past m.members b (omega arith))) (none_wrong m.declared)

  pub at_that_body : (b : ℕ) (f : Option Place) → Stands firsts b f
      → IsEarliest (BreaksOne m.declared (forms_of m.declared (unwrap_or (slice_get m.members b) []))) f
  at_that_body b f s =
      let w = along_back classes.bodies.items firsts bodies b f s in
      let t = subst (λ (ms : List (List Site)). Stands ms b (sites_kept w.0)) table.members
      (stands_map sites_kept classes.bodies.items b w.0 w.1) in
      subst (λ (o : Option (List Site)). IsEarliest (BreaksOne m.declared (forms_of m.declared (unwrap_or o []))) f)
      (sym t) w.2

module _ (m : RootedModel) (units : List UnitPath) (outlines : List Outline)
    (along : Along (IsOutline m units) units outlines) where
  -- what is wrong in the body of an outline is wrong in a unit, and the other way round
  pub unit_to : (k : ℕ) (o : Outline) (p : Place) → Stands outlines k o
      → BreaksOne m.declared (forms_of m.declared (unwrap_or (slice_get m.members o.body.n) [])) p
      → BreaksDeclaration m units p
  unit_to k o p s b =
      let w = along_back units outlines along k o s in
      let e = ap (λ (n : ℕ). unwrap_or (slice_get m.members n) []) w.2.body in
      record {
        unit = w.0;
        is_unit = one_here units k w.0 w.1;
        form = b.form;
        is_member = subst (λ (ss : List Site). IsOneOf (forms_of m.declared ss) b.form) e b.is_one;
        breaks =
            b.breaks;
      }

  pub unit_back : (p : Place) → BreaksDeclaration m units p
      → (k : ℕ) × AtItem outlines (λ (j : ℕ) (o : Outline) (q : Place). BreaksOne m.declared
      (forms_of m.declared (unwrap_or (slice_get m.members o.body.n) [])) q) k p
  unit_back p b =
      let w = along_on units outlines along b.is_unit.place b.unit b.is_unit.stands in
      let e = ap (λ (n : ℕ). unwrap_or (slice_get m.members n) []) w.2.body in (
        b.is_unit.place,
        record {
          item = w.0;
          stands = w.1;
          has = record {
            form = b.form;
            is_one = subst (λ (ss : List Site). IsOneOf (forms_of m.declared ss) b.form)
                (sym e) b.is_member;
            breaks = b.breaks;
          };
        },
      )
