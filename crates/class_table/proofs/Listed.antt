-- The listing of members.
use Rattle.std.proofs.Common.{◌≡◌, ℕ, zero, suc, ◌<◌, List, [], ◌∷◌, ◌++◌, map, take, length, set, get_or, Vec, ◌⊎◌, Option, Some, None, refl, sym, ◌∙◌, ap, subst, inl, inr, arith}
use Rattle.std.proofs.lemmas.Option.{same_Some}
use Rattle.std.specs.Global.{Global}
use Rattle.std.proofs.lemmas.Bool.{cases_eq}
use Rattle.ar_base.specs.Lists.{Stands, IsOneOf, Along, none, one_and}
use Rattle.ar_base.specs.declared.places.Place.{Place}
use Rattle.ar_base.specs.Numbers.{BodyId}
use Rattle.ar_base.proofs.Standing.{stands_get, stands_one, stands_within, along_on, along_length, one_here, one_split, one_cases, one_none, only_item}
use Rattle.ar_syntax.specs.declared.members.Member.{out-Member}
use Rattle.ar_syntax.specs.declared.members.Member.TheOpen as member
use Rattle.class_table.specs.Declaring.{MemberForm, TextBody, Declared}
use Rattle.class_table.specs.Members.{Members, own_at, extended, name_extended, class_named}
use Rattle.class_table.specs.Rules.{NamesClass, HasInside, class as inside_class, Misnames, BreaksTypes}
use Rattle.class_table.specs.Rules.NamesClass.{extends}
use Rattle.class_table.specs.Rules.Misnames.{extends as misnames_extends}
use Rattle.class_table.specs.Shown.{AreMembersListed}
use Rattle.class_table.specs.TablesInside.{IsBodyOf, site_of}
use Rattle.class_table.specs.Listing.{HaveMembersListed, IsDone, AreDone, CanList}
use Rattle.class_table.specs.declared.tables.Body.{Body}
use Rattle.class_table.specs.declared.tables.Owned.{Owned}
use Rattle.class_table.specs.declared.tables.Owned.TheVariants.{Plain, Nested}
use Rattle.class_table.proofs.Taken.{take_stands}

module _ {A : Type 0} where
  pub stands_set_same : (xs : List A) (i : ℕ) (v a : A) → i < length xs → Stands (set xs i v) i a → a ≡ v
  stands_set_same [] i v a l s = absurd (omega (arith, l))
  stands_set_same (x ∷ xs) zero v a l s = cc
  stands_set_same (x ∷ xs) (suc i) v a l s = stands_set_same xs i v a (omega (arith, l)) s

  pub stands_set_other : (xs : List A) (i : ℕ) (v : A) (k : ℕ) (a : A) → (k ≡ i → ⊥) → Stands (set xs i v) k a
      → Stands xs k a
  stands_set_other [] i v k a n s = s
  stands_set_other (x ∷ xs) zero v zero a n s = absurd (n refl)
  stands_set_other (x ∷ xs) zero v (suc k) a n s = s
  stands_set_other (x ∷ xs) (suc i) v zero a n s = s
  stands_set_other (x ∷ xs) (suc i) v (suc k) a n s = stands_set_other xs i v k a (λ e. n (ap suc e)) s

  length_set : (xs : List A) (i : ℕ) (v : A) → length (set xs i v) ≡ length xs
  length_set [] i v = refl
  length_set (x ∷ xs) zero v = refl
  length_set (x ∷ xs) (suc i) v = ap suc (length_set xs i v)

along_set : {A B : Type 0} {R : A → B → Type 0} (xs : List A) (ys : List B) → Along R xs ys → (i : ℕ) (v : A)
    → ((y : B) → Stands ys i y → R v y) → Along R (set xs i v) ys
along_set xs ys none i v f = none
along_set xs ys (one_and {b = y} r h) zero v f = one_and (f y refl) h
along_set xs ys (one_and {xs = us} {ys = vs} r h) (suc i) v f = one_and r (along_set us vs h i v f)

-- one body more has its members listed
pub keeps_listed : (d : Declared) (bodies : List Body) (done : List ℕ) (b : ℕ) (v : Body)
    (all : Vec (BodyId × ℕ) Global) → b < length bodies → HaveMembersListed d bodies done
    → Members d b (map site_of all.items)
    → HaveMembersListed d (set bodies b (record (get_or bodies b v) { all = all })) (done ++ b ∷ [])
keeps_listed d bodies done b v all l h m = record {
  as_text = along_set bodies d.bodies h.as_text b new is_new;
  there = λ k o. let e = length_set bodies b new in elim (one_split done (b ∷ []) k o) [
    | inl i ↦ (let q = h.there k i in omega (arith, q, e))
    | inr i ↦ elim (one_cases b [] k i) [ inl f ↦ omega (arith, f, l, e) | inr f ↦ absurd (one_none k f) ]
  ];
  members = λ k body o t. by k body o t (cases_eq k b);
}
  where
    new : Body
    new = record (get_or bodies b v) { all = all }

    is_new : (y : TextBody) → Stands d.bodies b y → IsBodyOf new y
    is_new y s =
        let w = along_on bodies d.bodies h.as_text b (get_or bodies b v) (stands_get bodies b v l) in
        let r = subst (λ (z : TextBody). IsBodyOf (get_or bodies b v) z) (stands_one d.bodies b w.0 y w.1 s) w.2 in
        record { name = r.name; at = r.at; own = r.own }

    by : (k : ℕ) (body : Body) → IsOneOf (done ++ b ∷ []) k → Stands (set bodies b new) k body
        → (k ≡ b) ⊎ (k ≡ b → ⊥) → Members d k (map site_of body.all.items)
    by k body o t (inl e) =
        let g = stands_set_same bodies b new body l (subst (λ (n : ℕ). Stands (set bodies b new) n body) e t) in
        subst (λ (n : ℕ). Members d n (map site_of body.all.items)) (sym e)
        (subst (λ (x : Body). Members d b (map site_of x.all.items)) (sym g) m)
    by k body o t (inr n) = elim (one_split done (b ∷ []) k o) [
      | inl i ↦ h.members k body i (stands_set_other bodies b new k body n t)
      | inr i ↦ elim (one_cases b [] k i) [ inl f ↦ absurd (n (sym f)) | inr f ↦ absurd (one_none k f) ]
    ]

-- before the first body none is listed
pub none_listed : (d : Declared) (bodies : List Body) → Along IsBodyOf bodies d.bodies → HaveMembersListed d bodies []
none_listed d bodies shown = record {
  as_text = shown;
  there = λ b o. absurd (one_none b o);
  members = λ b body o s. absurd (one_none b o);
}

-- a class that a member extends is inside its body
pub extends_inside : (d : Declared) (a : ℕ) (o : Owned) (x c : ℕ) → IsOneOf (own_at d a) o → extended o ≡ Some x
    → class_named d x ≡ Some c → HasInside d a c
extends_inside d a (Nested y p id) x c i e f = cc
extends_inside d a (Plain m) x c i e f = let n = named (out-Member m) e in inside_class {p = n.0} m i n.1
  where
    named : (g : MemberForm) → name_extended g ≡ Some x → (p : Place) × NamesClass d g c p
    named (member.Extends y at) e = let s : y.n ≡ x = same_Some _ _ e in (at, extends (ap (class_named d) s ∙ f))
    named (member.Declare t names settings) e = cc
    named (member.Block u) e = cc
    named (member.Clones q y at) e = cc
    named (member.Embeds q y at) e = cc
    named (member.Parameter t y at v) e = cc
    named (member.Kept y at span) e = cc
    named (member.Event y at span) e = cc
    named (member.Observer t y at v) e = cc
    named (member.Hide q) e = cc
    named (member.Local y at guard action) e = cc
    named (member.Sync y at parts) e = cc
    named (member.Assert z) e = cc

-- where no type name is misnamed, each name that is extended is one of a class
pub classes_named : (d : Declared) → ((p : Place) → BreaksTypes d p → ⊥) → (a : ℕ) (o : Owned) (x : ℕ)
    → IsOneOf (own_at d a) o → extended o ≡ Some x → (b : ℕ) × (class_named d x ≡ Some b)
classes_named d kept a (Nested y p id) x i e = cc
classes_named d kept a (Plain m) x i e = by (class_named d x) refl
  where
    misnamed : (g : MemberForm) → name_extended g ≡ Some x → class_named d x ≡ None → (p : Place) × Misnames d g p
    misnamed (member.Extends y at) e n = let s : y.n ≡ x = same_Some _ _ e in (at, misnames_extends (ap (class_named d) s ∙ n))
    misnamed (member.Declare t names settings) e n = cc
    misnamed (member.Block u) e n = cc
    misnamed (member.Clones q y at) e n = cc
    misnamed (member.Embeds q y at) e n = cc
    misnamed (member.Parameter t y at v) e n = cc
    misnamed (member.Kept y at span) e n = cc
    misnamed (member.Event y at span) e n = cc
    misnamed (member.Observer t y at v) e n = cc
    misnamed (member.Hide q) e n = cc
    misnamed (member.Local y at guard action) e n = cc
    misnamed (member.Sync y at parts) e n = cc
    misnamed (member.Assert z) e n = cc

    by : (c : Option ℕ) → class_named d x ≡ c → (b : ℕ) × (class_named d x ≡ Some b)
    by (Some b) f = (b, f)
    by None f = let n = misnamed (out-Member m) e f in absurd (kept n.0 (record { body = a; member = m; stands = i; misnames = n.1 }))

-- so of one member
pub one_done : (d : Declared) (done : List ℕ) (own : List Owned) (i : ℕ) (o : Owned) → Stands own i o
    → AreDone d done own → AreDone d done (o ∷ [])
one_done d done own i o s h = record {
  each = λ p x j e. h.each p x (subst (IsOneOf own) (only_item o p j) (one_here own i o s)) e;
}

-- the classes that the next body of the order extends are listed
pub next_done : (d : Declared) (order : List ℕ) → CanList d order → (i b : ℕ) → Stands order i b
    → AreDone d (take i order) (own_at d b)
next_done d order can i b s = record { each = done }
  where
    done : (o : Owned) (x : ℕ) → IsOneOf (own_at d b) o → extended o ≡ Some x → IsDone d (take i order) x
    done o x k e =
        let c = can.classes b o x k e in
        let w = can.complete.after i b c.0 s (extends_inside d b o x c.0 k e c.1) in
        record {
          class = c.0;
          is_named = c.1;
          is_done = record { place = w.0; stands = take_stands order i w.0 c.0 w.1 w.2 };
        }

-- where the order is through, all is listed
pub all_listed : (d : Declared) (bodies : List Body) (order : List ℕ) → CanList d order → HaveMembersListed d bodies order
    → AreMembersListed d bodies
all_listed d bodies order can h = record {
  as_text = h.as_text;
  members = λ b body s.
      let l = stands_within bodies b body s in
      let e = along_length bodies d.bodies h.as_text in
      h.members b body (can.complete.all b (omega (arith, l, e))) s;
}
