-- Bodies inside bodies.
use Rattle.std.proofs.Common.{◌≡◌, ℕ, List, Option, Some, None, option_map, refl, sym, ◌∙◌, ap, subst}
use Rattle.std.proofs.lemmas.Option.{same_Some}
use Rattle.ar_base.specs.Lists.{Stands, IsOneOf, Along}
use Rattle.ar_base.specs.declared.places.Place.{Place}
use Rattle.ar_base.proofs.Standing.{one_here}
use Rattle.ar_syntax.specs.declared.members.Member.{out-Member}
use Rattle.ar_syntax.specs.declared.members.Member.TheOpen as member
use Rattle.ar_syntax.specs.declared.members.TypeForm.{TypeForm}
use Rattle.ar_syntax.specs.declared.members.TypeForm.TheVariants as form
use Rattle.class_table.specs.Declaring.{MemberForm, Declared}
use Rattle.class_table.specs.Members.{class_named, own_at}
use Rattle.class_table.specs.TablesInside.{IsBodyOf}
use Rattle.class_table.specs.Rules.{NamesClass, extends, instances, HasInside, class, block, IsWithin, itself, further, BreaksContainment}
use Rattle.class_table.specs.Shown.{put_inside, inside_form, inside_type, NamesRound, NamesAgain}
use Rattle.class_table.specs.declared.tables.Body.{Body}
use Rattle.class_table.specs.declared.tables.Owned.{Owned}
use Rattle.class_table.specs.declared.tables.Owned.TheVariants.{Plain, Nested}
use Rattle.class_table.proofs.Looping.{AtItem}
use Rattle.class_table.proofs.OwnAt.{own_shown, shown_back}

-- the class that a member names is what it puts inside
pub names_inside : (d : Declared) (f : MemberForm) (c : ℕ) (p : Place) → NamesClass d f c p
    → inside_form d f ≡ Some (c, Some p)
names_inside d f c p (extends e) = ap (option_map (λ (b : ℕ). (b, Some p))) e
names_inside d f c p (instances {t = t} x e g) =
    ap (λ (h : TypeForm). inside_type d h t.at) e ∙ ap (option_map (λ (b : ℕ). (b, Some t.at))) g

-- where an option holds a pair, it held the first
pub held_first : (o : Option ℕ) (at : Place) (c : ℕ) (p : Option Place)
    → option_map {U = ℕ × Option Place} (λ (b : ℕ). (b, Some at)) o ≡ Some (c, p) → (o ≡ Some c) × (p ≡ Some at)
held_first None at c p e = cc
held_first (Some b) at c p e = let g = same_Some _ _ e in (ap (λ (z : ℕ × Option Place). Some z.0) g, sym (ap (λ (z : ℕ × Option Place). z.1) g))

-- what a member puts inside is the class that it names
pub inside_names : (d : Declared) (f : MemberForm) (c : ℕ) (p : Option Place) → inside_form d f ≡ Some (c, p)
    → (at : Place) × (p ≡ Some at) × NamesClass d f c at
inside_names d (member.Extends x at) c p e = let h = held_first (class_named d x.n) at c p e in (at, h.1, extends h.0)
inside_names d (member.Declare t names settings) c p e = by t.form refl
  where
    by : (f : TypeForm) → t.form ≡ f → (at : Place) × (p ≡ Some at)
        × NamesClass d (member.Declare t names settings) c at
    by (form.Named x) i =
        let g = ap (λ (h : TypeForm). inside_type d h t.at) (sym i) ∙ e in
        let h = held_first (class_named d x.n) t.at c p g in
        (t.at, h.1, instances x i h.0)
    by form.Boolean i = let g = ap (λ (h : TypeForm). inside_type d h t.at) (sym i) ∙ e in cc
    by form.Integer i = let g = ap (λ (h : TypeForm). inside_type d h t.at) (sym i) ∙ e in cc
inside_names d (member.Block u) c p e = cc
inside_names d (member.Clones q x at) c p e = cc
inside_names d (member.Embeds q x at) c p e = cc
inside_names d (member.Parameter t x at v) c p e = cc
inside_names d (member.Kept x at span) c p e = cc
inside_names d (member.Event x at span) c p e = cc
inside_names d (member.Observer t x at v) c p e = cc
inside_names d (member.Hide q) c p e = cc
inside_names d (member.Local x at guard action) c p e = cc
inside_names d (member.Sync x at parts) c p e = cc
inside_names d (member.Assert i) c p e = cc

-- what is inside a body stands in it
pub inside_owned : (d : Declared) (a b : ℕ) → HasInside d a b
    → (o : Owned) × (at : Option Place) × IsOneOf (own_at d a) o × (put_inside d o ≡ Some (b, at))
inside_owned d a b (class {p = p} m s n) = (Plain m, Some p, s, names_inside d (out-Member m) b p n)
inside_owned d a b (block x at id s) = (Nested x at id, None, s, refl)

pub owned_inside : (d : Declared) (a b : ℕ) (o : Owned) (at : Option Place) → IsOneOf (own_at d a) o
    → put_inside d o ≡ Some (b, at) → HasInside d a b
owned_inside d a b (Plain m) at s e = let h = inside_names d (out-Member m) b at e in class m s h.2
owned_inside d a b (Nested x p id) at s e = let i : id.n ≡ b = ap (λ (z : ℕ × Option Place). z.0) (same_Some _ _ e) in subst (HasInside d a) i (block x p id s)

-- one further
pub within_then : (d : Declared) (a b c : ℕ) → IsWithin d a b → HasInside d b c → IsWithin d a c
within_then d a b c itself h = further c h itself
within_then d a b c (further e i w) h = further e i (within_then d e b c w h)

-- what a loop over members finds
pub again_to : (d : Declared) (body : ℕ) (own : List Owned) (k : ℕ) (o : Owned) (p : Place) → Stands own k o
    → NamesRound d body o p → NamesAgain d body own p
again_to d body own k o p s h = record { owned = o; is_own = one_here own k o s; is_again = h }

pub again_back : (d : Declared) (body : ℕ) (own : List Owned) (p : Place) → NamesAgain d body own p
    → (k : ℕ) × AtItem own (λ (k : ℕ) (o : Owned). NamesRound d body o) k p
again_back d body own p h = (h.is_own.place, record { item = h.owned; stands = h.is_own.stands; has = h.is_again })

module _ (d : Declared) (bodies : List Body) (shown : Along IsBodyOf bodies d.bodies) where
  -- what a loop over bodies finds
  pub contained_to : (k : ℕ) (b : Body) (p : Place) → Stands bodies k b → NamesAgain d k b.own.items p
      → BreaksContainment d p
  contained_to k b p s h = by h.owned h.is_own h.is_again
    where
      by : (o : Owned) → IsOneOf b.own.items o → NamesRound d k o p → BreaksContainment d p
      by (Plain m) i a =
          let n = inside_names d (out-Member m) a.class (Some p) a.names in
          let e : n.0 ≡ p = sym (same_Some _ _ n.1) in
          record {
            body = k;
            member = m;
            stands = subst (λ (os : List Owned). IsOneOf os (Plain m)) (sym (own_shown d bodies shown k b s)) i;
            class = a.class;
            names = subst (NamesClass d (out-Member m) a.class) e n.2;
            again = a.again;
          }
      by (Nested x at c) i a = let g = ap (λ (z : ℕ × Option Place). z.1) (same_Some _ _ a.names) in absurd (cc)

  pub contained_back : (p : Place) → BreaksContainment d p
      → (k : ℕ) × AtItem bodies (λ (k : ℕ) (b : Body). NamesAgain d k b.own.items) k p
  contained_back p h =
      let w = shown_back d bodies shown h.body (Plain h.member) h.stands in (
        h.body,
        record {
          item = w.0;
          stands = w.1;
          has = record {
            owned = Plain h.member;
            is_own = w.2;
            is_again = record {
              class = h.class;
              names = names_inside d (out-Member h.member) h.class p h.names;
              again = h.again;
            };
          };
        },
      )

-- a member that puts a class inside, at a place
module _ (d : Declared) (body : ℕ) (o : Owned) (class : ℕ) (opt : Option Place) (at p : Place)
    (names : put_inside d o ≡ Some (class, opt)) (is : opt ≡ Some at) where
  named_so : put_inside d o ≡ Some (class, Some at)
  named_so = names ∙ ap (λ (q : Option Place). Some (class, q)) is

  pub not_inside : IsOneOf (own_at d body) o → NamesRound d body o p
      → (HasInside d body class → IsWithin d class body → ⊥) → ⊥
  not_inside one h n =
      let g = same_Some _ _ (sym h.names ∙ named_so) in
      let e : h.class ≡ class = ap (λ (z : ℕ × Option Place). z.0) g in
      n (owned_inside d body class o (Some at) one named_so) (subst (λ (k : ℕ). IsWithin d k body) e h.again)

  pub names_at : NamesRound d body o p → p ≡ at
  names_at h = same_Some _ _ (ap (λ (z : ℕ × Option Place). z.1) (same_Some _ _ (sym h.names ∙ named_so)))
