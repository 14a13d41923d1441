-- Type names that name nothing of their kind.
use Rattle.std.proofs.Common.{◌≡◌, ℕ, Bool, true, false, Option, Some, None, is_some, List, refl, sym, ap, subst}
use Rattle.ar_base.specs.Breach.{IsEarlier}
use Rattle.ar_syntax.specs.declared.members.Member.{out-Member}
use Rattle.ar_syntax.specs.declared.members.Member.TheOpen as member
use Rattle.ar_syntax.specs.declared.members.TypeForm.{TypeForm}
use Rattle.ar_syntax.specs.declared.members.TypeForm.TheVariants as form
use Rattle.ar_base.specs.Lists.{Stands, IsOneOf, Along}
use Rattle.ar_base.specs.declared.places.Place.{Place}
use Rattle.ar_base.proofs.Standing.{one_here}
use Rattle.ar_base.proofs.Comparing.{not_before}
use Rattle.class_table.specs.Declaring.{MemberForm, Declared}
use Rattle.class_table.specs.Members.{type_named, class_named, domain_named}
use Rattle.class_table.specs.TablesInside.{IsBodyOf}
use Rattle.class_table.specs.Rules.{BreaksTypes, IsNoType, IsNoDomainName, Misnames, extends, declares, parameter, observer}
use Rattle.class_table.specs.Rules.IsNoType.{named as no_type}
use Rattle.class_table.specs.Rules.IsNoDomainName.{named as no_domain}
use Rattle.class_table.specs.Earliest.{IsEarliest, nowhere, there}
use Rattle.class_table.specs.Misnaming.{misnamed_form, misnamed_at, place_unless, types_form, bounds_form}
use Rattle.class_table.proofs.Kindly.{some_false}
use Rattle.class_table.specs.Shown.{MisnamesIn, MisnamesOne}
use Rattle.class_table.specs.declared.tables.Body.{Body}
use Rattle.class_table.specs.declared.tables.Owned.{Owned}
use Rattle.class_table.specs.declared.tables.Owned.TheVariants.{Plain, Nested}
use Rattle.class_table.proofs.Looping.{AtItem}
use Rattle.class_table.proofs.OwnAt.{own_shown, shown_back}

-- a type that is a domain, or none
bounds_right : (d : Declared) (f : TypeForm) → bounds_form d f ≡ true → IsNoDomainName d f → ⊥
bounds_right d f e (no_domain n) = let g = ap (λ o. is_some o) n in cc

bounds_wrong : (d : Declared) (f : TypeForm) → bounds_form d f ≡ false → IsNoDomainName d f
bounds_wrong d form.Boolean e = cc
bounds_wrong d form.Integer e = cc
bounds_wrong d (form.Named x) e = no_domain (some_false (domain_named d x.n) e)

-- what a loop over members finds
pub one_to : (d : Declared) (own : List Owned) (k : ℕ) (o : Owned) (p : Place) → Stands own k o → MisnamesIn d o p
    → MisnamesOne d own p
one_to d own k o p s h = record { owned = o; is_own = one_here own k o s; misnames = h }

pub one_back : (d : Declared) (own : List Owned) (p : Place) → MisnamesOne d own p
    → (k : ℕ) × AtItem own (λ (k : ℕ) (o : Owned). MisnamesIn d o) k p
one_back d own p h = (h.is_own.place, record { item = h.owned; stands = h.is_own.stands; has = h.misnames })

module _ (d : Declared) (bodies : List Body) (shown : Along IsBodyOf bodies d.bodies) where
  -- what a loop over bodies finds
  pub misnamed_to : (k : ℕ) (b : Body) (p : Place) → Stands bodies k b → MisnamesOne d b.own.items p → BreaksTypes d p
  misnamed_to k b p s h = by h.owned h.is_own h.misnames
    where
      by : (o : Owned) → IsOneOf b.own.items o → MisnamesIn d o p → BreaksTypes d p
      by (Plain m) i n = record {
        body = k;
        member = m;
        stands = subst (λ (os : List Owned). IsOneOf os (Plain m)) (sym (own_shown d bodies shown k b s)) i;
        misnames = n;
      }
      by (Nested x at c) i n = absurd n

  pub misnamed_back : (p : Place) → BreaksTypes d p
      → (k : ℕ) × AtItem bodies (λ (k : ℕ) (b : Body). MisnamesOne d b.own.items) k p
  misnamed_back p h =
      let w = shown_back d bodies shown h.body (Plain h.member) h.stands in (
        h.body,
        record {
          item = w.0;
          stands = w.1;
          has = record { owned = Plain h.member; is_own = w.2; misnames = h.misnames };
        },
      )

-- the place that is found is that of the member, if it misnames a type
pub form_found : (d : Declared) (f : MemberForm) → IsEarliest (Misnames d f) (misnamed_form d f)
form_found d (member.Extends x at) = by (class_named d x.n) refl
  where
    by : (o : Option ℕ) → class_named d x.n ≡ o
        → IsEarliest (Misnames d (member.Extends x at)) (place_unless (is_some o) at)
    by None e = there (extends e) (λ q b h. only q b h)
      where
        only : (q : Place) → IsEarlier q at → Misnames d (member.Extends x at) q → ⊥
        only q b (extends n) = not_before q q b refl
    by (Some c) e = nowhere (λ p h. none p h)
      where
        none : (p : Place) → Misnames d (member.Extends x at) p → ⊥
        none p (extends n) = cc
form_found d (member.Declare t names settings) = by t.form refl
  where
    only : (q : Place) → IsEarlier q t.at → Misnames d (member.Declare t names settings) q → ⊥
    only q b (declares n) = not_before q q b refl

    right : (f : TypeForm) → types_form d f ≡ true → IsNoType d f → ⊥
    right f e (no_type n) = let g = ap (λ o. is_some o) n in cc

    wrong : (f : TypeForm) → types_form d f ≡ false → IsNoType d f
    wrong form.Boolean e = cc
    wrong form.Integer e = cc
    wrong (form.Named x) e = no_type (some_false (type_named d x.n) e)

    none : types_form d t.form ≡ true → (p : Place) → Misnames d (member.Declare t names settings) p → ⊥
    none e p (declares n) = right t.form e n

    by : (f : TypeForm) → t.form ≡ f → IsEarliest (Misnames d (member.Declare t names settings))
        (place_unless (types_form d t.form) t.at)
    by f i = cases (types_form d t.form) refl
      where
        cases : (b : Bool) → types_form d t.form ≡ b
            → IsEarliest (Misnames d (member.Declare t names settings)) (place_unless b t.at)
        cases true e = nowhere (none e)
        cases false e = there (declares (wrong t.form e)) only
form_found d (member.Parameter t x at v) = cases (bounds_form d t.form) refl
  where
    only : (q : Place) → IsEarlier q t.at → Misnames d (member.Parameter t x at v) q → ⊥
    only q b (parameter n) = not_before q q b refl

    none : bounds_form d t.form ≡ true → (p : Place) → Misnames d (member.Parameter t x at v) p → ⊥
    none e p (parameter n) = bounds_right d t.form e n

    cases : (b : Bool) → bounds_form d t.form ≡ b
        → IsEarliest (Misnames d (member.Parameter t x at v)) (place_unless b t.at)
    cases true e = nowhere (none e)
    cases false e = there (parameter (bounds_wrong d t.form e)) only
form_found d (member.Observer t x at v) = cases (bounds_form d t.form) refl
  where
    only : (q : Place) → IsEarlier q t.at → Misnames d (member.Observer t x at v) q → ⊥
    only q b (observer n) = not_before q q b refl

    none : bounds_form d t.form ≡ true → (p : Place) → Misnames d (member.Observer t x at v) p → ⊥
    none e p (observer n) = bounds_right d t.form e n

    cases : (b : Bool) → bounds_form d t.form ≡ b
        → IsEarliest (Misnames d (member.Observer t x at v)) (place_unless b t.at)
    cases true e = nowhere (none e)
    cases false e = there (observer (bounds_wrong d t.form e)) only
form_found d (member.Block u) = nowhere (λ q h. elim h [ ])
form_found d (member.Clones p x at) = nowhere (λ q h. elim h [ ])
form_found d (member.Embeds p x at) = nowhere (λ q h. elim h [ ])
form_found d (member.Kept x at span) = nowhere (λ q h. elim h [ ])
form_found d (member.Event x at span) = nowhere (λ q h. elim h [ ])
form_found d (member.Hide p) = nowhere (λ q h. elim h [ ])
form_found d (member.Local x at guard action) = nowhere (λ q h. elim h [ ])
form_found d (member.Sync x at parts) = nowhere (λ q h. elim h [ ])
form_found d (member.Assert i) = nowhere (λ q h. elim h [ ])

pub owned_found : (d : Declared) (o : Owned) → IsEarliest (MisnamesIn d o) (misnamed_at d o)
owned_found d (Plain m) = form_found d (out-Member m)
owned_found d (Nested x at b) = nowhere (λ p h. h)
