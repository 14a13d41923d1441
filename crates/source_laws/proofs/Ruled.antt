-- Models that agree break the same rules at the same places.
use Rattle.std.proofs.Common.{◌≡◌, ℕ, List, ◌<◌, length, Option, None, refl, sym, ap, subst, ◌∙◌}
use Rattle.std.specs.Prelude.{option_and_then}
use Rattle.ar_base.specs.Lists.{Along, Stands, IsOneOf}
use Rattle.ar_base.specs.Numbers.{NameId, BodyId}
use Rattle.ar_base.specs.declared.places.Place.{Place}
use Rattle.ar_base.proofs.Standing.{along_on}
use Rattle.parser_laws.specs.Members.{SameMember}
use Rattle.parser_laws.specs.Models.{SameDomain, symbols, range, SameItem, SameModel}
use Rattle.parser_laws.specs.Opened.{SameKind}
use Rattle.ar_syntax.specs.declared.items.DomainBody.{DomainBody}
use Rattle.ar_syntax.specs.declared.items.DomainBody.TheVariants as body
use Rattle.ar_syntax.specs.declared.items.Item.{Item}
use Rattle.ar_syntax.specs.declared.items.Item.TheVariants as item
use Rattle.ar_syntax.specs.declared.items.Model.{Model}
use Rattle.ar_syntax.specs.declared.members.Member.{Member, out-Member}
use Rattle.ar_syntax.specs.declared.members.TypeForm.{TypeForm}
use Rattle.class_table.specs.Declaring.{MemberForm, NamedType, DomainType, ClassType, Declared}
use Rattle.class_table.specs.Members.{domain_body, own_at, named_at}
use Rattle.class_table.specs.Rules.{item_name, item_place, IsNoDomain, twice, many, BreaksItems, one_name, no_domain, IsNoDomainName, IsNoType, Misnames, StandsIn, BreaksTypes, NamesClass, HasInside, IsWithin, itself, further, BreaksContainment, BreaksNames, LacksMain, BreaksTextRule, l1, l2, l3, l4, l5}
use Rattle.class_table.specs.Tables.{IsMain}
use Rattle.class_table.specs.Rules.IsNoType.{named as no_type}
use Rattle.class_table.specs.Rules.IsNoDomainName.{named as no_domain_name}
use Rattle.class_table.specs.Rules.Misnames.{extends as extends_none, declares as declares_none, parameter as parameter_none, observer as observer_none}
use Rattle.class_table.specs.Rules.NamesClass.{extends as extends_class, instances}
use Rattle.class_table.specs.Rules.HasInside.{class as class_inside, block as block_inside}
use Rattle.class_table.specs.declared.tables.Owned.{Owned}
use Rattle.class_table.specs.declared.tables.Owned.TheVariants.{Plain, Nested}
use Rattle.source_laws.specs.Tables.{SameOwned, SameType, SameTable}
use Rattle.source_laws.specs.Views.{SameForms, SameItems}
use Rattle.source_laws.specs.Views as same
use Rattle.source_laws.proofs.Laid.{viewed}
use Rattle.source_laws.proofs.Items.{viewed_item}
use Rattle.source_laws.proofs.Named.{Both, neither, both, own_along, types_both, sites_named}
use Rattle.source_laws.proofs.Inherited.{class_in, class_there, members_there}
use Rattle.source_laws.proofs.Seen.{main_there}

pub none_there : {A B : Type 0} {R : A → B → Type 0} {a : Option A} {b : Option B} → Both R a b → a ≡ None → b ≡ None
none_there neither e = refl
none_there (both r) e = cc

-- Domains by name

domain_none : (t u : NamedType) → SameType t u → domain_body t ≡ None → domain_body u ≡ None
domain_none (DomainType x) (DomainType y) s e = cc
domain_none (ClassType a) (ClassType b) s e = refl
domain_none (DomainType x) (ClassType b) s e = absurd s
domain_none (ClassType a) (DomainType y) s e = absurd s

domains_none : {a b : Option NamedType} → Both SameType a b → option_and_then domain_body a ≡ None
    → option_and_then domain_body b ≡ None
domains_none neither e = refl
domains_none (both {a = t} {b = u} s) e = domain_none t u s e

-- Items

name_same : {x y : Item} → SameItems x y → item_name x ≡ item_name y
name_same (same.domain s) = s.name
name_same (same.class s) = s.name
name_same (same.block_item s) = s.name

place_same : {x y : Item} → SameItems x y → item_place x ≡ item_place y
place_same (same.domain s) = s.place
place_same (same.class s) = s.place
place_same (same.block_item s) = s.place

no_domain_there : (a b : DomainBody) → SameDomain a b → IsNoDomain a → IsNoDomain b
no_domain_there a b (range e) h = subst IsNoDomain e h
no_domain_there a b (symbols v w e f i) h =
    subst IsNoDomain (sym f) (go (subst IsNoDomain e h))
  where
    go : IsNoDomain (body.Symbols v) → IsNoDomain (body.Symbols w)
    go (twice j k x y less s t same_name) =
        twice j k x y less (subst (λ (z : List (NameId × Place)). Stands z j x) i s)
        (subst (λ (z : List (NameId × Place)). Stands z k y) i t) same_name
    go (many h) = many (subst (λ (z : List (NameId × Place)). 256 < length z) i h)

items_there : (ms ns : List Item) → Along SameItem ms ns → (p : Place) → BreaksItems ms p → BreaksItems ns p
items_there ms ns a p (one_name j k x y less s t i) =
    let u = along_on ms ns a j x s in
    let v = along_on ms ns a k y t in
    let f = viewed_item x u.0 u.2 in
    let g = viewed_item y v.0 v.2 in
    subst (λ (z : Place). BreaksItems ns z) (sym (place_same g))
    (one_name j k u.0 v.0 less u.1 v.1
    (ap (λ (z : NameId). z.n) (sym (name_same f)) ∙ i ∙ ap (λ (z : NameId). z.n) (name_same g)))
items_there ms ns a p (no_domain d o h) =
    let u = along_on ms ns a o.place (item.Domain d) o.stands in
    go u.0 (record { place = o.place; stands = u.1 }) (viewed_item (item.Domain d) u.0 u.2)
  where
    go : (y : Item) → IsOneOf ns y → SameItems (item.Domain d) y → BreaksItems ns d.at
    go _ one (same.domain {c = c} s) =
        subst (λ (z : Place). BreaksItems ns z) (sym s.place) (no_domain c one (no_domain_there d.body c.body s.body h))

-- Members

plain_of : (m : Member) (p : Owned) → SameOwned (Plain m) p → (n : Member) × (p ≡ Plain n) × SameMember m n
plain_of m (Plain n) s = (n, refl, s)
plain_of m (Nested y q c) s = absurd s

record NestedThere (b : BodyId) (p : Owned) : Type 0 where
  name : NameId
  place : Place
  is : p ≡ Nested name place b

nested_of : (x : NameId) (at : Place) (b : BodyId) (p : Owned) → SameOwned (Nested x at b) p → NestedThere b p
nested_of x at b (Plain n) s = absurd s
nested_of x at b (Nested y q c) s =
    record { name = y; place = q; is = ap (λ (z : BodyId). Nested y q z) (sym s.2) }

module _ (opens : (m n : Member) → SameMember m n → SameKind (out-Member m) (out-Member n)) (d e : Declared)
    (agree : SameTable d e) where
  record MemberThere (b : ℕ) (m : Member) : Type 0 where
    other : Member
    stands : StandsIn e b other
    forms : SameForms (out-Member m) (out-Member other)

  member_there : (b : ℕ) (m : Member) → StandsIn d b m → MemberThere b m
  member_there b m o =
      let u = along_on (own_at d b) (own_at e b) (own_along d e agree b) o.place (Plain m) o.stands in
      let n = plain_of m u.0 u.2 in
      record {
        other = n.0;
        stands = record { place = o.place; stands = subst (λ (z : Owned). Stands (own_at e b) o.place z) n.1 u.1 };
        forms = viewed (out-Member m) (out-Member n.0) (opens m n.0 n.2);
      }

  no_type_there : (f : TypeForm) → IsNoType d f → IsNoType e f
  no_type_there _ (no_type {x = x} i) = no_type (none_there (types_both d e agree x.n) i)

  no_name_there : (f : TypeForm) → IsNoDomainName d f → IsNoDomainName e f
  no_name_there _ (no_domain_name {x = x} i) =
      no_domain_name (domains_none (types_both d e agree x.n) i)

  misnames_there : (f g : MemberForm) (p : Place) → Misnames d f p → SameForms f g → Misnames e g p
  misnames_there _ _ _ (extends_none {x = x} i) same.extends =
      extends_none (sym (class_in x.n d.types e.types agree.types) ∙ i)
  misnames_there _ _ _ (declares_none {t = t} i) (same.declares v s) = declares_none (no_type_there t.form i)
  misnames_there _ _ _ (parameter_none {t = t} i) (same.parameter s) = parameter_none (no_name_there t.form i)
  misnames_there _ _ _ (observer_none {t = t} i) (same.observer s) = observer_none (no_name_there t.form i)

  types_there : (p : Place) → BreaksTypes d p → BreaksTypes e p
  types_there p h =
      let m = member_there h.body h.member h.stands in
      record {
        body = h.body;
        member = m.other;
        stands = m.stands;
        misnames = misnames_there (out-Member h.member) (out-Member m.other) p h.misnames m.forms;
      }

  class_names_there : (f g : MemberForm) (b : ℕ) (p : Place) → NamesClass d f b p → SameForms f g → NamesClass e g b p
  class_names_there _ _ _ _ (extends_class {x = x} {b = b} i) same.extends =
      extends_class (class_there opens d e agree x.n b i)
  class_names_there _ _ _ _ (instances {b = b} x i j) (same.declares v s) =
      instances x i (class_there opens d e agree x.n b j)

  inside_there : (a b : ℕ) → HasInside d a b → HasInside e a b
  inside_there a b (class_inside {p = p} m st h) =
      let n = member_there a m st in
      class_inside n.other n.stands (class_names_there (out-Member m) (out-Member n.other) b p h n.forms)
  inside_there a _ (block_inside x at id o) =
      let u = along_on (own_at d a) (own_at e a) (own_along d e agree a) o.place (Nested x at id) o.stands in
      let n = nested_of x at id u.0 u.2 in
      block_inside n.name n.place id
      (record { place = o.place; stands = subst (λ (z : Owned). Stands (own_at e a) o.place z) n.is u.1 })

  within_there : (a c : ℕ) → IsWithin d a c → IsWithin e a c
  within_there a _ itself = itself
  within_there a c (further b h w) = further b (inside_there a b h) (within_there b c w)

  containment_there : (p : Place) → BreaksContainment d p → BreaksContainment e p
  containment_there p h =
      let m = member_there h.body h.member h.stands in
      record {
        body = h.body;
        member = m.other;
        stands = m.stands;
        class = h.class;
        names = class_names_there (out-Member h.member) (out-Member m.other) h.class p h.names m.forms;
        again = within_there h.class h.body h.again;
      }

  -- Names

  names_there : (p : Place) → BreaksNames d p → BreaksNames e p
  names_there p h =
      let all = sites_named opens d e agree h.sites in
      let u = along_on (named_at d h.sites) (named_at e h.sites) all h.j h.first h.is_first in
      let v = along_on (named_at d h.sites) (named_at e h.sites) all h.k h.later h.is_later in
      record {
        body = h.body;
        sites = h.sites;
        are_members = members_there opens d e agree h.body h.sites h.are_members;
        j = h.j;
        k = h.k;
        first = u.0;
        later = v.0;
        before = h.before;
        is_first = u.1;
        is_later = v.1;
        one_name = sym u.2.name ∙ h.one_name ∙ v.2.name;
        place = h.place ∙ v.2.place;
      }

  -- All of them

  module _ (x y : Model) (s : SameModel x y) (back : SameTable e d) (main : Option (List ℕ)) where
    lacks_there : (p : Place) → LacksMain x main d p → LacksMain y main e p
    lacks_there p h = record {
      no_main = λ b is. h.no_main b
          (subst (λ (z : List (List ℕ)). IsMain z d main b) (sym s.names) (main_there y.names e d back main b is));
      place = h.place ∙ s.end;
    }

    pub breaks_there : (r : ℕ) (p : Place) → BreaksTextRule x main d r p → BreaksTextRule y main e r p
    breaks_there _ p (l1 h) = l1 (items_there x.items.items y.items.items s.items p h)
    breaks_there _ p (l2 h) = l2 (types_there p h)
    breaks_there _ p (l3 h) = l3 (containment_there p h)
    breaks_there _ p (l4 h) = l4 (names_there p h)
    breaks_there _ p (l5 h) = l5 (lacks_there p h)
