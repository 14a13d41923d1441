-- The members of tables that agree give names that agree.
use Rattle.std.proofs.Common.{◌≡◌, ℕ, zero, suc, ◌==◌, if◌then◌else◌, Bool, true, false, List, [], ◌∷◌, map, Option, Some, None, slice_get, option_map, refl, ap, subst}
use Rattle.ar_base.specs.Lists.{Along}
use Rattle.ar_base.specs.Lists as along
use Rattle.ar_base.specs.Numbers.{NameId}
use Rattle.ar_base.specs.declared.places.Place.{Place}
use Rattle.parser_laws.specs.Members.{SameMember, SameSetting}
use Rattle.parser_laws.specs.Opened.{SameKind}
use Rattle.ar_syntax.specs.declared.members.Member.{Member, out-Member}
use Rattle.ar_syntax.specs.declared.members.Setting.{Setting}
use Rattle.ar_syntax.specs.declared.members.TypeForm.{TypeForm}
use Rattle.ar_syntax.specs.declared.members.TypeForm.TheVariants as type_form
use Rattle.class_table.specs.Declaring.{MemberForm, TextBody, NamedType, DomainType, ClassType, Declared}
use Rattle.class_table.specs.Members.{Site, type_in, type_named, own_of, own_at, owned_at, MemberKind, Inner, NamedMember, member_kind_of, declared_kind, all_named, names_of_form, names_of, named_at, member_named}
use Rattle.class_table.specs.declared.tables.Owned.{Owned}
use Rattle.class_table.specs.declared.tables.Owned.TheVariants.{Plain, Nested}
use Rattle.source_laws.specs.Named.{SameMeant, SameNamed}
use Rattle.source_laws.specs.Named as meant
use Rattle.source_laws.specs.Tables.{SameOwned, SameText, SameType, SameNamedType, SameTable}
use Rattle.source_laws.specs.Views.{SameForms}
use Rattle.source_laws.specs.Views as same
use Rattle.source_laws.proofs.Laid.{viewed, along_joined}

-- Both or neither

pub data Both {A B : Type 0} (R : A → B → Type 0) : Option A → Option B → Type 0 where
  neither : Both R None None
  both : {a : A} {b : B} → R a b → Both R (Some a) (Some b)

pub along_get : {A B : Type 0} {R : A → B → Type 0} (xs : List A) (ys : List B) → Along R xs ys → (k : ℕ)
    → Both R (slice_get xs k) (slice_get ys k)
along_get [] [] along.none zero = neither
along_get [] [] along.none (suc k) = neither
along_get _ _ (along.one_and r more) zero = both r
along_get _ _ (along.one_and {xs = xs} {ys = ys} r more) (suc k) = along_get xs ys more k

-- Types by name

picked : (c : Bool) (t u : NamedType) (a b : Option NamedType) → SameType t u → Both SameType a b
    → Both SameType (if c then Some t else a) (if c then Some u else b)
picked true t u a b s h = both s
picked false t u a b s h = h

type_both : (x : ℕ) (ts us : List (ℕ × NamedType)) → Along SameNamedType ts us
    → Both SameType (type_in ts x) (type_in us x)
type_both x [] [] along.none = neither
type_both x _ _ (along.one_and {a = t} {b = u} {xs = ts} {ys = us} s more) =
    subst (λ (n : ℕ). Both SameType (if t.0 == x then Some t.1 else type_in ts x)
    (if n == x then Some u.1 else type_in us x)) s.0
    (picked (t.0 == x) t.1 u.1 (type_in ts x) (type_in us x) s.1 (type_both x ts us more))

-- Members by place

module _ (d e : Declared) (agree : SameTable d e) where
  pub types_both : (x : ℕ) → Both SameType (type_named d x) (type_named e x)
  types_both x = type_both x d.types e.types agree.types

  pub own_along : (b : ℕ) → Along SameOwned (own_at d b) (own_at e b)
  own_along b = go (along_get d.bodies e.bodies agree.bodies b)
    where
      go : {o p : Option TextBody} → Both SameText o p → Along SameOwned (own_of o) (own_of p)
      go neither = along.none
      go (both r) = r.own

  pub owned_both : (s : Site) → Both SameOwned (owned_at d s) (owned_at e s)
  owned_both s = along_get (own_at d s.body) (own_at e s.body) (own_along s.body) s.place

-- Names

given_map : (s : Site) {k l : MemberKind} → SameMeant k l → (ns : List (NameId × Place))
    → Along SameNamed (map (λ (n : NameId × Place). record { name = n.0.n; at = n.1; kind = k; site = s }) ns)
    (map (λ (n : NameId × Place). record { name = n.0.n; at = n.1; kind = l; site = s }) ns)
given_map s r [] = along.none
given_map s r (n ∷ ns) = along.one_and (record { name = refl; place = refl; kind = r; site = refl }) (given_map s r ns)

all_given : (s : Site) {a b : Option MemberKind} (ns ms : List (NameId × Place)) → Both SameMeant a b → ns ≡ ms
    → Along SameNamed (all_named s a ns) (all_named s b ms)
all_given s ns ms neither e = along.none
all_given s ns ms (both {a = k} {b = l} r) e =
    subst (λ (z : List (NameId × Place)). Along SameNamed (all_named s (Some k) ns) (all_named s (Some l) z)) e
    (given_map s r ns)

one_given : {g h : NamedMember} → SameNamed g h → Along SameNamed (g ∷ []) (h ∷ [])
one_given r = along.one_and r along.none

-- what a declaration by a named type declares
type_given : (s : Site) (f : TypeForm) (ss rs : List Setting) → Along SameSetting ss rs → (t u : NamedType)
    → SameType t u → SameMeant (member_kind_of s f t ss) (member_kind_of s f u rs)
type_given s f ss rs h (DomainType x) (DomainType y) r = meant.variable h
type_given s f ss rs h (ClassType a) (ClassType b) r =
    subst (λ (z : ℕ). SameMeant (Inner a (Some s)) (Inner z (Some s))) r meant.inner
type_given s f ss rs h _ _ r = absurd r

module _ (opens : (m n : Member) → SameMember m n → SameKind (out-Member m) (out-Member n)) (d e : Declared)
    (agree : SameTable d e) where
  kinds_both : (s : Site) (f : TypeForm) (ss rs : List Setting) → Along SameSetting ss rs
      → Both SameMeant (declared_kind d s f ss) (declared_kind e s f rs)
  kinds_both s type_form.Boolean ss rs h = both (meant.variable h)
  kinds_both s type_form.Integer ss rs h = neither
  kinds_both s (type_form.Named x) ss rs h = go (types_both d e agree x.n)
    where
      go : {a b : Option NamedType} → Both SameType a b
          → Both SameMeant (option_map (λ t. member_kind_of s (type_form.Named x) t ss) a)
          (option_map (λ t. member_kind_of s (type_form.Named x) t rs) b)
      go neither = neither
      go (both {a = t} {b = u} r) = both (type_given s (type_form.Named x) ss rs h t u r)

  forms_given : (s : Site) {f g : MemberForm} → SameForms f g
      → Along SameNamed (names_of_form d s f) (names_of_form e s g)
  forms_given s same.extends = along.none
  forms_given s (same.declares {t = t} {v = v} {w = w} {s = ss} {r = rs} i h) =
      all_given s v.items w.items (kinds_both s t.form ss.items rs.items h) i
  forms_given s (same.block h) = along.none
  forms_given s (same.clones h) = one_given (record { name = refl; place = refl; kind = meant.clone h; site = refl })
  forms_given s (same.embeds h) = one_given (record { name = refl; place = refl; kind = meant.alias h; site = refl })
  forms_given s (same.parameter h) =
      one_given (record { name = refl; place = refl; kind = meant.parameter h; site = refl })
  forms_given s same.kept = one_given (record { name = refl; place = refl; kind = meant.kept; site = refl })
  forms_given s same.event = one_given (record { name = refl; place = refl; kind = meant.event; site = refl })
  forms_given s (same.observer h) =
      one_given (record { name = refl; place = refl; kind = meant.observer h; site = refl })
  forms_given s (same.hides h) = along.none
  forms_given s (same.local h k) = along.none
  forms_given s (same.sync h) = along.none
  forms_given s (same.asserts h) = along.none

  owned_given : (s : Site) (o p : Owned) → SameOwned o p → Along SameNamed (names_of d s (Some o)) (names_of e s (Some p))
  owned_given s (Plain m) (Plain n) h = forms_given s (viewed (out-Member m) (out-Member n) (opens m n h))
  owned_given s (Nested x a b) (Nested y c f) h =
      one_given (record {
        name = ap (λ (z : NameId). z.n) h.0;
        place = h.1;
        kind = subst (λ z. SameMeant (Inner b.n None) (Inner z.n None)) h.2 meant.inner;
        site = refl;
      })
  owned_given s (Plain m) (Nested y c f) h = absurd h
  owned_given s (Nested x a b) (Plain n) h = absurd h

  site_given : (s : Site) → Along SameNamed (names_of d s (owned_at d s)) (names_of e s (owned_at e s))
  site_given s = go (owned_both d e agree s)
    where
      go : {o p : Option Owned} → Both SameOwned o p → Along SameNamed (names_of d s o) (names_of e s p)
      go neither = along.none
      go (both {a = o} {b = p} r) = owned_given s o p r

  -- the names of the members at these sites
  pub sites_named : (ss : List Site) → Along SameNamed (named_at d ss) (named_at e ss)
  sites_named [] = along.none
  sites_named (s ∷ ss) = along_joined (site_given s) (sites_named ss)

-- the member of a name
pub named_both : (x : ℕ) (gs hs : List NamedMember) → Along SameNamed gs hs
    → Both SameNamed (member_named gs x) (member_named hs x)
named_both x [] [] along.none = neither
named_both x _ _ (along.one_and {a = g} {b = h} {xs = gs} {ys = hs} s more) =
    subst (λ (n : ℕ). Both SameNamed (if g.name == x then Some g else member_named gs x)
    (if n == x then Some h else member_named hs x)) s.name (go (g.name == x) (named_both x gs hs more))
  where
    go : (c : Bool) → Both SameNamed (member_named gs x) (member_named hs x)
        → Both SameNamed (if c then Some g else member_named gs x) (if c then Some h else member_named hs x)
    go true b = both s
    go false b = b
