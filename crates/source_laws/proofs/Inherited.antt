-- Tables that agree have the same members, site by site.
use Rattle.std.proofs.Common.{◌≡◌, ℕ, zero, ◌+◌, ◌==◌, if◌then◌else◌, Bool, true, false, List, [], ◌∷◌, ◌++◌, Option, Some, refl, sym, ap, subst, ◌∙◌}
use Rattle.std.specs.Prelude.{option_and_then}
use Rattle.ar_base.specs.Lists.{Along}
use Rattle.ar_base.specs.Lists as along
use Rattle.ar_base.proofs.Standing.{along_on}
use Rattle.parser_laws.specs.Members.{SameMember}
use Rattle.parser_laws.specs.Opened.{SameKind}
use Rattle.ar_syntax.specs.declared.members.Member.{Member, out-Member}
use Rattle.class_table.specs.Declaring.{MemberForm, NamedType, DomainType, ClassType, Declared}
use Rattle.class_table.specs.Members.{Site, type_in, class_body, class_named, name_extended, extended, sites_from, Members, Inherits, members, nothing, from, passes}
use Rattle.class_table.specs.declared.tables.Owned.{Owned}
use Rattle.class_table.specs.declared.tables.Owned.TheVariants.{Plain, Nested}
use Rattle.source_laws.specs.Tables.{SameOwned, SameType, SameNamedType, SameTable}
use Rattle.source_laws.specs.Views.{SameForms}
use Rattle.source_laws.specs.Views as same
use Rattle.source_laws.proofs.Laid.{viewed}

-- Classes by name

class_same : (t u : NamedType) → SameType t u → class_body t ≡ class_body u
class_same (DomainType x) (DomainType y) s = refl
class_same (ClassType a) (ClassType b) s = ap Some s
class_same _ _ s = absurd s

class_picked : (b : Bool) (t u : NamedType) (a c : Option NamedType) → SameType t u
    → option_and_then class_body a ≡ option_and_then class_body c
    → option_and_then class_body (if b then Some t else a) ≡ option_and_then class_body (if b then Some u else c)
class_picked true t u a c s e = class_same t u s
class_picked false t u a c s e = e

pub class_in : (x : ℕ) (ts us : List (ℕ × NamedType)) → Along SameNamedType ts us
    → option_and_then class_body (type_in ts x) ≡ option_and_then class_body (type_in us x)
class_in x [] [] along.none = refl
class_in x _ _ (along.one_and {a = t} {b = u} {xs = ts} {ys = us} s more) =
    class_picked (t.0 == x) t.1 u.1 (type_in ts x) (type_in us x) s.1 (class_in x ts us more)
    ∙ ap (λ (n : ℕ). option_and_then class_body (if n == x then Some u.1 else type_in us x)) s.0

-- Clauses

form_extended : {f g : MemberForm} → SameForms f g → name_extended f ≡ name_extended g
form_extended same.extends = refl
form_extended (same.declares i s) = refl
form_extended (same.block s) = refl
form_extended (same.clones s) = refl
form_extended (same.embeds s) = refl
form_extended (same.parameter s) = refl
form_extended same.kept = refl
form_extended same.event = refl
form_extended (same.observer s) = refl
form_extended (same.hides s) = refl
form_extended (same.local s r) = refl
form_extended (same.sync s) = refl
form_extended (same.asserts s) = refl

sites_same : (b k : ℕ) (os ps : List Owned) → Along SameOwned os ps → sites_from b k os ≡ sites_from b k ps
sites_same b k [] [] along.none = refl
sites_same b k _ _ (along.one_and {xs = os} {ys = ps} s more) =
    ap (λ (z : List Site). record { body = b; place = k } ∷ z) (sites_same b (k + 1) os ps more)

module _ (opens : (m n : Member) → SameMember m n → SameKind (out-Member m) (out-Member n)) where
  pub extended_same : (o p : Owned) → SameOwned o p → extended o ≡ extended p
  extended_same (Plain m) (Plain n) s = form_extended (viewed (out-Member m) (out-Member n) (opens m n s))
  extended_same (Nested x a b) (Nested y c d) s = refl
  extended_same _ _ s = absurd s

  module _ (d e : Declared) (agree : SameTable d e) where
    pub class_there : (x b : ℕ) → class_named d x ≡ Some b → class_named e x ≡ Some b
    class_there x b h = sym (class_in x d.types e.types agree.types) ∙ h

    mutual
      -- the members of a body
      pub members_there : (b : ℕ) (xs : List Site) → Members d b xs → Members e b xs
      members_there b _ (members {inherited = inherited} body stands h) =
          let other = along_on d.bodies e.bodies agree.bodies b body stands in
          subst (λ (z : List Site). Members e b (inherited ++ z)) (sym (sites_same b zero body.own other.0.own other.2.own))
          (members other.0 other.1 (inherits_there body.own other.0.own inherited other.2.own h))

      inherits_there : (os ps : List Owned) (xs : List Site) → Along SameOwned os ps → Inherits d os xs
          → Inherits e ps xs
      inherits_there [] [] xs along.none nothing = nothing
      inherits_there [] (p ∷ ps) xs s nothing = elim s [ ]
      inherits_there _ _ _ (along.one_and {a = o} {b = p} {xs = os} {ys = ps} s more)
          (from {xs = xs} {ys = ys} x b i j h rest) =
          from x b (sym (extended_same o p s) ∙ i) (class_there x b j) (members_there b xs h)
          (inherits_there os ps ys more rest)
      inherits_there _ _ _ (along.one_and {a = o} {b = p} {xs = os} {ys = ps} s more) (passes {xs = xs} i rest) =
          passes (sym (extended_same o p s) ∙ i) (inherits_there os ps xs more rest)

    pub members_same : ((c : Declared) (b : ℕ) (xs ys : List Site) → Members c b xs → Members c b ys → xs ≡ ys)
        → (b : ℕ) (xs ys : List Site) → Members d b xs → Members e b ys → xs ≡ ys
    members_same one b xs ys h k = one e b xs ys (members_there b xs h) k
