-- The members of a body, inherited ones included, and what their names are.
use Rattle.std.specs.Prelude.{◌≡◌, ℕ, ◌+◌, ◌==◌, if◌then◌else◌, List, [], ◌∷◌, ◌++◌, map, Option, Some, None, slice_get, option_map, option_and_then}
use Rattle.std.specs.List.{flat_map}
use Rattle.ar_base.specs.Lists.{Stands}
use Rattle.ar_base.specs.Numbers.{NameId}
use Rattle.ar_base.specs.declared.places.Place.{Place}
use Rattle.ar_syntax.specs.declared.expressions.RawExpr.{RawExpr}
use Rattle.ar_syntax.specs.declared.items.DomainBody.{DomainBody}
use Rattle.ar_syntax.specs.declared.members.Member.{out-Member}
use Rattle.ar_syntax.specs.declared.members.Member.TheOpen as member
use Rattle.ar_syntax.specs.declared.members.Setting.{Setting}
use Rattle.ar_syntax.specs.declared.members.TypeForm.{TypeForm}
use Rattle.ar_syntax.specs.declared.members.TypeForm.TheVariants as form
use Rattle.ar_syntax.specs.declared.paths.Path.{Path}
use Rattle.class_table.specs.Declaring.{MemberForm, TextBody, NamedType, DomainType, ClassType, Declared}
use Rattle.class_table.specs.declared.tables.Owned.{Owned}
use Rattle.class_table.specs.declared.tables.Owned.TheVariants.{Plain, Nested}

-- where a member stands: the body, and the place among the members that stand in it
pub record Site : Type 0 where
  pub body : ℕ
  pub place : ℕ

-- Types by name

-- the type of this name among these
abbrev pub type_in : List (ℕ × NamedType) → ℕ → Option NamedType
type_in [] x = None
type_in (t ∷ ts) x = if t.0 == x then Some t.1 else type_in ts x

-- the type of this name
abbrev pub type_named : Declared → ℕ → Option NamedType
type_named d x = type_in d.types x

-- the body of a class
abbrev pub class_body : NamedType → Option ℕ
class_body (ClassType b) = Some b
class_body (DomainType domain) = None

-- the body of the class of this name
abbrev pub class_named : Declared → ℕ → Option ℕ
class_named d x = option_and_then class_body (type_named d x)

-- what a domain is declared to hold
abbrev pub domain_body : NamedType → Option DomainBody
domain_body (DomainType domain) = Some domain
domain_body (ClassType b) = None

-- what the domain of this name is declared to hold
abbrev pub domain_named : Declared → ℕ → Option DomainBody
domain_named d x = option_and_then domain_body (type_named d x)

-- Members by body

-- the members that stand in a body that was looked up
abbrev pub own_of : Option TextBody → List Owned
own_of None = []
own_of (Some b) = b.own

-- the members that stand in a body
abbrev pub own_at : Declared → ℕ → List Owned
own_at d b = own_of (slice_get d.bodies b)

-- the number of the name that a member extends
abbrev pub name_extended : MemberForm → Option ℕ
name_extended (member.Extends x at) = Some x.n
name_extended _ = None

-- the same of a member of a body
abbrev pub extended : Owned → Option ℕ
extended (Plain m) = name_extended (out-Member m)
extended (Nested x at b) = None

-- the places of so many members of a body, from the place k on
abbrev pub sites_from : ℕ → ℕ → List Owned → List Site
sites_from b k [] = []
sites_from b k (o ∷ os) = record { body = b; place = k } ∷ sites_from b (k + 1) os

mutual
  -- the members of a body are those of the bodies that it extends, in order, and then those that stand in it
  pub data Members (d : Declared) : ℕ → List Site → Type 0 where
    members : {b : ℕ} {inherited : List Site} (body : TextBody) → Stands d.bodies b body → Inherits d body.own inherited
        → Members d b (inherited ++ sites_from b 0 body.own)

  -- what these members bring of the classes that they extend
  pub data Inherits (d : Declared) : List Owned → List Site → Type 0 where
    nothing : Inherits d [] []
    from : {o : Owned} {os : List Owned} {xs ys : List Site} (x b : ℕ) → extended o ≡ Some x → class_named d x ≡ Some b
        → Members d b xs → Inherits d os ys
        → Inherits d (o ∷ os) (xs ++ ys)
    passes : {o : Owned} {os : List Owned} {xs : List Site} → extended o ≡ None → Inherits d os xs
        → Inherits d (o ∷ os) xs

-- Names of members

-- what a name of a member is
pub data MemberKind : Type 0 where
  -- a block or an instance, by its body; an instance with the declaration whose settings hold in it
  Inner : (body : ℕ) → (from : Option Site) → MemberKind
  -- a copy of what made the unit that the path names
  Clone : Path → MemberKind
  -- another name of the unit that the path names
  Alias : Path → MemberKind
  -- a variable of a domain, with the settings of its declaration
  Variable : TypeForm → (settings : List Setting) → MemberKind
  -- a parameter with its type and its value
  Parameter : TypeForm → RawExpr → MemberKind
  -- a parameter whose value is kept unread
  Kept : MemberKind
  Event : MemberKind
  -- an observer with its type and its value
  Observer : TypeForm → RawExpr → MemberKind

-- a name with its place in the text, what it is, and the member that gives it
pub record NamedMember : Type 0 where
  pub name : ℕ
  pub at : Place
  pub kind : MemberKind
  pub site : Site

-- what a declaration by this type declares
abbrev pub member_kind_of : Site → TypeForm → NamedType → List Setting → MemberKind
member_kind_of s f (DomainType domain) settings = Variable f settings
member_kind_of s f (ClassType b) settings = Inner b (Some s)

-- what a declaration by a type declares, where the type is a domain or a class
abbrev pub declared_kind : Declared → Site → TypeForm → List Setting → Option MemberKind
declared_kind d s form.Boolean settings = Some (Variable form.Boolean settings)
declared_kind d s form.Integer settings = None
declared_kind d s (form.Named x) settings = option_map (λ t. member_kind_of s (form.Named x) t settings)
    (type_named d x.n)

-- each of these names is the same, or none is anything
abbrev pub all_named : Site → Option MemberKind → List (NameId × Place) → List NamedMember
all_named s None names = []
all_named s (Some kind) names = map (λ (n : NameId × Place). record { name = n.0.n; at = n.1; kind = kind; site = s })
    names

-- one name
abbrev pub one_named : Site → NameId → Place → MemberKind → List NamedMember
one_named s x at kind = record { name = x.n; at = at; kind = kind; site = s } ∷ []

-- the names that a member of this form, at this site, gives
abbrev pub names_of_form : Declared → Site → MemberForm → List NamedMember
names_of_form d s (member.Extends x at) = []
names_of_form d s (member.Declare t names settings) = all_named s (declared_kind d s t.form settings.items) names.items
names_of_form d s (member.Block u) = []
names_of_form d s (member.Clones p x at) = one_named s x at (Clone p)
names_of_form d s (member.Embeds p x at) = one_named s x at (Alias p)
names_of_form d s (member.Parameter t x at e) = one_named s x at (Parameter t.form e)
names_of_form d s (member.Kept x at span) = one_named s x at Kept
names_of_form d s (member.Event x at span) = one_named s x at Event
names_of_form d s (member.Observer t x at e) = one_named s x at (Observer t.form e)
names_of_form d s (member.Hide p) = []
names_of_form d s (member.Local x at guard action) = []
names_of_form d s (member.Sync x at parts) = []
names_of_form d s (member.Assert i) = []

-- the names that a member that was looked up gives
abbrev pub names_of : Declared → Site → Option Owned → List NamedMember
names_of d s None = []
names_of d s (Some (Plain m)) = names_of_form d s (out-Member m)
names_of d s (Some (Nested x at b)) = one_named s x at (Inner b.n None)

-- the member at a site
abbrev pub owned_at : Declared → Site → Option Owned
owned_at d s = slice_get (own_at d s.body) s.place

-- the names that the members at these sites give, in order
abbrev pub named_at : Declared → List Site → List NamedMember
named_at d sites = flat_map (λ s. names_of d s (owned_at d s)) sites

-- the first of these that has this name
abbrev pub member_named : List NamedMember → ℕ → Option NamedMember
member_named [] x = None
member_named (m ∷ ms) x = if m.name == x then Some m else member_named ms x
