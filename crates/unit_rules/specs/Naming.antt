-- What the names of a unit lead to, name by name.
use Rattle.std.specs.Prelude.{◌≡◌, ℕ, List, [], ◌∷◌, ◌++◌, map, Option, Some, None, Bool, true, false}
use Rattle.std.specs.Borrow.{Bor}
use Rattle.std.specs.List.{flat_map}
use Rattle.ar_base.specs.Lists.{Stands, IsOneOf}
use Rattle.ar_base.specs.Numbers.{NameId}
use Rattle.ar_base.specs.NumbersInside.{UnitId}
use Rattle.ar_base.specs.declared.places.Place.{Place}
use Rattle.ar_syntax.specs.declared.members.Member.{out-Member}
use Rattle.ar_syntax.specs.declared.members.Member.TheOpen as member
use Rattle.ar_syntax.specs.declared.members.TypeForm.{TypeForm}
use Rattle.ar_syntax.specs.declared.members.TypeForm.TheVariants as form
use Rattle.ar_syntax.specs.declared.paths.Path.{Path}
use Rattle.class_table.specs.Declaring.{Declared, MemberForm}
use Rattle.class_table.specs.Members.{Site, owned_at}
use Rattle.class_table.specs.declared.tables.Owned.{Owned}
use Rattle.class_table.specs.declared.tables.Owned.TheVariants.{Plain, Nested}
use Rattle.hierarchy.specs.Models.{RootedModel}
use Rattle.hierarchy.specs.Units.{UnitPath}
use Rattle.hierarchy.specs.Walks.{WalkOutcome, Reaches, Nothing, Loops}
use Rattle.hierarchy.specs.WalksInside.{LeadsFrom}

-- an entry of a unit's names
abbrev pub NameEntry : Type 0
NameEntry = NameId × UnitId

-- the name was looked up: the entry that it leads to was added, or it leads to no unit and nothing was
pub data AddsName (m : RootedModel) (units : List UnitPath) (u : UnitPath) (x : ℕ) (old : List NameEntry) : List NameEntry
    → Type 0 where
  added : (e : NameEntry) (v : UnitPath) → e.0.n ≡ x → Stands units e.1.n v → LeadsFrom m u x (Reaches v)
      → AddsName m units u x old (old ++ e ∷ [])
  nothing : ((v : UnitPath) → LeadsFrom m u x (Reaches v) → ⊥) → AddsName m units u x old old

-- the same of several names, one after the other
pub data AddsNames (m : RootedModel) (units : List UnitPath) (u : UnitPath) (old : List NameEntry) : List ℕ → List NameEntry
    → Type 0 where
  none : AddsNames m units u old [] old
  one_more : {xs : List ℕ} {x : ℕ} {between new : List NameEntry} → AddsNames m units u old xs between
      → AddsName m units u x between new
      → AddsNames m units u old (xs ++ x ∷ []) new

-- the names of a declaration that may be instances: those of a type that has a name
abbrev pub instance_names : TypeForm → List (NameId × Place) → List ℕ
instance_names (form.Named t) names = map (λ (n : NameId × Place). n.0.n) names
instance_names form.Boolean names = []
instance_names form.Integer names = []

-- the names that a member gives that may be units of its unit: blocks, clones, and what a declaration declares
abbrev pub inner_form : MemberForm → List ℕ
inner_form (member.Declare t names settings) = instance_names t.form names.items
inner_form (member.Clones p x at) = x.n ∷ []
inner_form _ = []

abbrev pub inner_names : Owned → List ℕ
inner_names (Plain m) = inner_form (out-Member m)
inner_names (Nested x at b) = x.n ∷ []

-- the names that a member gives that are other names of units
abbrev pub alias_form : MemberForm → List ℕ
alias_form (member.Embeds p x at) = x.n ∷ []
alias_form _ = []

abbrev pub alias_names : Owned → List ℕ
alias_names (Plain m) = alias_form (out-Member m)
alias_names (Nested x at b) = []

-- the same of a member that was looked up
abbrev pub names_if : (Owned → List ℕ) → Option Owned → List ℕ
names_if names None = []
names_if names (Some o) = names o

-- the same of the members at these sites
abbrev pub names_at_sites : (Owned → List ℕ) → Declared → List Site → List ℕ
names_at_sites names d sites = flat_map (λ s. names_if names (owned_at d s)) sites

-- the path of a clone or an alias, and its name
abbrev pub statement_form : MemberForm → Option (Path × ℕ)
statement_form (member.Clones p x at) = Some (p, x.n)
statement_form (member.Embeds p x at) = Some (p, x.n)
statement_form _ = None

abbrev pub statement_of : Owned → Option (Path × ℕ)
statement_of (Plain m) = statement_form (out-Member m)
statement_of (Nested x at b) = None

-- the member is a clone or an alias whose walk comes to this, and whose path stands here
pub data EndsWalk (m : RootedModel) (u : UnitPath) (o : WalkOutcome) : Option (Path × ℕ) → Place → Type 0 where
  ends : {p : Path} {x : ℕ} → LeadsFrom m u x o → EndsWalk m u o (Some (p, x)) p.at

-- the same of a member that was looked up
pub data SiteEndsSo (m : RootedModel) (u : UnitPath) (o : WalkOutcome) : Option Owned → Place → Type 0 where
  owned : {w : Owned} {p : Place} → EndsWalk m u o (statement_of w) p → SiteEndsSo m u o (Some w) p

-- the same of one of the members at these sites
pub record SitesEndSo (m : RootedModel) (u : UnitPath) (o : WalkOutcome) (sites : List Site) (p : Place) : Type 0 where
  pub site : Site
  pub is_one : IsOneOf sites site
  pub ends : SiteEndsSo m u o (owned_at m.declared site) p

-- a walk that loops, or one that names nothing
abbrev pub broken_so : Bool → WalkOutcome
broken_so true = Loops
broken_so false = Nothing

-- the path and the name that were found
abbrev pub statement_found : Option (Bor Path × NameId) → Option (Path × ℕ)
statement_found None = None
statement_found (Some p) = Some (p.0.now, p.1.n)
