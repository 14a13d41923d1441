-- What the bodies show of what is declared.
use Rattle.std.specs.Prelude.{◌≡◌, ℕ, Bool, true, false, is_some, List, map, Option, Some, None, option_map}
use Rattle.ar_base.specs.Lists.{Stands, IsOneOf, Along}
use Rattle.ar_base.specs.declared.places.Place.{Place}
use Rattle.ar_syntax.specs.declared.members.Member.{out-Member}
use Rattle.ar_syntax.specs.declared.members.Member.TheOpen as member
use Rattle.ar_syntax.specs.declared.members.TypeForm.{TypeForm}
use Rattle.ar_syntax.specs.declared.members.TypeForm.TheVariants as form
use Rattle.class_table.specs.Declaring.{MemberForm, Declared}
use Rattle.class_table.specs.Members.{type_named, class_named, Members, NamedMember}
use Rattle.class_table.specs.TablesInside.{IsBodyOf, site_of}
use Rattle.class_table.specs.Rules.{Misnames, IsWithin}
use Rattle.class_table.specs.Kinds.{KnowsTypes}
use Rattle.class_table.specs.declared.tables.Body.{Body}
use Rattle.class_table.specs.declared.tables.Owned.{Owned}
use Rattle.class_table.specs.declared.tables.Owned.TheVariants.{Plain, Nested}
use Rattle.class_table.specs.declared.types.TypeKinds.{TypeKinds}

-- the bodies and the names of types are as declared
pub record Shows (d : Declared) (bodies : List Body) (types : TypeKinds) : Type 0 where
  pub as_text : Along IsBodyOf bodies d.bodies
  pub known : KnowsTypes d types

-- the type name in a member of a body that names nothing of its kind
abbrev pub MisnamesIn : Declared → Owned → Place → Type 0
MisnamesIn d (Plain m) p = Misnames d (out-Member m) p
MisnamesIn d (Nested x at b) p = ⊥

-- one of the members misnames a type at the place
pub record MisnamesOne (d : Declared) (own : List Owned) (p : Place) : Type 0 where
  pub owned : Owned
  pub is_own : IsOneOf own owned
  pub misnames : MisnamesIn d owned p

-- the body that a type's name puts inside, with the place of the name
abbrev pub inside_type : Declared → TypeForm → Place → Option (ℕ × Option Place)
inside_type d (form.Named x) at = option_map (λ b. (b, Some at)) (class_named d x.n)
inside_type d form.Boolean at = None
inside_type d form.Integer at = None

-- the same of a member
abbrev pub inside_form : Declared → MemberForm → Option (ℕ × Option Place)
inside_form d (member.Extends x at) = option_map (λ b. (b, Some at)) (class_named d x.n)
inside_form d (member.Declare t names settings) = inside_type d t.form t.at
inside_form d _ = None

-- the same of a member of a body, where a block has no place
abbrev pub put_inside : Declared → Owned → Option (ℕ × Option Place)
put_inside d (Plain m) = inside_form d (out-Member m)
put_inside d (Nested x at b) = Some (b.n, None)

-- the member names, at the place, a class that has the body inside it
pub record NamesRound (d : Declared) (body : ℕ) (owned : Owned) (p : Place) : Type 0 where
  pub class : ℕ
  pub names : put_inside d owned ≡ Some (class, Some p)
  pub again : IsWithin d class body

-- one of these members does so
pub record NamesAgain (d : Declared) (body : ℕ) (own : List Owned) (p : Place) : Type 0 where
  pub owned : Owned
  pub is_own : IsOneOf own owned
  pub is_again : NamesRound d body owned p

-- all members of each body are listed in it
pub record AreMembersListed (d : Declared) (bodies : List Body) : Type 0 where
  pub as_text : Along IsBodyOf bodies d.bodies
  pub members : (b : ℕ) (body : Body) → Stands bodies b body → Members d b (map site_of body.all.items)

-- a name of a member with its place
abbrev pub member_place : NamedMember → ℕ × Place
member_place m = (m.name, m.at)

-- whether a declaration by this type declares anything
abbrev pub IsDeclaredBy : Declared → TypeForm → Bool → Type 0
IsDeclaredBy d form.Boolean is_declared = is_declared ≡ true
IsDeclaredBy d form.Integer is_declared = is_declared ≡ false
IsDeclaredBy d (form.Named x) is_declared = is_declared ≡ is_some (type_named d x.n)
