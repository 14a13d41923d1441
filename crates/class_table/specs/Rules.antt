-- Rules L1 to L5, each with the places where it is broken.
use Rattle.std.specs.Prelude.{◌≡◌, ℕ, Vec, ◌<◌, ℤ, pos, ◌+ℤ◌, ◌<ℤ◌, List, [], ◌∷◌, length, Option, Some, None}
use Rattle.std.specs.Global.{Global}
use Rattle.ar_base.specs.Lists.{Stands, IsOneOf}
use Rattle.ar_base.specs.Numbers.{NameId, BodyId}
use Rattle.ar_base.specs.declared.places.Place.{Place}
use Rattle.ar_syntax.specs.declared.expressions.RawExpr.{RawExpr}
use Rattle.ar_syntax.specs.declared.items.DomainBody.{DomainBody}
use Rattle.ar_syntax.specs.declared.items.DomainBody.TheVariants as body
use Rattle.ar_syntax.specs.declared.items.DomainDecl.{DomainDecl}
use Rattle.ar_syntax.specs.declared.items.Item.{Item}
use Rattle.ar_syntax.specs.declared.items.Item.TheVariants as item
use Rattle.ar_syntax.specs.declared.items.Model.{Model}
use Rattle.ar_syntax.specs.declared.members.Member.{Member, out-Member}
use Rattle.ar_syntax.specs.declared.members.Member.TheOpen as member
use Rattle.ar_syntax.specs.declared.members.Setting.{Setting}
use Rattle.ar_syntax.specs.declared.members.TypeForm.{TypeForm}
use Rattle.ar_syntax.specs.declared.members.TypeForm.TheVariants as form
use Rattle.ar_syntax.specs.declared.members.TypeName.{TypeName}
use Rattle.class_table.specs.Declaring.{MemberForm, Declared}
use Rattle.class_table.specs.Members.{Site, type_named, class_named, domain_named, own_at, Members, NamedMember, named_at}
use Rattle.class_table.specs.Tables.{IsMain}
use Rattle.class_table.specs.declared.tables.Owned.TheVariants.{Plain, Nested}

-- L1: items

-- the name of an item
abbrev pub item_name : Item → NameId
item_name (item.Domain d) = d.name
item_name (item.Class u) = u.name
item_name (item.Block u) = u.name

-- where the name of an item stands
abbrev pub item_place : Item → Place
item_place (item.Domain d) = d.at
item_place (item.Class u) = u.at
item_place (item.Block u) = u.at

-- a symbol stands twice, there are more than 256 values, or the bounds are turned round
pub data IsNoDomain : DomainBody → Type 0 where
  twice : {names : Vec (NameId × Place) Global} (j k : ℕ) (x y : NameId × Place) → j < k → Stands names.items j x
      → Stands names.items k y → x.0.n ≡ y.0.n
      → IsNoDomain (body.Symbols names)
  many : {names : Vec (NameId × Place) Global} → 256 < length names.items → IsNoDomain (body.Symbols names)
  turned : {low high : ℤ} → high <ℤ low → IsNoDomain (body.Range low high)
  wide : {low high : ℤ} → (low +ℤ pos 255) <ℤ high → IsNoDomain (body.Range low high)

-- the later of two items of one name, or a domain that is none
pub data BreaksItems (items : List Item) : Place → Type 0 where
  one_name : (j k : ℕ) (x y : Item) → j < k → Stands items j x → Stands items k y → (item_name x).n ≡ (item_name y).n
      → BreaksItems items (item_place y)
  no_domain : (d : DomainDecl) → IsOneOf items (item.Domain d) → IsNoDomain d.body → BreaksItems items d.at

-- L2: types

-- a type that must be a domain and is none
pub data IsNoDomainName (d : Declared) : TypeForm → Type 0 where
  named : {x : NameId} → domain_named d x.n ≡ None → IsNoDomainName d (form.Named x)

-- a type that must be a domain or a class and is neither
pub data IsNoType (d : Declared) : TypeForm → Type 0 where
  named : {x : NameId} → type_named d x.n ≡ None → IsNoType d (form.Named x)

-- the type name in a member that names nothing of its kind
pub data Misnames (d : Declared) : MemberForm → Place → Type 0 where
  extends : {x : NameId} {p : Place} → class_named d x.n ≡ None → Misnames d (member.Extends x p) p
  declares : {t : TypeName} {names : Vec (NameId × Place) Global} {settings : Vec Setting Global} → IsNoType d t.form
      → Misnames d (member.Declare t names settings) t.at
  parameter : {t : TypeName} {x : NameId} {p : Place} {e : RawExpr} → IsNoDomainName d t.form
      → Misnames d (member.Parameter t x p e) t.at
  observer : {t : TypeName} {x : NameId} {p : Place} {e : RawExpr} → IsNoDomainName d t.form
      → Misnames d (member.Observer t x p e) t.at

-- a member that stands in a body and is no block
abbrev pub StandsIn : Declared → ℕ → Member → Type 0
StandsIn d b m = IsOneOf (own_at d b) (Plain m)

-- a type name that names nothing of its kind
pub record BreaksTypes (d : Declared) (p : Place) : Type 0 where
  pub body : ℕ
  pub member : Member
  pub stands : StandsIn d body member
  pub misnames : Misnames d (out-Member member) p

-- L3: containment

-- the member names this class, at this type name, to extend it or for its instances
pub data NamesClass (d : Declared) : MemberForm → ℕ → Place → Type 0 where
  extends : {x : NameId} {p : Place} {b : ℕ} → class_named d x.n ≡ Some b → NamesClass d (member.Extends x p) b p
  instances : {t : TypeName} {names : Vec (NameId × Place) Global} {settings : Vec Setting Global} {b : ℕ} (x : NameId)
      → t.form ≡ form.Named x → class_named d x.n ≡ Some b
      → NamesClass d (member.Declare t names settings) b t.at

-- the second body is that of a class that a member of the first names, or of a block in it
pub data HasInside (d : Declared) : ℕ → ℕ → Type 0 where
  class : {a b : ℕ} {p : Place} (m : Member) → StandsIn d a m → NamesClass d (out-Member m) b p → HasInside d a b
  block : {a : ℕ} (x : NameId) (at : Place) (id : BodyId) → IsOneOf (own_at d a) (Nested x at id) → HasInside d a id.n

-- the second body is the first, or inside it at some depth
pub data IsWithin (d : Declared) : ℕ → ℕ → Type 0 where
  itself : {a : ℕ} → IsWithin d a a
  further : {a c : ℕ} (b : ℕ) → HasInside d a b → IsWithin d b c → IsWithin d a c

-- a type name in a body whose class has that body inside it
pub record BreaksContainment (d : Declared) (p : Place) : Type 0 where
  pub body : ℕ
  pub member : Member
  pub stands : StandsIn d body member
  pub class : ℕ
  pub names : NamesClass d (out-Member member) class p
  pub again : IsWithin d class body

-- L4: names

-- the later of two members of one name
pub record BreaksNames (d : Declared) (p : Place) : Type 0 where
  pub body : ℕ
  pub sites : List Site
  pub are_members : Members d body sites
  pub j : ℕ
  pub k : ℕ
  pub first : NamedMember
  pub later : NamedMember
  pub before : j < k
  pub is_first : Stands (named_at d sites) j first
  pub is_later : Stands (named_at d sites) k later
  pub one_name : first.name ≡ later.name
  pub place : p ≡ later.at

-- L5: the main block

-- there is no main block, which shows at the end of the text
pub record LacksMain (model : Model) (main : Option (List ℕ)) (d : Declared) (p : Place) : Type 0 where
  pub no_main : (b : ℕ) → IsMain model.names d main b → ⊥
  pub place : p ≡ model.end

-- the rules that are tested over the whole text
abbrev pub text_rules : List ℕ
text_rules = 1 ∷ 2 ∷ 3 ∷ 4 ∷ 5 ∷ []

-- rule n is broken at place p by the model, which declares d
pub data BreaksTextRule (model : Model) (main : Option (List ℕ)) (d : Declared) : ℕ → Place → Type 0 where
  l1 : {p : Place} → BreaksItems model.items.items p → BreaksTextRule model main d 1 p
  l2 : {p : Place} → BreaksTypes d p → BreaksTextRule model main d 2 p
  l3 : {p : Place} → BreaksContainment d p → BreaksTextRule model main d 3 p
  l4 : {p : Place} → BreaksNames d p → BreaksTextRule model main d 4 p
  l5 : {p : Place} → LacksMain model main d p → BreaksTextRule model main d 5 p
