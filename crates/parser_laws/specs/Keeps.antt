-- What each tree of a text keeps: its names have numbers below `names`, and no list of it has more than `room` items.
use Rattle.std.specs.Prelude.{◌≡◌, ℕ, zero, suc, ◌≤◌, ◌<◌, Bool, ℤ, Option, Some, None, List, length, Vec, Box}
use Rattle.std.specs.List.{AllByRecursion}
use Rattle.std.specs.declared.alloc.Global.{Global}
use Rattle.ar_base.specs.declared.places.Place.{Place}
use Rattle.ar_base.specs.declared.places.Span.{Span}
use Rattle.ar_syntax.specs.declared.paths.Path.{Path}
use Rattle.ar_syntax.specs.declared.expressions.RawExpr.{RawExpr}
use Rattle.ar_syntax.specs.declared.expressions.RawForm.{RawForm}
use Rattle.ar_syntax.specs.declared.expressions.RawForm.TheVariants as form
use Rattle.ar_syntax.specs.declared.expressions.RawRelation.{RawRelation}
use Rattle.ar_syntax.specs.declared.instructions.Instr.{Instr}
use Rattle.ar_syntax.specs.declared.instructions.Instr.TheVariants as instr
use Rattle.ar_syntax.specs.declared.members.Member.{Member}
use Rattle.ar_syntax.specs.declared.members.Member.TheVariants as member
use Rattle.ar_syntax.specs.declared.members.Part.{Part}
use Rattle.ar_syntax.specs.declared.members.Setting.{Setting}
use Rattle.ar_syntax.specs.declared.members.TypeForm.{TypeForm}
use Rattle.ar_syntax.specs.declared.members.TypeForm.TheVariants as type_form
use Rattle.ar_syntax.specs.declared.members.TypeName.{TypeName}
use Rattle.ar_syntax.specs.declared.members.Unit.{Unit as UnitTree}
use Rattle.ar_syntax.specs.declared.members.Word.{Word}
use Rattle.ar_syntax.specs.declared.members.Word.TheVariants as word
use Rattle.ar_syntax.specs.declared.items.DomainBody.{DomainBody}
use Rattle.ar_syntax.specs.declared.items.DomainBody.TheVariants as domain
use Rattle.ar_syntax.specs.declared.items.Item.{Item}
use Rattle.ar_syntax.specs.declared.items.Item.TheVariants as item
use Rattle.ar_syntax.specs.declared.items.Model.{Model}
use Rattle.ar_base.specs.Numbers.{NameId}
use Rattle.ar_parser.specs.Models.{Reads}
use Rattle.parser_laws.specs.Expressions.{ListedForm, listed_form}

-- at most `room` items, each of which passes
abbrev pub IsListOf : {A : Type 0} → ℕ → (A → Type 0) → List A → Type 0
IsListOf room P xs = (length xs ≤ room) × AllByRecursion P xs

abbrev pub IsNameIn : ℕ → NameId → Type 0
IsNameIn names id = id.n < names

abbrev pub PathKeeps : ℕ → ℕ → Path → Type 0
PathKeeps names room p = IsListOf room (IsNameIn names) p.names.items

-- Expressions, where the expressions inside pass a test

pub data FormKeeps (names room : ℕ) (Inside : RawExpr → Type 0) (f : RawForm) : Type 0 where
  truth : (b : Bool) → f ≡ form.Truth b → FormKeeps names room Inside f
  whole : (n : ℤ) → f ≡ form.Whole n → FormKeeps names room Inside f
  real : f ≡ form.Real → FormKeeps names room Inside f
  path : (p : Path) → f ≡ form.Path p → PathKeeps names room p → FormKeeps names room Inside f
  negation : (x : Box RawExpr Global) → f ≡ form.Not x → Inside x.value → FormKeeps names room Inside f
  minus : (x : Box RawExpr Global) → f ≡ form.Minus x → Inside x.value → FormKeeps names room Inside f
  listed : (k : ListedForm) (v : Vec RawExpr Global) → f ≡ listed_form k v → IsListOf room Inside v.items
      → FormKeeps names room Inside f
  compared : (r : RawRelation) (x y : Box RawExpr Global) → f ≡ form.Compare r x y → Inside x.value → Inside y.value
      → FormKeeps names room Inside f
  sum : (v : Vec (Bool × RawExpr) Global) → f ≡ form.Sum v → IsListOf room (λ s. Inside s.1) v.items
      → FormKeeps names room Inside f
  choice : (v : Vec (RawExpr × RawExpr) Global) (x : Box RawExpr Global) → f ≡ form.Choose v x
      → IsListOf room (λ s. Inside s.0 × Inside s.1) v.items → Inside x.value → FormKeeps names room Inside f

-- down to depth d
abbrev pub ExprKeepsTo : ℕ → ℕ → ℕ → RawExpr → Type 0
ExprKeepsTo names room zero e = Unit {0}
ExprKeepsTo names room (suc d) e = FormKeeps names room (ExprKeepsTo names room d) e.form

abbrev pub ExprKeeps : ℕ → ℕ → RawExpr → Type 0
ExprKeeps names room e = (d : ℕ) → ExprKeepsTo names room d e

-- Instructions

abbrev pub OptionKeeps : (Instr → Type 0) → Option (Box Instr Global) → Type 0
OptionKeeps Inside None = Unit {0}
OptionKeeps Inside (Some b) = Inside b.value

pub data StepKeeps (names room : ℕ) (Inside : Instr → Type 0) (i : Instr) : Type 0 where
  skip : i ≡ instr.Skip → StepKeeps names room Inside i
  assign : (p : Path) (e : RawExpr) → i ≡ instr.Assign p e → PathKeeps names room p → ExprKeeps names room e
      → StepKeeps names room Inside i
  tie : (p q : Path) → i ≡ instr.Tie p q → PathKeeps names room p → PathKeeps names room q
      → StepKeeps names room Inside i
  conditional : (e : RawExpr) (x : Box Instr Global) (other : Option (Box Instr Global)) → i ≡ instr.If e x other
      → ExprKeeps names room e → Inside x.value → OptionKeeps Inside other → StepKeeps names room Inside i
  group : (v : Vec Instr Global) → i ≡ instr.All v → IsListOf room Inside v.items → StepKeeps names room Inside i

abbrev pub InstrKeepsTo : ℕ → ℕ → ℕ → Instr → Type 0
InstrKeepsTo names room zero i = Unit {0}
InstrKeepsTo names room (suc d) i = StepKeeps names room (InstrKeepsTo names room d) i

abbrev pub InstrKeeps : ℕ → ℕ → Instr → Type 0
InstrKeeps names room i = (d : ℕ) → InstrKeepsTo names room d i

-- Members

abbrev pub TypeKeeps : ℕ → TypeForm → Type 0
TypeKeeps names (type_form.Named id) = IsNameIn names id
TypeKeeps names _ = Unit {0}

abbrev pub WordKeeps : ℕ → Word → Type 0
WordKeeps names (word.Name id) = IsNameIn names id
WordKeeps names _ = Unit {0}

abbrev pub SettingKeeps : ℕ → ℕ → Setting → Type 0
SettingKeeps names room s = IsListOf room (WordKeeps names) s.target.items × ExprKeeps names room s.value

abbrev pub PartKeeps : ℕ → ℕ → Part → Type 0
PartKeeps names room p = PathKeeps names room p.event

pub data MemberKeeps (names room : ℕ) (Inside : UnitTree → Type 0) (m : Member) : Type 0 where
  extends : (name : NameId) (at : Place) → m ≡ member.Extends name at → IsNameIn names name
      → MemberKeeps names room Inside m
  declared : (type : TypeName) (ids : Vec (NameId × Place) Global) (settings : Vec Setting Global)
      → m ≡ member.Declare type ids settings →
      TypeKeeps names type.form → IsListOf room (λ x. IsNameIn names x.0) ids.items
      → IsListOf room (SettingKeeps names room) settings.items → MemberKeeps names room Inside m
  block : (u : UnitTree) → m ≡ member.Block u → Inside u → MemberKeeps names room Inside m
  clones : (p : Path) (name : NameId) (at : Place) → m ≡ member.Clones p name at → PathKeeps names room p
      → IsNameIn names name → MemberKeeps names room Inside m
  embeds : (p : Path) (name : NameId) (at : Place) → m ≡ member.Embeds p name at → PathKeeps names room p
      → IsNameIn names name → MemberKeeps names room Inside m
  parameter : (type : TypeName) (name : NameId) (at : Place) (value : RawExpr) → m ≡ member.Parameter type name at value
      → TypeKeeps names type.form → IsNameIn names name → ExprKeeps names room value → MemberKeeps names room Inside m
  kept : (name : NameId) (at : Place) (span : Span) → m ≡ member.Kept name at span → IsNameIn names name
      → MemberKeeps names room Inside m
  event : (name : NameId) (at : Place) (attribute : Option Span) → m ≡ member.Event name at attribute
      → IsNameIn names name → MemberKeeps names room Inside m
  observer : (type : TypeName) (name : NameId) (at : Place) (value : RawExpr) → m ≡ member.Observer type name at value
      → TypeKeeps names type.form → IsNameIn names name → ExprKeeps names room value → MemberKeeps names room Inside m
  hide : (p : Path) → m ≡ member.Hide p → PathKeeps names room p → MemberKeeps names room Inside m
  local : (name : NameId) (at : Place) (guard : RawExpr) (action : Instr) → m ≡ member.Local name at guard action
      → IsNameIn names name → ExprKeeps names room guard → InstrKeeps names room action
      → MemberKeeps names room Inside m
  sync : (name : NameId) (at : Place) (parts : Vec Part Global) → m ≡ member.Sync name at parts → IsNameIn names name
      → IsListOf room (PartKeeps names room) parts.items → MemberKeeps names room Inside m
  assertion : (i : Instr) → m ≡ member.Assert i → InstrKeeps names room i → MemberKeeps names room Inside m

abbrev pub UnitKeepsTo : ℕ → ℕ → ℕ → UnitTree → Type 0
UnitKeepsTo names room zero u = Unit {0}
UnitKeepsTo names room (suc d) u = IsNameIn names u.name
    × IsListOf room (MemberKeeps names room (UnitKeepsTo names room d)) u.members.items

abbrev pub UnitKeeps : ℕ → ℕ → UnitTree → Type 0
UnitKeeps names room u = (d : ℕ) → UnitKeepsTo names room d u

-- Models

abbrev pub DomainKeeps : ℕ → ℕ → DomainBody → Type 0
DomainKeeps names room (domain.Symbols ids) = IsListOf room (λ x. IsNameIn names x.0) ids.items
DomainKeeps names room (domain.Range low high) = Unit {0}

abbrev pub ItemKeeps : ℕ → ℕ → Item → Type 0
ItemKeeps names room (item.Domain d) = IsNameIn names d.name × DomainKeeps names room d.body
ItemKeeps names room (item.Class u) = UnitKeeps names room u
ItemKeeps names room (item.Block u) = UnitKeeps names room u

-- Each name of a text's tree has a number in the tree's table, and no list of it has more items than the text has
-- bytes.
abbrev pub TreesKeep : List ℕ → Type 0
TreesKeep bytes = (model : Model) → Reads bytes model
    → IsListOf (length bytes) (ItemKeeps (length model.names) (length bytes)) model.items.items
