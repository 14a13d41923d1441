-- What is declared, as it is searched.
use Rattle.std.specs.Prelude.{◌≡◌, Bool, true, false, List, [], ◌∷◌, ◌++◌, Option, Some, None}
use Rattle.ar_syntax.specs.declared.members.Member.{out-Member}
use Rattle.ar_syntax.specs.declared.members.Member.TheOpen as member
use Rattle.ar_base.specs.Numbers.{NameId}
use Rattle.ar_syntax.specs.declared.members.TypeForm.{TypeForm}
use Rattle.ar_syntax.specs.declared.members.TypeForm.TheVariants as form
use Rattle.domains.specs.declared.Domain.{Domain}
use Rattle.class_table.specs.Declaring.{MemberForm, Declared}
use Rattle.class_table.specs.declared.tables.Owned.{Owned}
use Rattle.class_table.specs.declared.tables.Owned.TheVariants.{Plain, Nested}
use Rattle.ar_base.specs.declared.places.Place.{Place}
use Rattle.class_table.specs.Members.{domain_named}
use Rattle.hierarchy.specs.Models.{RootedModel}
use Rattle.hierarchy.specs.Units.{UnitPath, Thing}
use Rattle.hierarchy.specs.Settings.{TargetWord, Init, Reset}
use Rattle.hierarchy.specs.Tie.{IsVariableNode}
use Rattle.hierarchy.specs.TypeDomains.{HasDomain}
use Rattle.hierarchy.specs.declared.tree.VarNode.{VarNode}
use Rattle.unit_rules.specs.Rules.{BreaksDeclaration}

-- the type of a declaration
abbrev pub type_declared : MemberForm → Option TypeForm
type_declared (member.Declare t names settings) = Some t.form
type_declared _ = None

-- the same of a member that was looked up
abbrev pub declared_type : Option Owned → Option TypeForm
declared_type None = None
declared_type (Some (Plain m)) = type_declared (out-Member m)
declared_type (Some (Nested x at b)) = None

-- the type of a parameter, which a parameter Real has none of
abbrev pub parameter_type_in : MemberForm → Option (Option TypeForm)
parameter_type_in (member.Parameter t x at e) = Some (Some t.form)
parameter_type_in (member.Kept x at span) = Some None
parameter_type_in _ = None

-- the same of a member that was looked up
abbrev pub parameter_type : Option Owned → Option (Option TypeForm)
parameter_type None = None
parameter_type (Some (Plain m)) = parameter_type_in (out-Member m)
parameter_type (Some (Nested x at b)) = None

-- the domain of a type, as far as it has one
pub data HasDomainIf (d : Declared) : TypeForm → Option Domain → Type 0 where
  has : {f : TypeForm} {v : Domain} → HasDomain d f v → HasDomainIf d f (Some v)
  every_whole : HasDomainIf d form.Integer None
  no_domain : {x : NameId} → domain_named d x.n ≡ None → HasDomainIf d (form.Named x) None

-- each declaration of variables of these units has one setting, called init or reset
pub record KeepsDeclarations (m : RootedModel) (units : List UnitPath) : Type 0 where
  pub kept : (p : Place) → BreaksDeclaration m units p → ⊥

-- the last word of the target of a state variable or a flow
abbrev pub last_target_word : Bool → TargetWord
last_target_word true = Init
last_target_word false = Reset

-- behind these variables the thing's was added
pub record AddsVariable (m : RootedModel) (units : List UnitPath) (t : Thing) (old new : List VarNode) : Type 0 where
  pub added : VarNode
  pub is : IsVariableNode m units t added
  pub items : new ≡ old ++ added ∷ []
