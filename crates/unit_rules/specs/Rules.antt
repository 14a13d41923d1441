-- Rules L8 and L9, each with the places where it is broken.
use Rattle.std.specs.Prelude.{◌≡◌, ℕ, ◌<◌, false, true, List, [], ◌∷◌, Vec, Some}
use Rattle.std.specs.Global.{Global}
use Rattle.ar_base.specs.Lists.{Stands, IsOneOf}
use Rattle.ar_base.specs.Numbers.{NameId}
use Rattle.ar_base.specs.declared.places.Place.{Place}
use Rattle.ar_syntax.specs.declared.members.Member.TheOpen as member
use Rattle.ar_syntax.specs.declared.members.Setting.{Setting}
use Rattle.ar_syntax.specs.declared.members.TypeName.{TypeName}
use Rattle.class_table.specs.Declaring.{MemberForm, Declared}
use Rattle.class_table.specs.Members.{Site, NamedMember}
use Rattle.hierarchy.specs.Models.{RootedModel}
use Rattle.hierarchy.specs.Units.{UnitLevel, UnitPath, name_at}
use Rattle.hierarchy.specs.Walks.{thing, PassesTest, is_parameter}
use Rattle.hierarchy.specs.Listing.{MakesUnit, forms_at}
use Rattle.hierarchy.specs.Settings.{TargetWord, Named, Init, Reset, target_of, settings_at, is_state, is_flow, is_state_variable, is_flow_variable}
use Rattle.unit_rules.specs.Typing.{bounds_variables}

-- L8

-- the settings of a declaration of variables are not exactly one, called init or reset; its first name stands here
pub data BreaksForm (d : Declared) : MemberForm → Place → Type 0 where
  declares : {type : TypeName} {names : Vec (NameId × Place) Global} {settings : Vec Setting Global} {p : Place}
      (x : NameId) (more : List (NameId × Place))
      → bounds_variables d type.form ≡ true → is_state settings.items ≡ false → is_flow settings.items ≡ false
      → names.items ≡ (x, p) ∷ more
      → BreaksForm d (member.Declare type names settings) p

-- a declaration of some unit is so
pub record BreaksDeclaration (m : RootedModel) (units : List UnitPath) (at : Place) : Type 0 where
  pub unit : UnitPath
  pub is_unit : IsOneOf units unit
  pub form : MemberForm
  pub is_member : IsOneOf (forms_at m unit) form
  pub breaks : BreaksForm m.declared form at

-- L9

-- from the unit the words lead through inner units to a parameter, to init of a state variable or to reset of a flow
pub data IsSettingTarget (m : RootedModel) : UnitPath → List TargetWord → Type 0 where
  parameter : {u : UnitPath} {x : ℕ} → PassesTest m is_parameter (thing u x) → IsSettingTarget m u (Named x ∷ [])
  init : {u : UnitPath} {x : ℕ} → PassesTest m is_state_variable (thing u x) → IsSettingTarget m u (Named x ∷ Init ∷ [])
  reset : {u : UnitPath} {x : ℕ} → PassesTest m is_flow_variable (thing u x)
      → IsSettingTarget m u (Named x ∷ Reset ∷ [])
  inside : {u v : UnitPath} {x : ℕ} {words : List TargetWord} (g : NamedMember) → name_at m u x ≡ Some g → MakesUnit m u
      g v → IsSettingTarget m v words
      → IsSettingTarget m u (Named x ∷ words)

-- setting k of the declaration whose settings hold in some unit
pub record HasSetting (m : RootedModel) (units : List UnitPath) (u : UnitPath) (k : ℕ) (s : Setting) : Type 0 where
  pub level : UnitLevel
  pub above : UnitPath
  pub split : u ≡ level ∷ above
  pub is_unit : IsOneOf units u
  pub site : Site
  pub set_at : level.set_at ≡ Some site
  pub stands : Stands (settings_at m site) k s

-- a setting has no target, or it is the later of two that set one target
pub data BreaksSetting (m : RootedModel) (units : List UnitPath) : Place → Type 0 where
  no_target : {u : UnitPath} {k : ℕ} {s : Setting} → HasSetting m units u k s → (IsSettingTarget m u (target_of s) → ⊥)
      → BreaksSetting m units s.at
  twice : {u : UnitPath} {j k : ℕ} {s t : Setting} → HasSetting m units u j s → HasSetting m units u k t → j < k
      → target_of s ≡ target_of t → BreaksSetting m units t.at
