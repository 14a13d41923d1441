-- Wrong settings, as they are searched.
use Rattle.std.specs.Prelude.{◌≡◌, ◌<◌, ◌⊎◌, ℕ, List, Some}
use Rattle.ar_base.specs.Lists.{Stands}
use Rattle.ar_base.specs.declared.places.Place.{Place}
use Rattle.ar_syntax.specs.declared.members.Setting.{Setting}
use Rattle.class_table.specs.Members.{Site}
use Rattle.hierarchy.specs.Models.{RootedModel}
use Rattle.hierarchy.specs.Units.{UnitPath, set_at_of}
use Rattle.hierarchy.specs.Settings.{target_of, settings_at}
use Rattle.unit_rules.specs.Rules.{IsSettingTarget}

-- setting k of these has the words of an earlier one
pub record IsSetBefore (settings : List Setting) (k : ℕ) : Type 0 where
  pub j : ℕ
  pub before : j < k
  pub first : Setting
  pub has_first : Stands settings j first
  pub later : Setting
  pub has_later : Stands settings k later
  pub same : target_of first ≡ target_of later

-- setting k of these, which hold in the unit u, is wrong, and stands here
pub record BreaksAt (m : RootedModel) (u : UnitPath) (settings : List Setting) (k : ℕ) (s : Setting) (p : Place) : Type
    0 where
  pub wrong : (IsSettingTarget m u (target_of s) → ⊥) ⊎ IsSetBefore settings k
  pub place : p ≡ s.at

-- one of these settings is
pub record BreaksIn (m : RootedModel) (u : UnitPath) (settings : List Setting) (p : Place) : Type 0 where
  pub k : ℕ
  pub setting : Setting
  pub stands : Stands settings k setting
  pub breaks : BreaksAt m u settings k setting p

-- one of the declaration whose settings hold in the unit is
pub record BreaksSettings (m : RootedModel) (u : UnitPath) (p : Place) : Type 0 where
  pub site : Site
  pub set_at : set_at_of u ≡ Some site
  pub breaks : BreaksIn m u (settings_at m site) p
