-- Where settings are, as a table tells it.
use Rattle.std.specs.Prelude.{◌≡◌, ◌<◌, ◌⊎◌, ℕ, List, [], ◌∷◌, map, Option, Some, None, Vec, nat_eq}
use Rattle.std.specs.Global.{Global}
use Rattle.std.specs.HashMap as hash
use Rattle.std.specs.Cmp.Lexicographic.{pointwise}
use Rattle.ar_syntax.specs.declared.expressions.RawExpr.{RawExpr}
use Rattle.ar_syntax.specs.declared.members.Setting.{Setting}
use Rattle.class_table.specs.Members.{Site}
use Rattle.hierarchy.specs.Models.{RootedModel}
use Rattle.hierarchy.specs.Units.{UnitPath}
use Rattle.hierarchy.specs.Settings.{TargetWord, setting_for, settings_at}
use Rattle.unit_rules.specs.Repeats.{code_of}
use Rattle.instantiate.specs.declared.setting_places.SettingPlaces.{SettingPlaces}

-- the place of the first of these settings that sets the target, or none; they are those from the place k on
abbrev pub SetsFrom : UnitPath → Site → ℕ → List Setting → List TargetWord → Option ℕ → Type 0
SetsFrom u s k settings target None = setting_for u s k settings target ≡ None
SetsFrom u s k settings target (Some n) =
    (value : RawExpr) × (setting_for u s k settings target
    ≡ Some (record { unit = u; site = s; setting = Some n; value = value }))

-- the same of all settings of a declaration
abbrev pub SetsAt : UnitPath → Site → List Setting → List TargetWord → Option ℕ → Type 0
SetsAt u s settings target o = SetsFrom u s 0 settings target o

-- the numbers of a declaration and of a target; different ones have different numbers
abbrev pub setting_numbers : Site → List TargetWord → List ℕ
setting_numbers s target = s.body ∷ s.place ∷ map code_of target

-- the place that the table has for these numbers
abbrev pub setting_place : SettingPlaces → Vec ℕ Global → Option ℕ
setting_place p key = hash.get (λ (x y : Vec ℕ Global). pointwise nat_eq x.items y.items) p.places key

-- the table tells for each target what the first of these settings is, which are those of the declaration at the site
pub record TellsAt (s : Site) (settings : List Setting) (p : SettingPlaces) : Type 0 where
  pub each : (u : UnitPath) (target : List TargetWord) (key : Vec ℕ Global) → key.items ≡ setting_numbers s target
      → SetsAt u s settings target (setting_place p key)

-- the same of the settings from the place k on
pub record TellsFrom (s : Site) (k : ℕ) (settings : List Setting) (p : SettingPlaces) : Type 0 where
  pub each : (u : UnitPath) (target : List TargetWord) (key : Vec ℕ Global) → key.items ≡ setting_numbers s target
      → SetsFrom u s k settings target (setting_place p key)

-- these settings of the declaration at the site, which are those from the place k on, were added, and no others
pub record AddsSettings (s : Site) (k : ℕ) (settings : List Setting) (old new : SettingPlaces) : Type 0 where
  pub told : TellsAt s [] old → TellsFrom s k settings new
  pub kept : (t : Site) (settings : List Setting) → (t ≡ s → ⊥) → TellsAt t settings old → TellsAt t settings new

-- the site is of an earlier body, or of an earlier member of this one
abbrev pub IsBehind : Site → ℕ → ℕ → Type 0
IsBehind s b k = (s.body < b) ⊎ ((s.body ≡ b) × (s.place < k))

-- the table tells all settings of the bodies before this one and of its first k members, and no others
pub record TellsFirst (m : RootedModel) (b k : ℕ) (p : SettingPlaces) : Type 0 where
  pub done : (s : Site) → IsBehind s b k → TellsAt s (settings_at m s) p
  pub left : (s : Site) → (IsBehind s b k → ⊥) → TellsAt s [] p

-- the table tells all settings
pub record TellsSettings (m : RootedModel) (p : SettingPlaces) : Type 0 where
  pub at : (s : Site) → TellsAt s (settings_at m s) p
