-- Settings that are to be tested, where wrong ones were found.
use Rattle.std.specs.Prelude.{◌≡◌, ◌≤◌, ℕ, List, Option, Some, take}
use Rattle.std.specs.HashMap.{get}
use Rattle.ar_base.specs.Lists.{Stands}
use Rattle.ar_base.specs.declared.places.Place.{Place}
use Rattle.ar_syntax.specs.declared.members.Setting.{Setting}
use Rattle.class_table.specs.Earliest.{IsNotBefore}
use Rattle.class_table.specs.Members.{Site}
use Rattle.hierarchy.specs.Models.{RootedModel}
use Rattle.hierarchy.specs.Settings.{settings_at}
use Rattle.unit_walks.specs.Forms.{same_pair}
use Rattle.unit_rules.specs.declared.left.WrongSearch.{WrongSearch}

-- from number n on, none of these settings stands before the place found
abbrev pub NoneBeforeFrom : List Setting → ℕ → Option Place → Type 0
NoneBeforeFrom settings n found = (k : ℕ) (s : Setting) → Stands settings k s → n ≤ k → IsNotBefore s.at found

-- these are the first ones of the settings, and none behind them stands before the place found
pub record AreToTest (settings : List Setting) (found : Option Place) (tested : List Setting) : Type 0 where
  pub n : ℕ
  pub first : tested ≡ take n settings
  pub rest : NoneBeforeFrom settings n found

-- how many settings of the declaration at a site are to be tested, where that is kept
abbrev pub left_at : WrongSearch → Site → Option ℕ
left_at w s = get same_pair w.left (s.body, s.place)

-- of each declaration, none of the settings behind those that are to be tested stands before the place found
pub record KnowsLeft (m : RootedModel) (w : WrongSearch) : Type 0 where
  pub each : (s : Site) (n : ℕ) → left_at w s ≡ Some n → NoneBeforeFrom (settings_at m s) n w.found
