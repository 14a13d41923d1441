-- Targets that were met before, by the numbers of their words.
use Rattle.std.specs.Prelude.{◌≡◌, ◌<◌, ◌+◌, ◌↔◌, ℕ, true, false, Bool, nat_eq, List, map, Vec}
use Rattle.std.specs.Global.{Global}
use Rattle.std.specs.Cmp.Lexicographic.{pointwise}
use Rattle.std.specs.HashSet as bag
use Rattle.ar_base.specs.Lists.{Stands}
use Rattle.ar_syntax.specs.declared.members.Setting.{Setting}
use Rattle.hierarchy.specs.Settings.{TargetWord, Named, Init, Reset, target_of}
use Rattle.unit_rules.specs.Wrong.{IsSetBefore}
use Rattle.unit_rules.specs.declared.repeats.Targets.{Targets}

-- the number of a word; different words have different ones
abbrev pub code_of : TargetWord → ℕ
code_of Init = 0
code_of Reset = 1
code_of (Named x) = x + 2

-- a target with these numbers was met
abbrev pub was_met : Targets → Vec ℕ Global → Bool
was_met t key = bag.contains (λ (x y : Vec ℕ Global). pointwise nat_eq x.items y.items) t.met key

-- one of the first i settings has a target of these numbers
pub record IsTargetMet (settings : List Setting) (i : ℕ) (codes : List ℕ) : Type 0 where
  pub j : ℕ
  pub before : j < i
  pub setting : Setting
  pub stands : Stands settings j setting
  pub same : map code_of (target_of setting) ≡ codes

-- the targets of the first i settings were met
pub record HaveMet (settings : List Setting) (i : ℕ) (t : Targets) : Type 0 where
  pub met : (key : Vec ℕ Global) → (was_met t key ≡ true) ↔ IsTargetMet settings i key.items

-- the target of setting i was met too, and it was told whether it is new
pub record MeetsOne (settings : List Setting) (i : ℕ) (is_new : Bool) (t : Targets) : Type 0 where
  pub have_met : HaveMet settings (i + 1) t
  pub told : (is_new ≡ false) ↔ IsSetBefore settings i
