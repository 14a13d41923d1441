-- Which variables have other values, or other marks, than they had.
use Rattle.std.specs.Prelude.{◌≡◌, ◌↔◌, ℕ, List, map}
use Rattle.ar_base.specs.Lists.{Stands, IsOneOf}
use Rattle.ar_base.specs.Numbers.{VarId}
use Rattle.ar_base.specs.Sets.{Ascends}

-- the variable of this number has two values, or two marks, that are not the same
pub record HasChanged {A : Type 0} (old new : List A) (n : ℕ) : Type 0 where
  pub before : A
  pub after : A
  pub had : Stands old n before
  pub has : Stands new n after
  pub differ : before ≡ after → ⊥

-- the numbers of these variables
abbrev pub changed_numbers : List VarId → List ℕ
changed_numbers variables = map (λ (x : VarId). x.n) variables

-- these are the variables that changed, ascending
pub record AreChanges {A : Type 0} (old new : List A) (variables : List VarId) : Type 0 where
  pub ascend : Ascends (changed_numbers variables)
  pub each : (n : ℕ) → (IsOneOf (changed_numbers variables) n ↔ HasChanged old new n)
