-- The values and marks that were, by what changed.
use Rattle.std.specs.Prelude.{◌≡◌, ℕ, Bool, false, not, List, [], ◌∷◌, length, slice_get, slice_set, unwrap_or, Option, Some, None}
use Rattle.ar_base.specs.Numbers.{VarId}
use Rattle.domains.specs.declared.Value.{Value}
use Rattle.domains.specs.declared.Value.TheVariants.{Truth}
use Rattle.gts_core.specs.declared.system.Variable.{Variable}
use Rattle.gts_core.specs.declared.system.GtsParts.{GtsParts}
use Rattle.flow_changes.specs.Changes.{AreChanges}
use Rattle.flow_changes.specs.Codes.{decoded}
use Rattle.flow_changes.specs.declared.changes.Changes.{Changes}

-- the value that a number stands for at a variable that was looked up, false where there is none
abbrev pub decoded_in : Option Variable → ℕ → Value
decoded_in (Some x) c = decoded x.domain c
decoded_in None c = Truth false

-- the value that a number stands for at the variable of number n
abbrev pub decoded_at : GtsParts → ℕ → ℕ → Value
decoded_at p n c = decoded_in (slice_get p.variables.items n) c

-- the valuation with the values of these codes at these variables
abbrev pub restored : GtsParts → List Value → List VarId → List ℕ → List Value
restored p t [] cs = t
restored p t (x ∷ xs) [] = t
restored p t (x ∷ xs) (c ∷ cs) = restored p (slice_set t x.n (decoded_at p x.n c)) xs cs

-- the mark of number n, false past the end
abbrev pub mark_at : List Bool → ℕ → Bool
mark_at marks n = unwrap_or (slice_get marks n) false

-- the marks with those of these variables turned round
abbrev pub marks_turned : List Bool → List VarId → List Bool
marks_turned marks [] = marks
marks_turned marks (x ∷ xs) = marks_turned (slice_set marks x.n (not (mark_at marks x.n))) xs

-- these variables are those that changed from one valuation to another, and the codes give their old values back
pub record GivesBack (p : GtsParts) (old new : List Value) (variables : List VarId) (codes : List ℕ) : Type 0 where
  pub long : length variables ≡ length codes
  pub changes : AreChanges old new variables
  pub values : restored p new variables codes ≡ old

-- these variables are those whose marks turned from some marks to others, and give the first back
pub record TurnsBack (old new : List Bool) (variables : List VarId) : Type 0 where
  pub turns : AreChanges old new variables
  pub marks : marks_turned new variables ≡ old

-- these say what changed from one valuation with marks to another, and give the first back
pub record TellsChanges (p : GtsParts) (old : List Value) (old_known : List Bool) (new : List Value) (known : List Bool)
    (c : Changes) : Type 0 where
  pub long : length c.variables.items ≡ length c.old.items
  pub changes : AreChanges old new c.variables.items
  pub values : restored p new c.variables.items c.old.items ≡ old
  pub turns : AreChanges old_known known c.turned.items
  pub marks : marks_turned known c.turned.items ≡ old_known
