-- How the chosen units are gathered.
use Rattle.std.specs.Prelude.{◌≡◌, ◌⊎◌, ◌<◌, ℕ, List, [], ◌∷◌, ◌++◌}
use Rattle.ar_base.specs.Lists.{Stands, IsOneOf, Along}
use Rattle.zdd_nodes.specs.Families.{Family}
use Rattle.gate_modules.specs.Deciding.{IsModuleWith}
use Rattle.gate_modules.specs.Modules.{Covers, IsModule, IsRound, IsChosen}
use Rattle.gate_modules.specs.Shortened.{UnitSets, IsModuleOf}
use Rattle.gate_modules.specs.declared.ranges.Range.{Range}

-- one of these covers the range
pub record IsRangeCovered (chosen : List Range) (r : Range) : Type 0 where
  pub outer : Range
  pub is_chosen : IsOneOf chosen outer
  pub covers : Covers outer r

-- none of these covers the range
pub record IsWithinNone (chosen : List Range) (r : Range) : Type 0 where
  pub none : (c : Range) → IsOneOf chosen c → Covers c r → ⊥

-- a range is considered behind those that are chosen: it lies within one of them, or it is no module, or it comes last
-- with its parts
pub data Considers (f : Family) (r : Range) (old : List Range) (old_modules : List UnitSets) : List Range
    → List UnitSets → Type 0 where
  within : IsRangeCovered old r → Considers f r old old_modules old old_modules
  no_module : (IsModule f r → ⊥) → Considers f r old old_modules old old_modules
  is_new : {new : List Range} {modules : List UnitSets} (m : UnitSets) → IsWithinNone old r → IsModuleWith f r m.sets
      → m.unit ≡ r.unit.n → new ≡ old ++ r ∷ [] → modules ≡ old_modules ++ m ∷ []
      → Considers f r old old_modules new modules

-- of the ranges that were considered these are chosen, with these parts, and each other module among them lies within a
-- chosen one
pub record AreChosenSoFar (f : Family) (ranges done chosen : List Range) (modules : List UnitSets) : Type 0 where
  pub from_done : (c : Range) → IsOneOf chosen c → IsOneOf done c
  pub sound : (c : Range) → IsOneOf chosen c → IsChosen f ranges c
  pub covering : (o : Range) → IsOneOf done o → IsModule f o → (c : Range) × IsOneOf chosen c × ((c ≡ o) ⊎ IsRound c o)
  pub ascend : (j k : ℕ) (a b : Range) → j < k → Stands chosen j a → Stands chosen k b → a.unit.n < b.unit.n
  pub modules_are : Along (IsModuleOf f) chosen modules
