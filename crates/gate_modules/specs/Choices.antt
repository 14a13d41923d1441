-- What short forms stand for.
use Rattle.std.specs.Prelude.{◌≡◌, ◌||◌, ℕ, true, List}
use Rattle.std.specs.List.{list_any}
use Rattle.ar_base.specs.Lists.{IsOneOf, Along}
use Rattle.ar_base.specs.Sets.{Ascends}
use Rattle.zdd_nodes.specs.Families.{Family, has, holds}
use Rattle.gate_modules.specs.Shortened.{UnitSets, ShortForm}

-- the set is one of those of the unit's module
pub record IsSetOf (modules : List UnitSets) (unit : ℕ) (set : List ℕ) : Type 0 where
  pub sets_of : UnitSets
  pub listed : IsOneOf modules sets_of
  pub unit_is : sets_of.unit ≡ unit
  pub is_set : IsOneOf sets_of.sets set

-- a choice for the form: for each of its units one of the sets of that unit's module
abbrev pub IsChoice : List UnitSets → ShortForm → List (List ℕ) → Type 0
IsChoice modules form choice = Along (IsSetOf modules) form.units choice

-- the events of the set are those of the chosen sets and those of the form
pub record IsChoiceOf (form : ShortForm) (choice : List (List ℕ)) (set : List ℕ) : Type 0 where
  pub ascends : Ascends set
  pub each : (e : ℕ) → holds e set ≡ (list_any (holds e) choice || holds e form.events)

-- one of the forms, and a choice for it, of which the set is made
pub record ComesFrom (modules : List UnitSets) (forms : List ShortForm) (set : List ℕ) : Type 0 where
  pub form : ShortForm
  pub choice : List (List ℕ)
  pub listed : IsOneOf forms form
  pub is_choice : IsChoice modules form choice
  pub is_made : IsChoiceOf form choice set

-- the forms stand for the family: of each choice for one of the forms a set of the family is made, and each set of the
-- family comes from just one form and one choice
pub record StandFor (f : Family) (modules : List UnitSets) (forms : List ShortForm) : Type 0 where
  pub made : (form : ShortForm) (choice : List (List ℕ)) → IsOneOf forms form → IsChoice modules form choice
      → (set : List ℕ) × (has f set ≡ true) × IsChoiceOf form choice set
  pub whole : (set : List ℕ) → has f set ≡ true → ComesFrom modules forms set
  pub one : (set : List ℕ) (a b : ComesFrom modules forms set) → (a.form ≡ b.form) × (a.choice ≡ b.choice)
