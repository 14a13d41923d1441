-- The order in which sets of events are listed.
use Rattle.std.specs.Prelude.{◌<◌, ℕ, List}
use Rattle.ar_base.specs.Lists.{Stands, IsOneOf}
use Rattle.ar_base.specs.Sets.{Ascends, Within, IsBefore}

-- the list has the sets with P, and no other, each once as an ascending list, and each before the later ones
pub record AreListed (P : List ℕ → Type 0) (sets : List (List ℕ)) : Type 0 where
  pub ascend : (k : ℕ) (set : List ℕ) → Stands sets k set → Ascends set
  pub sound : (k : ℕ) (set : List ℕ) → Stands sets k set → P set
  pub whole : (set : List ℕ) → P set → (other : List ℕ) × IsOneOf sets other × Within set other × Within other set
  pub in_order : (j k : ℕ) (s t : List ℕ) → j < k → Stands sets j s → Stands sets k t → IsBefore s t
