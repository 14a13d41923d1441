-- What entries tell at a set of events.
use Rattle.std.specs.Prelude.{◌≡◌, ℕ, List}
use Rattle.ar_base.specs.Lists.{IsOneOf}
use Rattle.domains.specs.declared.Value.{Value}
use Rattle.eq_core.specs.Gates.{Gate}
use Rattle.eq_core.specs.ValuesInside.{IsTrueWhere, GainsGates}
use Rattle.eq_build.specs.Entries.{Entry, Built}

-- each entry's operand is true at the set exactly where P holds of its value, and each value with P has an entry
pub record AreEntries (set : List ℕ) (gates : List Gate) (es : List Entry) (P : Value → Type 0) : Type 0 where
  pub tells : (e : Entry) → IsOneOf es e → IsTrueWhere set gates e.operand (P e.value)
  pub whole : (d : Value) → P d → (e : Entry) × IsOneOf es e × (e.value ≡ d)

-- what was built has only more gates, and its entries tell of P
pub record IsBuilt (set : List ℕ) (gates : List Gate) (b : Built) (P : Value → Type 0) : Type 0 where
  pub grown : GainsGates gates b.gates
  pub entries : AreEntries set b.gates b.entries P
