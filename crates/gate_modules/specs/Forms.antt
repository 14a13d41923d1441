-- What the walk for the short forms keeps.
use Rattle.std.specs.Prelude.{◌≡◌, ◌≢◌, ◌≤◌, ℕ, true, List, [], ◌++◌, map}
use Rattle.std.specs.List.{AllByRecursion}
use Rattle.ar_base.specs.Lists.{IsOneOf}
use Rattle.zdd_nodes.specs.Families.{Family}
use Rattle.zdd_nodes.specs.Sections.{section}
use Rattle.zdd_nodes.specs.Behind.{behind_events}
use Rattle.zdd_nodes.specs.Nodes.{Stored, family, IsFamilyNumber}
use Rattle.gate_modules.specs.Modules.{lies}
use Rattle.gate_modules.specs.Shortened.{ShortForm, touches, short_form, once}
use Rattle.zdd_nodes.specs.Bounds.{AtLeast, EndsBelow}
use Rattle.gate_modules.specs.Entries.{IsNumberReached}
use Rattle.gate_modules.specs.declared.ranges.Range.{Range}

-- no event is of two of these ranges, and no two are of one unit
pub record AreOfDifferentUnits (chosen : List Range) : Type 0 where
  pub one : (a b : Range) → IsOneOf chosen a → IsOneOf chosen b → (e : ℕ) → lies a e ≡ true → lies b e ≡ true → a ≡ b
  pub units : (a b : Range) → IsOneOf chosen a → IsOneOf chosen b → a.unit.n ≡ b.unit.n → a ≡ b

-- whatever the sets of the family have below the range, they go on alike after each nonempty set of its events
pub record GoesOnAlike (r : Range) (f : Family) : Type 0 where
  pub alike : (p a b : List ℕ) → a ≢ [] → b ≢ [] → section r.to a (section r.from p f) ≢ []
      → section r.to b (section r.from p f) ≢ []
      → section r.to a (section r.from p f) ≡ section r.to b (section r.from p f)

-- the family goes on alike for each unit, and it has passed those of which events were taken
pub record PassesTaken (chosen : List Range) (taken : List ℕ) (f : Family) : Type 0 where
  pub alike : (r : Range) → IsOneOf chosen r → GoesOnAlike r f
  pub passed : (r : Range) → IsOneOf chosen r → touches taken r ≡ true → AllByRecursion (AtLeast r.to) f

-- the short forms of the sets, each behind the events that were taken before, are added, each once
abbrev pub AddsForms : List Range → List ℕ → Family → List ShortForm → List ShortForm → Type 0
AddsForms chosen taken f old new = new ≡ old ++ once (map (short_form chosen) (behind_events taken f))

-- x follows no event of the number below the bound
pub record IsSkip (s : Stored) (to n x : ℕ) : Type 0 where
  pub inside : IsFamilyNumber s x
  pub at_most : x ≤ n
  pub is : section to [] (family s n) ≡ family s x
  pub reached : IsNumberReached s to n x
  pub ends : EndsBelow s to x

-- the event is of this one of the ranges
pub record IsEventOfRange (chosen : List Range) (e : ℕ) (r : Range) : Type 0 where
  pub is_chosen : IsOneOf chosen r
  pub holds : lies r e ≡ true
